use Rattle.std.proofs.Common.{[], ◌∷◌, arith}
use Rattle.std.specs.BTreeMap.Entry.{map_with_value}
use Rattle.std.proofs.lemmas.Result.{err_from_is_err_and}
use Rattle.swc_base_rename_naming.proofs.Tables.{ids_kept, ids_written}
use Rattle.swc_base_rename_naming.proofs.reverse_map.give.Goals as goal

-- a list may have been made for the text, and is empty
pub returns-in_err-push-clause-refused : goal.returns-in_err-push-clause-refused
returns-in_err-push-clause-refused c =
    let found = rw c.in_ok-holders.ensures.value at c.or_default.ensures.value in
    let kept = ids_kept c.args.holders.now (map_with_value c.in_ok-holders.field-0 c.push.new.self) c.args.text c.or_default.result.now c.push.new.self found c.in_err-push.ensures.items (c.in_ok-holders.ensures.update.0 c.push.new.self) in
    let refused = err_from_is_err_and c.from_residual-in_err-push.result c.from_residual-in_err-push.ensures.1 in
    rw refused.1 (λ x. grind (arith, kept x))

pub returns-clause-pushed : goal.returns-clause-pushed
returns-clause-pushed c =
    let found = rw c.in_ok-holders.ensures.value at c.or_default.ensures.value in
    let written = ids_written c.args.holders.now (map_with_value c.in_ok-holders.field-0 c.push.new.self) c.args.text c.or_default.result.now c.push.new.self (c.args.id ∷ []) found c.in_ok-push.ensures.items (c.in_ok-holders.ensures.update.0 c.push.new.self) in
    λ x. grind (arith, written x)
