use Rattle.std.proofs.Common.{◌||◌, ◌==◌, ◌<◌, length, nat_cmp, take, get_or, ap, sym, ◌∙◌, arith}
use Rattle.std.specs.BTreeSet.{contains}
use Rattle.std.specs.List.{list_any}
use Rattle.std.proofs.lemmas.List.Folds.{list_any_more}
use Rattle.swc_base_rename_naming.proofs.Marks.{one_more, or_grouped}
use Rattle.swc_base_rename_naming.proofs.leaked.add_all.Goals as goal

pub loop-position-preserved : goal.loop-position-preserved
loop-position-preserved c = λ p.
    let positions = c.args.positions.now in
    let i = c.loop-position.position-index in
    let within : i < length positions = omega arith in
    let here = get_or positions i 0 == p in
    c.in_ok-insert.ensures.updates.0 p
    ∙ one_more (get_or positions i 0) p (contains nat_cmp c.loop-position.places p)
    ∙ ap (λ b. b || here) (c.loop-position.invariant p)
    ∙ or_grouped (contains nat_cmp c.args.places.now p) (list_any (λ q. q == p) (take i positions)) here
    ∙ ap (λ b. contains nat_cmp c.args.places.now p || b) (sym (list_any_more (λ q. q == p) positions i 0 within))
