use Rattle.std.proofs.Common.{Some, ap, cond, ◌∙◌}
use Rattle.std.specs.BTreeMap.{get_by_text}
use Rattle.std.specs.Str.{bytes_eq}
use Rattle.std.proofs.lemmas.Map.Text.{btree_map_updates_text}
use Rattle.swc_base_early_errors.proofs.claims.ClaimedNames.insert.Goals as goal

pub returns : goal.returns
returns c = λ x.
    btree_map_updates_text _ c.args.self.now.names c.insert.new.self (Some c.args.alone) c.in_ok-insert.ensures.updates x
    ∙ ap (λ k. cond (bytes_eq k x) (Some c.args.alone) (get_by_text c.args.self.now.names x)) c.in_ok-copy.ensures.ok
