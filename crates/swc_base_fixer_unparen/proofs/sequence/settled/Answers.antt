use Rattle.std.proofs.Common.{◌∙◌, ap, ◌++◌}
use Rattle.std.specs.List.{flat_map}
use Rattle.swc_tree_grammar.specs.Stripped.{effects}
use Rattle.swc_base_fixer_unparen.proofs.Fields.{settled_by_last}
use Rattle.swc_base_fixer_unparen.proofs.sequence.settled.Goals as goal

pub returns-in_ok-push-in-Some : goal.returns-in_ok-push-in-Some
returns-in_ok-push-in-Some c =
    let effects = c.in_ok-add_all_effects-in-Some.ensures ∙ ap (λ es. es ++ flat_map effects c.pop.new.self) c.new-effects.ensures in
    settled_by_last _ _ _ _ _ _ c.in-Some.ensures effects c.busy-items.ensures c.in_ok-push-in-Some.ensures.ok
