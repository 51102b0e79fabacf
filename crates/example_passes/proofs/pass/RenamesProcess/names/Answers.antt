use Rattle.std.proofs.Common.{Some, cond, [], ◌∷◌, ◌++◌, ap, ◌∙◌}
use Rattle.std.specs.Map.{lookup}
use Rattle.swc_base_rename_substitution.specs.Names.{same_id}
use Rattle.example_passes.proofs.pass.RenamesProcess.names.Goals as goal

pub returns : goal.returns
returns c =
    let context = c.in_ok-apply_mark.ensures.ok ∙ ap (λ marks. marks ++ c.args.self.now.unresolved ∷ []) c.empty-context.ensures in
    λ x. c.in_ok-insert.ensures.updates.0 x
    ∙ (λ j. cond (same_id (c.in_ok-process.ensures j, context j) x) (Some (c.in_ok-clone.ensures.cases j)) (lookup (same_id x) (c.new-names.ensures.empty j)))
