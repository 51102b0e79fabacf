use Rattle.std.proofs.Common.{refl, subst}
use Rattle.std.proofs.lemmas.Result.{err_from_is_err_and}
use Rattle.swc_base_rename_program.specs.Renamed.{IsHygienic, IsRenameRefusal, hygiene_renaming}
use Rattle.mucwathi_given.proofs.make.set_apart.Goals as goal

pub returns-clause-made : goal.returns-clause-made
returns-clause-made c = (refl, subst (λ config. IsHygienic c.args.given.globals config c.args.given.tree c.in_ok-tree.tree) c.config_of-config.ensures c.in_ok-tree.ensures.hygienic)

pub returns-in_err-tree-clause-refused : goal.returns-in_err-tree-clause-refused
returns-in_err-tree-clause-refused c =
    let refused = err_from_is_err_and c.from_residual.result c.from_residual.ensures.1 in
    rw (refused.1, refused.2) (subst (λ config. IsRenameRefusal c.args.given.globals config hygiene_renaming c.args.given.tree c.in_err-tree.field-0.0) c.config_of-config.ensures c.in_err-tree.ensures.refused)
