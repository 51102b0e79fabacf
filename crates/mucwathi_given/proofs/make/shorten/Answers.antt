use Rattle.std.proofs.Common.{refl, subst}
use Rattle.std.proofs.lemmas.Result.{err_from_is_err_and}
use Rattle.swc_base_mangle.specs.Mangled.{IsMangled, IsMangleRefusal}
use Rattle.mucwathi_given.specs.Given.{config_of}
use Rattle.mucwathi_given.proofs.make.shorten.Goals as goal

pub returns-clause-made : goal.returns-clause-made
returns-clause-made c = (
  refl,
  subst (λ keeps. IsMangled c.args.given.globals (config_of c.args.given) keeps c.args.given.tree c.in_ok-tree.tree) c.keeps_top-keeps.ensures
      (subst (λ config. IsMangled c.args.given.globals config c.keeps_top-keeps.result c.args.given.tree c.in_ok-tree.tree) c.config_of-config.ensures c.in_ok-tree.ensures.mangled),
)

pub returns-in_err-tree-clause-refused : goal.returns-in_err-tree-clause-refused
returns-in_err-tree-clause-refused c =
    let refused = err_from_is_err_and c.from_residual.result c.from_residual.ensures.1 in
    rw (refused.1, refused.2) (subst (λ keeps. IsMangleRefusal c.args.given.globals (config_of c.args.given) keeps c.args.given.tree c.in_err-tree.field-0.0) c.keeps_top-keeps.ensures
    (subst (λ config. IsMangleRefusal c.args.given.globals config c.keeps_top-keeps.result c.args.given.tree c.in_err-tree.field-0.0) c.config_of-config.ensures c.in_err-tree.ensures.refused))
