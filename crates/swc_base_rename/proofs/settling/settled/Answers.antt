use Rattle.std.specs.HashSet.{contains}
use Rattle.std.proofs.Common.{subst}
use Rattle.std.proofs.lemmas.Result.{err_from_is_err_and}
use Rattle.swc_base_rename_substitution.specs.Names.{same_id}
use Rattle.swc_base_rename_program.specs.Renamed.{IsRenameRefusal, IsRenamedBy, renaming}
use Rattle.swc_base_rename_program.proofs.Fitting.{by_texts_fits}
use Rattle.swc_base_rename.proofs.settling.settled.Goals as goal

-- src/settling.rt
pub returns-in_err-given-clause-refused : goal.returns-in_err-given-clause-refused
returns-in_err-given-clause-refused g c =
    let refused = err_from_is_err_and c.from_residual.result c.from_residual.ensures.1 in
    rw (refused.1, refused.2)
    (subst (λ m. IsRenameRefusal c.args.globals.now c.args.config.now (renaming (g.R.Renamer.text c.args.renamer.now) m (contains same_id c.args.preserved.now)) c.args.tree c.in_err-given.field-0.0) c.mode_of-mode.ensures c.in_err-given.ensures.refused)

pub returns-clause-named : goal.returns-clause-named
returns-clause-named g c = (
  c.in_ok-given.given,
  subst (λ m. IsRenamedBy c.args.globals.now c.args.config.now (renaming (g.R.Renamer.text c.args.renamer.now) m (contains same_id c.args.preserved.now)) c.args.tree c.in_ok-given.given) c.mode_of-mode.ensures c.in_ok-given.ensures.renamed,
  c.clear_contexts.ensures,
)

pub returns-clause-fits : goal.returns-clause-fits
returns-clause-fits g c = rw c.clear_contexts.ensures (by_texts_fits c.args.tree c.in_ok-given.given c.in_ok-given.ensures.fits)
