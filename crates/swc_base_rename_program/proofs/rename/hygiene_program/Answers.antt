use Rattle.std.proofs.Common.{◌≡◌, ap, Bool, true, false, [], subst}
use Rattle.std.specs.List.{list_any}
use Rattle.std.specs.HashSet.{HashSet, contains, keys}
use Rattle.std.proofs.lemmas.Result.{err_from_is_err_and}
use Rattle.swc_tree_scoping.specs.BoundNames.{Id}
use Rattle.swc_base_rename_analysis.specs.Named.{Renaming}
use Rattle.swc_base_rename_naming.specs.Texts.{numbered}
use Rattle.swc_base_rename_substitution.specs.Names.{same_id}
use Rattle.swc_base_rename_program.specs.Renamed.{IsRenameRefusal, IsRenamedBy, hygiene_renaming, renaming}
use Rattle.swc_base_rename_program.proofs.Fitting.{by_texts_fits}
use Rattle.swc_base_rename_program.proofs.rename.hygiene_program.Goals as goal

-- a renamer of these texts that preserves what a test says
by_test : (Id → Bool) → Renaming
by_test test = renaming (λ x n. numbered x.0 n) (record { mangles = false; resets = true }) test

empty_set : {S : Type 0} (ids : HashSet Id S) → keys ids ≡ [] → (x : Id) → contains same_id ids x ≡ false
empty_set ids e x = ap (list_any (same_id x)) e

none_preserved : (test : Id → Bool) → ((x : Id) → test x ≡ false) → by_test test ≡ hygiene_renaming
unfolding by_test
none_preserved test none j = by_test (λ x. none x j)

pub returns-in_err-tree-clause-refused : goal.returns-in_err-tree-clause-refused
unfolding by_test
returns-in_err-tree-clause-refused c =
    let refused = err_from_is_err_and c.from_residual.result c.from_residual.ensures.1 in
    rw (refused.1, refused.2) (subst (λ r. IsRenameRefusal c.args.globals.now c.args.config.now r c.args.tree c.in_err-tree.field-0.0) (none_preserved (contains same_id c.new-preserved.result) (empty_set c.new-preserved.result c.new-preserved.ensures.empty)) c.in_err-tree.ensures.refused)

pub returns-clause-hygienic : goal.returns-clause-hygienic
unfolding by_test
returns-clause-hygienic c = (
  c.in_ok-tree.tree,
  subst (λ r. IsRenamedBy c.args.globals.now c.args.config.now r c.args.tree c.in_ok-tree.tree) (none_preserved (contains same_id c.new-preserved.result) (empty_set c.new-preserved.result c.new-preserved.ensures.empty)) c.in_ok-tree.ensures.renamed,
  c.clear_contexts.ensures,
)

pub returns-clause-fits : goal.returns-clause-fits
returns-clause-fits c = rw c.clear_contexts.ensures (by_texts_fits c.args.tree c.in_ok-tree.tree c.in_ok-tree.ensures.fits)
