use Rattle.std.proofs.Common.{◌&&◌, inr, subst}
use Rattle.std.specs.HashSet.{contains}
use Rattle.std.proofs.lemmas.Result.{err_from_is_err_and}
use Rattle.swc_base_rename_program.specs.Renamed.{IsRenameRefusal, IsRenamedBy}
use Rattle.swc_base_rename_substitution.specs.Names.{same_id}
use Rattle.swc_base_mangle.specs.Own.{is_own}
use Rattle.swc_base_mangle.proofs.Texts.{same_test}
use Rattle.swc_base_mangle.proofs.mangle.rename_short.Goals as goal

pub returns-in_err-tree-clause-refused : goal.returns-in_err-tree-clause-refused
returns-in_err-tree-clause-refused c =
    let t = c.args.tree in
    let texts = c.in_ok-texts.texts in
    let same = same_test texts (contains same_id c.in_ok-preserved.preserved) (λ x. c.args.keeps_top && is_own c.args.config.now.top_level_mark t x) c.in_ok-preserved.ensures in
    let refused = err_from_is_err_and c.from_residual-in_err-tree.result c.from_residual-in_err-tree.ensures.1 in
    rw (refused.1, refused.2) (inr (texts, subst (λ r. IsRenameRefusal c.args.globals.now c.args.config.now r t c.in_err-tree.field-0.0) same c.in_err-tree.ensures.refused))

pub returns-clause-renamed : goal.returns-clause-renamed
returns-clause-renamed c =
    let t = c.args.tree in
    let texts = c.in_ok-texts.texts in
    let same = same_test texts (contains same_id c.in_ok-preserved.preserved) (λ x. c.args.keeps_top && is_own c.args.config.now.top_level_mark t x) c.in_ok-preserved.ensures in
    (texts, subst (λ r. IsRenamedBy c.args.globals.now c.args.config.now r t c.in_ok-tree.tree) same c.in_ok-tree.ensures.renamed)
