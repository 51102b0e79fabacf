use Rattle.std.proofs.Common.{refl}
use Rattle.std.specs.HashSet.{contains}
use Rattle.std.proofs.lemmas.Result.{err_from_is_err_and}
use Rattle.swc_base_rename_substitution.specs.Names.{same_id}
use Rattle.swc_base_rename_program.specs.Renamed.{IsRead, renaming}
use Rattle.swc_base_rename_program.proofs.Given.{names_alike, whole_refused}
use Rattle.swc_base_rename_program.proofs.LeftTexts.{left_is_preserved}
use Rattle.swc_base_rename_program.proofs.rename.rename_read.Goals as goal
use Rattle.swc_base_rename_program.proofs.rename.rename_read.Goals.{else-not-config-via-then-not-config+else-has_eval, else-not-config-via-else-not-config}

pub returns-in_err-tree-clause-refused : goal.returns-in_err-tree-clause-refused
returns-in_err-tree-clause-refused g c =
    let r = renaming (g.T.NewTexts.text c.args.renamer.now.texts.now) c.args.renamer.now.mode (contains same_id c.args.renamer.now.preserved.now) in
    let not_read : ¬ IsRead c.args.renamer.now.config.now c.args.tree = λ read. elim c.else-not-config.branch [
      | else-not-config-via-then-not-config+else-has_eval w ↦ (let has = w.has_eval.ensures.1 read.1 in absurd (cc))
      | else-not-config-via-else-not-config w ↦ (let ignored = read.0 in absurd (cc))
    ] in
    let refused = err_from_is_err_and c.from_residual-in_err-tree.result c.from_residual-in_err-tree.ensures.1 in
    rw (refused.1, refused.2) (whole_refused c.args.globals.now c.args.renamer.now.config.now r c.args.tree c.args.renamer.now.preserved.now c.in_ok-left.left refl c.in_ok-left.ensures not_read c.in_err-tree.field-0.0 c.in_err-tree.ensures.refused)

pub returns-clause-renamed : goal.returns-clause-renamed
returns-clause-renamed g c =
    let r = renaming (g.T.NewTexts.text c.args.renamer.now.texts.now) c.args.renamer.now.mode (contains same_id c.args.renamer.now.preserved.now) in
    let not_read : ¬ IsRead c.args.renamer.now.config.now c.args.tree = λ read. elim c.else-not-config.branch [
      | else-not-config-via-then-not-config+else-has_eval w ↦ (let has = w.has_eval.ensures.1 read.1 in absurd (cc))
      | else-not-config-via-else-not-config w ↦ (let ignored = read.0 in absurd (cc))
    ] in
    record {
      whole = λ _. names_alike (left_is_preserved c.args.tree c.args.renamer.now.preserved.now c.in_ok-left.left c.in_ok-left.ensures) r c.args.renamer.now.config.now.keep_class_names c.args.tree c.in_ok-tree.tree c.in_ok-tree.ensures.becomes;
      by_units = λ read. absurd (not_read read);
    }
