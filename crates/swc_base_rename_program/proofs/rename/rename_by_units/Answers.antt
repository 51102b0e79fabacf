use Rattle.std.specs.HashSet.{contains}
use Rattle.std.proofs.lemmas.Result.{err_from_is_err_and}
use Rattle.swc_base_rename_substitution.specs.Names.{same_id}
use Rattle.swc_base_rename_program.specs.Renamed.{renaming}
use Rattle.swc_base_rename_program.proofs.Given.{unit_refused, units_alike}
use Rattle.swc_base_rename_program.proofs.rename.rename_by_units.Goals as goal

pub returns-in_err-tree-clause-refused : goal.returns-in_err-tree-clause-refused
returns-in_err-tree-clause-refused g c =
    let r = renaming (g.T.NewTexts.text c.args.renamer.now.texts.now) c.args.renamer.now.mode (contains same_id c.args.renamer.now.preserved.now) in
    let refused = err_from_is_err_and c.from_residual-in_err-tree.result c.from_residual-in_err-tree.ensures.1 in
    rw (refused.1, refused.2) (unit_refused c.args.renamer.now.config.now.top_level_mark r c.args.tree c.in_ok-table.left c.in_ok-table.ensures.left c.args.globals.now c.in_err-tree.field-0.0 c.in_err-tree.ensures.refused)

pub returns-clause-renamed : goal.returns-clause-renamed
returns-clause-renamed g c =
    let r = renaming (g.T.NewTexts.text c.args.renamer.now.texts.now) c.args.renamer.now.mode (contains same_id c.args.renamer.now.preserved.now) in
    let top = c.in_ok-table.ensures.named in
    record {
      kept = top.kept;
      is_kept = top.is_kept;
      new_texts = top.new_texts;
      named = top.named;
      between = c.in_ok-tree.tree;
      units = units_alike c.args.renamer.now.config.now.top_level_mark r c.args.tree c.in_ok-table.left c.in_ok-table.ensures.left c.args.renamer.now.config.now.keep_class_names c.in_ok-tree.tree c.in_ok-tree.ensures.renamed;
      given = c.in_ok-tree-2.ensures.given top.new_texts top.is_table;
    }
