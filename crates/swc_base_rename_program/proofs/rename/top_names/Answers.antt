use Rattle.std.proofs.Common.{◌||◌, IsTrue, ◌↔◌, subst, sym}
use Rattle.std.specs.HashSet.{contains}
use Rattle.std.proofs.lemmas.Result.{err_from_is_err_and}
use Rattle.swc_base_rename_analysis_laws.proofs.Readings.{reading_means}
use Rattle.swc_base_rename_naming.specs.InOrder.{IsRefused}
use Rattle.swc_base_rename_naming_laws.specs.Rules.{numbered_sites}
use Rattle.swc_base_rename_substitution.specs.Names.{same_id}
use Rattle.swc_base_rename_program.specs.Asked.{AreNamedTexts, program_rules}
use Rattle.swc_base_rename_program.specs.Descends.{descends_from}
use Rattle.swc_base_rename_program.specs.Left.{AreLeftTexts}
use Rattle.swc_base_rename_program.specs.Renamed.{IsPreservedByTop}
use Rattle.swc_base_rename_program.proofs.Given.{top_named, top_refusal, well_read}
use Rattle.swc_base_rename_program.proofs.LeftTexts.{left_means}
use Rattle.swc_base_rename_program.proofs.rename.top_names.Goals as goal

pub new_texts-requires : goal.new_texts-requires
new_texts-requires g c = well_read c.args.tree.now c.args.analysis.now c.requires

pub returns-clause-left : goal.returns-clause-left
returns-clause-left g c = λ x.
    let (scopes, places, means) = reading_means c.args.tree.now c.args.analysis.now c.requires in
    let is = left_means c.args.renamer.now.config.now.top_level_mark c.args.tree.now c.args.analysis.now scopes places c.requires means c.args.renamer.now.preserved.now x in
    subst (λ b. IsTrue b ↔ IsPreservedByTop c.args.renamer.now.config.now.top_level_mark c.args.tree.now (contains same_id c.args.renamer.now.preserved.now) x) (sym (c.in_ok-left.ensures x)) is

pub returns-clause-named : goal.returns-clause-named
returns-clause-named g c =
    let t = c.args.tree.now in
    let a = c.args.analysis.now in
    let left = c.in_ok-left.left in
    let text = g.T.NewTexts.text c.args.renamer.now.texts.now in
    let keeps = contains same_id c.args.renamer.now.preserved.now in
    let are : AreLeftTexts c.args.renamer.now.config.now.top_level_mark keeps t left = λ x.
    let (scopes, places, means) = reading_means t a c.requires in
    subst (λ b. IsTrue b ↔ IsPreservedByTop c.args.renamer.now.config.now.top_level_mark t keeps x) (sym (c.in_ok-left.ensures x)) (left_means c.args.renamer.now.config.now.top_level_mark t a scopes places c.requires means c.args.renamer.now.preserved.now x) in
    let by_table = subst (λ m. AreNamedTexts (program_rules text c.args.renamer.now.mode a (λ x. keeps x || descends_from c.new.result.globals.now m x) left) a c.in_ok-table.table) c.new.ensures.mark c.in_ok-table.ensures.named in
    let by_top = subst (λ g. AreNamedTexts (program_rules text c.args.renamer.now.mode a (λ x. keeps x || descends_from g c.args.renamer.now.config.now.top_level_mark x) left) a c.in_ok-table.table) c.new.ensures.table by_table in
    top_named c.args.globals.now c.new.ensures.well_formed c.args.renamer.now.config.now.top_level_mark text c.args.renamer.now.mode keeps t a c.requires left are c.in_ok-table.table by_top

pub returns-in_err-table-clause-refused : goal.returns-in_err-table-clause-refused
returns-in_err-table-clause-refused g c =
    let t = c.args.tree.now in
    let a = c.args.analysis.now in
    let left = c.in_ok-left.left in
    let text = g.T.NewTexts.text c.args.renamer.now.texts.now in
    let keeps = contains same_id c.args.renamer.now.preserved.now in
    let e = c.in_err-table.field-0.0 in
    let are : AreLeftTexts c.args.renamer.now.config.now.top_level_mark keeps t left = λ x.
    let (scopes, places, means) = reading_means t a c.requires in
    subst (λ b. IsTrue b ↔ IsPreservedByTop c.args.renamer.now.config.now.top_level_mark t keeps x) (sym (c.in_ok-left.ensures x)) (left_means c.args.renamer.now.config.now.top_level_mark t a scopes places c.requires means c.args.renamer.now.preserved.now x) in
    let by_table = subst (λ m. IsRefused (program_rules text c.args.renamer.now.mode a (λ x. keeps x || descends_from c.new.result.globals.now m x) left) (numbered_sites a) e) c.new.ensures.mark c.in_err-table.ensures.refused in
    let by_top = subst (λ g. IsRefused (program_rules text c.args.renamer.now.mode a (λ x. keeps x || descends_from g c.args.renamer.now.config.now.top_level_mark x) left) (numbered_sites a) e) c.new.ensures.table by_table in
    let refused = err_from_is_err_and c.from_residual-in_err-table.result c.from_residual-in_err-table.ensures.1 in
    rw (refused.1, refused.2) (top_refusal c.args.globals.now c.new.ensures.well_formed c.args.renamer.now.config.now.top_level_mark text c.args.renamer.now.mode keeps t a c.requires left are e by_top)
