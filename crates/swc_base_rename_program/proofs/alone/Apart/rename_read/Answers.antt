use Rattle.std.proofs.Common.{subst}
use Rattle.std.specs.HashSet.{contains}
use Rattle.std.proofs.lemmas.Result.{err_from_is_err_and}
use Rattle.swc_base_rename_substitution.specs.Names.{same_id}
use Rattle.swc_base_rename_program.specs.NewTexts.{AreNewTexts, IsLeft, IsNameRefusal}
use Rattle.swc_base_rename_program.specs.Renamed.{renaming}
use Rattle.swc_base_rename_program.proofs.Given.{just_preserved, named_texts, refused_texts, well_read}
use Rattle.swc_base_rename_program.proofs.alone.Apart.rename_read.Goals as goal

pub new_texts-requires : goal.new_texts-requires
new_texts-requires g c = well_read c.args.unit c.args.analysis.now c.requires

pub returns-in_err-table-clause-refused : goal.returns-in_err-table-clause-refused
returns-in_err-table-clause-refused g c =
    let self = c.args.self.now in
    let text = g.T.NewTexts.text self.texts.now in
    let keeps = contains same_id self.preserved.now in
    let refused = err_from_is_err_and c.from_residual.result c.from_residual.ensures.1 in
    rw (refused.1, refused.2) (subst (λ k. IsNameRefusal (renaming text self.mode k) (IsLeft c.args.unit self.left.now) c.args.unit c.in_err-table.field-0.0) (just_preserved keeps)
    (refused_texts text self.mode _ c.args.unit c.args.analysis.now c.requires self.left.now c.in_err-table.field-0.0 c.in_err-table.ensures.refused))

pub returns-clause-becomes : goal.returns-clause-becomes
returns-clause-becomes g c =
    let self = c.args.self.now in
    let text = g.T.NewTexts.text self.texts.now in
    let keeps = contains same_id self.preserved.now in
    let are = subst (λ k. AreNewTexts (renaming text self.mode k) (IsLeft c.args.unit self.left.now) c.args.unit c.in_ok-table.table) (just_preserved keeps)
    (named_texts text self.mode _ c.args.unit c.args.analysis.now c.requires self.left.now c.in_ok-table.table c.in_ok-table.ensures.named) in
    record { new_texts = are.new_texts; named = are.named; given = c.in_ok-unit.ensures.given are.new_texts are.is_table }
