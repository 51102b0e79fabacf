use Rattle.std.proofs.Common.{ap, refl, rules, subst}
use Rattle.swc_tree_modules.specs.Nodes.{script_node}
use Rattle.swc_tree_sites_kept.specs.Scripts.{script_place}
use Rattle.swc_base_rename.specs.Renamers.{renaming_in}
use Rattle.swc_base_renaming_laws.specs.Renamers.{IsLawful, IsRenamedAndCleared}
use Rattle.swc_ecma_transforms_base_chains.proofs.Finishing.{formed_by, meets_none_by, partly_by_fixer, promised_by, refused_by_fixer, refused_by_renamer, renamer_blames_no_target, script_top_apart, settled_as, unmoved_by_fixer}
use Rattle.swc_ecma_transforms_base.proofs.finish_with.finish_typeless_script_by.Goals as goal

-- src/finish_with.rt
pub returns-in_err-fix_script-clause-cause : goal.returns-in_err-fix_script-clause-cause
returns-in_err-fix_script-clause-cause g c =
    let r = renaming_in g.R.Renamer.text g.R.Renamer.preserved g.R.Renamer.asked g.R.Renamer.MANGLE g.R.Renamer.RESET_N c.args.renamer.now c.settle_script_with.new.renamer (script_node c.args.program.now) in
    let m = settled_as g.R.Renamer.text g.R.Renamer.preserved g.R.Renamer.asked g.R.Renamer.MANGLE g.R.Renamer.RESET_N c.args.config c.args.globals.now c.args.renamer.now c.settle_script_with.new.renamer (script_node c.replace-script.result) (script_node c.args.program.now) (ap script_node c.replace-script.ensures.value) (script_node c.settle_script_with.new.program) c.in_ok-settle_script_with.ensures.done in
    refused_by_fixer r c.args.globals.now c.args.config (script_node c.args.program.now) (script_node c.settle_script_with.new.program) c.requires.no_types m.named c.from_residual-in_err-fix_script.result (search rules) (search rules)

pub returns-in_err-fix_script-clause-partly : goal.returns-in_err-fix_script-clause-partly
returns-in_err-fix_script-clause-partly g c =
    let r = renaming_in g.R.Renamer.text g.R.Renamer.preserved g.R.Renamer.asked g.R.Renamer.MANGLE g.R.Renamer.RESET_N c.args.renamer.now c.settle_script_with.new.renamer (script_node c.args.program.now) in
    let m = settled_as g.R.Renamer.text g.R.Renamer.preserved g.R.Renamer.asked g.R.Renamer.MANGLE g.R.Renamer.RESET_N c.args.config c.args.globals.now c.args.renamer.now c.settle_script_with.new.renamer (script_node c.replace-script.result) (script_node c.args.program.now) (ap script_node c.replace-script.ensures.value) (script_node c.settle_script_with.new.program) c.in_ok-settle_script_with.ensures.done in
    partly_by_fixer g.C.Comments.moved (IsRenamedAndCleared c.args.globals.now c.args.config r (script_node c.args.program.now)) (script_node c.settle_script_with.new.program) m.named c.args.comments.now c.fix_script.new.comments
    c.from_residual-in_err-fix_script.result (search rules) (search rules) (search rules) c.in_err-fix_script.ensures.partly

pub returns-in_err-fix_script-clause-unmoved : goal.returns-in_err-fix_script-clause-unmoved
returns-in_err-fix_script-clause-unmoved g c =
    unmoved_by_fixer c.args.comments.now c.fix_script.new.comments c.from_residual-in_err-fix_script.result (search rules) (search rules)

pub returns-in_err-fix_script-clause-no_target : goal.returns-in_err-fix_script-clause-no_target
returns-in_err-fix_script-clause-no_target g c =
    let r = renaming_in g.R.Renamer.text g.R.Renamer.preserved g.R.Renamer.asked g.R.Renamer.MANGLE g.R.Renamer.RESET_N c.args.renamer.now c.settle_script_with.new.renamer (script_node c.args.program.now) in
    let m = settled_as g.R.Renamer.text g.R.Renamer.preserved g.R.Renamer.asked g.R.Renamer.MANGLE g.R.Renamer.RESET_N c.args.config c.args.globals.now c.args.renamer.now c.settle_script_with.new.renamer (script_node c.replace-script.result) (script_node c.args.program.now) (ap script_node c.replace-script.ensures.value) (script_node c.settle_script_with.new.program) c.in_ok-settle_script_with.ensures.done in
    λ f. meets_none_by r c.args.globals.now c.args.config script_place (script_node c.args.program.now) refl c.script_fits.ensures f c.from_residual-in_err-fix_script.result
    (λ middle renamed. c.finishing_renamed_meets_no_target.ensures r c.args.globals.now c.args.config script_place (script_node c.args.program.now) middle (subst (λ t. IsLawful (renaming_in g.R.Renamer.text g.R.Renamer.preserved g.R.Renamer.asked g.R.Renamer.MANGLE g.R.Renamer.RESET_N c.args.renamer.now c.settle_script_with.new.renamer t)) (ap script_node c.replace-script.ensures.value) c.settle_script_with.ensures.lawful) refl c.script_fits.ensures f renamed)
    (refused_by_fixer r c.args.globals.now c.args.config (script_node c.args.program.now) (script_node c.settle_script_with.new.program) c.requires.no_types m.named c.from_residual-in_err-fix_script.result (search rules) (search rules))

pub returns-in_err-fix_script-clause-asked : goal.returns-in_err-fix_script-clause-asked
returns-in_err-fix_script-clause-asked g c =
    let r = renaming_in g.R.Renamer.text g.R.Renamer.preserved g.R.Renamer.asked g.R.Renamer.MANGLE g.R.Renamer.RESET_N c.args.renamer.now c.settle_script_with.new.renamer (script_node c.args.program.now) in
    let m = settled_as g.R.Renamer.text g.R.Renamer.preserved g.R.Renamer.asked g.R.Renamer.MANGLE g.R.Renamer.RESET_N c.args.config c.args.globals.now c.args.renamer.now c.settle_script_with.new.renamer (script_node c.replace-script.result) (script_node c.args.program.now) (ap script_node c.replace-script.ensures.value) (script_node c.settle_script_with.new.program) c.in_ok-settle_script_with.ensures.done in
    m.once

pub returns-clause-done : goal.returns-clause-done
returns-clause-done g c =
    let r = renaming_in g.R.Renamer.text g.R.Renamer.preserved g.R.Renamer.asked g.R.Renamer.MANGLE g.R.Renamer.RESET_N c.args.renamer.now c.settle_script_with.new.renamer (script_node c.args.program.now) in
    let m = settled_as g.R.Renamer.text g.R.Renamer.preserved g.R.Renamer.asked g.R.Renamer.MANGLE g.R.Renamer.RESET_N c.args.config c.args.globals.now c.args.renamer.now c.settle_script_with.new.renamer (script_node c.replace-script.result) (script_node c.args.program.now) (ap script_node c.replace-script.ensures.value) (script_node c.settle_script_with.new.program) c.in_ok-settle_script_with.ensures.done in
    record { no_types = c.requires.no_types; between = script_node c.settle_script_with.new.program; renamed = m.named; assignable = c.in_ok-fix_script.ensures.assignable; paired = c.in_ok-fix_script.ensures.answer }

pub returns-clause-form : goal.returns-clause-form
returns-clause-form g c =
    let r = renaming_in g.R.Renamer.text g.R.Renamer.preserved g.R.Renamer.asked g.R.Renamer.MANGLE g.R.Renamer.RESET_N c.args.renamer.now c.settle_script_with.new.renamer (script_node c.args.program.now) in
    let m = settled_as g.R.Renamer.text g.R.Renamer.preserved g.R.Renamer.asked g.R.Renamer.MANGLE g.R.Renamer.RESET_N c.args.config c.args.globals.now c.args.renamer.now c.settle_script_with.new.renamer (script_node c.replace-script.result) (script_node c.args.program.now) (ap script_node c.replace-script.ensures.value) (script_node c.settle_script_with.new.program) c.in_ok-settle_script_with.ensures.done in
    λ f. formed_by r c.args.globals.now c.args.config script_place (script_node c.args.program.now) refl c.script_fits.ensures f c.lawful_renamers_keep_forms.ensures (subst (λ t. IsLawful (renaming_in g.R.Renamer.text g.R.Renamer.preserved g.R.Renamer.asked g.R.Renamer.MANGLE g.R.Renamer.RESET_N c.args.renamer.now c.settle_script_with.new.renamer t)) (ap script_node c.replace-script.ensures.value) c.settle_script_with.ensures.lawful) (script_top_apart r (script_node c.args.program.now) c.script_fits.ensures) (script_node c.fix_script.new.program)
    (record { no_types = c.requires.no_types; between = script_node c.settle_script_with.new.program; renamed = m.named; assignable = c.in_ok-fix_script.ensures.assignable; paired = c.in_ok-fix_script.ensures.answer })

pub returns-clause-promises : goal.returns-clause-promises
returns-clause-promises g c =
    let r = renaming_in g.R.Renamer.text g.R.Renamer.preserved g.R.Renamer.asked g.R.Renamer.MANGLE g.R.Renamer.RESET_N c.args.renamer.now c.settle_script_with.new.renamer (script_node c.args.program.now) in
    let m = settled_as g.R.Renamer.text g.R.Renamer.preserved g.R.Renamer.asked g.R.Renamer.MANGLE g.R.Renamer.RESET_N c.args.config c.args.globals.now c.args.renamer.now c.settle_script_with.new.renamer (script_node c.replace-script.result) (script_node c.args.program.now) (ap script_node c.replace-script.ensures.value) (script_node c.settle_script_with.new.program) c.in_ok-settle_script_with.ensures.done in
    λ suits f plain. promised_by r c.args.globals.now c.args.config script_place (script_node c.args.program.now) refl c.script_fits.ensures f c.lawful_renamers_keep_promises.ensures (subst (λ t. IsLawful (renaming_in g.R.Renamer.text g.R.Renamer.preserved g.R.Renamer.asked g.R.Renamer.MANGLE g.R.Renamer.RESET_N c.args.renamer.now c.settle_script_with.new.renamer t)) (ap script_node c.replace-script.ensures.value) c.settle_script_with.ensures.lawful) suits (script_node c.fix_script.new.program)
    (record { no_types = c.requires.no_types; between = script_node c.settle_script_with.new.program; renamed = m.named; assignable = c.in_ok-fix_script.ensures.assignable; paired = c.in_ok-fix_script.ensures.answer }) (λ s. plain)

pub returns-clause-asked : goal.returns-clause-asked
returns-clause-asked g c =
    let r = renaming_in g.R.Renamer.text g.R.Renamer.preserved g.R.Renamer.asked g.R.Renamer.MANGLE g.R.Renamer.RESET_N c.args.renamer.now c.settle_script_with.new.renamer (script_node c.args.program.now) in
    let m = settled_as g.R.Renamer.text g.R.Renamer.preserved g.R.Renamer.asked g.R.Renamer.MANGLE g.R.Renamer.RESET_N c.args.config c.args.globals.now c.args.renamer.now c.settle_script_with.new.renamer (script_node c.replace-script.result) (script_node c.args.program.now) (ap script_node c.replace-script.ensures.value) (script_node c.settle_script_with.new.program) c.in_ok-settle_script_with.ensures.done in
    m.once

pub returns-clause-moved : goal.returns-clause-moved
returns-clause-moved g c =
    let r = renaming_in g.R.Renamer.text g.R.Renamer.preserved g.R.Renamer.asked g.R.Renamer.MANGLE g.R.Renamer.RESET_N c.args.renamer.now c.settle_script_with.new.renamer (script_node c.args.program.now) in
    let m = settled_as g.R.Renamer.text g.R.Renamer.preserved g.R.Renamer.asked g.R.Renamer.MANGLE g.R.Renamer.RESET_N c.args.config c.args.globals.now c.args.renamer.now c.settle_script_with.new.renamer (script_node c.replace-script.result) (script_node c.args.program.now) (ap script_node c.replace-script.ensures.value) (script_node c.settle_script_with.new.program) c.in_ok-settle_script_with.ensures.done in
    record { given = script_node c.settle_script_with.new.program; is_given = m.named; paired = c.in_ok-fix_script.ensures.answer; moved = c.in_ok-fix_script.ensures.moved }

pub returns-in_err-settle_script_with-clause-cause : goal.returns-in_err-settle_script_with-clause-cause
returns-in_err-settle_script_with-clause-cause g c =
    refused_by_renamer g.R.Renamer.text g.R.Renamer.preserved g.R.Renamer.asked g.R.Renamer.MANGLE g.R.Renamer.RESET_N c.args.config c.args.globals.now c.args.renamer.now c.settle_script_with.new.renamer (script_node c.replace-script.result) (script_node c.args.program.now) (ap script_node c.replace-script.ensures.value) c.requires.no_types c.from_residual.result (search rules)

pub returns-in_err-settle_script_with-clause-no_target : goal.returns-in_err-settle_script_with-clause-no_target
returns-in_err-settle_script_with-clause-no_target g c =
    λ f. renamer_blames_no_target g.R.Renamer.text g.R.Renamer.preserved g.R.Renamer.asked g.R.Renamer.MANGLE g.R.Renamer.RESET_N c.args.config c.args.globals.now c.args.renamer.now c.settle_script_with.new.renamer (script_node c.replace-script.result) (script_node c.args.program.now) (ap script_node c.replace-script.ensures.value) c.from_residual.result (search rules)

pub returns-in_err-settle_script_with-clause-asked : goal.returns-in_err-settle_script_with-clause-asked
returns-in_err-settle_script_with-clause-asked g c =
    subst (λ t. g.R.Renamer.asked c.args.renamer.now t c.settle_script_with.new.renamer) (ap script_node c.replace-script.ensures.value) c.in_err-settle_script_with.ensures.cause.once

pub returns-in_err-settle_script_with-clause-lawful : goal.returns-in_err-settle_script_with-clause-lawful
returns-in_err-settle_script_with-clause-lawful g c = subst (λ t. IsLawful (renaming_in g.R.Renamer.text g.R.Renamer.preserved g.R.Renamer.asked g.R.Renamer.MANGLE g.R.Renamer.RESET_N c.args.renamer.now c.settle_script_with.new.renamer t)) (ap script_node c.replace-script.ensures.value) c.settle_script_with.ensures.lawful

pub returns-in_err-fix_script-clause-lawful : goal.returns-in_err-fix_script-clause-lawful
returns-in_err-fix_script-clause-lawful g c = subst (λ t. IsLawful (renaming_in g.R.Renamer.text g.R.Renamer.preserved g.R.Renamer.asked g.R.Renamer.MANGLE g.R.Renamer.RESET_N c.args.renamer.now c.settle_script_with.new.renamer t)) (ap script_node c.replace-script.ensures.value) c.settle_script_with.ensures.lawful

pub returns-clause-lawful : goal.returns-clause-lawful
returns-clause-lawful g c = subst (λ t. IsLawful (renaming_in g.R.Renamer.text g.R.Renamer.preserved g.R.Renamer.asked g.R.Renamer.MANGLE g.R.Renamer.RESET_N c.args.renamer.now c.settle_script_with.new.renamer t)) (ap script_node c.replace-script.ensures.value) c.settle_script_with.ensures.lawful
