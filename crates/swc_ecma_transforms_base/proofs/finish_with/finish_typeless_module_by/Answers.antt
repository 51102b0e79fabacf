use Rattle.std.proofs.Common.{ap, refl, rules, subst}
use Rattle.swc_tree_modules.specs.Nodes.{module_node}
use Rattle.swc_base_renaming_laws.proofs.IdsPrograms.{module_place}
use Rattle.swc_base_rename.specs.Renamers.{renaming_in}
use Rattle.swc_base_renaming_laws.specs.Renamers.{IsLawful, IsRenamedAndCleared}
use Rattle.swc_ecma_transforms_base_chains.proofs.Finishing.{meets_none_by, module_plain, partly_by_fixer, promised_by, refused_by_fixer, refused_by_renamer, renamer_blames_no_target, settled_as, unmoved_by_fixer}
use Rattle.swc_ecma_transforms_base.proofs.finish_with.finish_typeless_module_by.Goals as goal

-- src/finish_with.rt
pub returns-in_err-fix_module-clause-cause : goal.returns-in_err-fix_module-clause-cause
returns-in_err-fix_module-clause-cause g c =
    let r = renaming_in g.R.Renamer.text g.R.Renamer.preserved g.R.Renamer.asked g.R.Renamer.MANGLE g.R.Renamer.RESET_N c.args.renamer.now c.settle_module_with.new.renamer (module_node c.args.program.now) in
    let m = settled_as g.R.Renamer.text g.R.Renamer.preserved g.R.Renamer.asked g.R.Renamer.MANGLE g.R.Renamer.RESET_N c.args.config c.args.globals.now c.args.renamer.now c.settle_module_with.new.renamer (module_node c.replace-module.result) (module_node c.args.program.now) (ap module_node c.replace-module.ensures.value) (module_node c.settle_module_with.new.program) c.in_ok-settle_module_with.ensures.done in
    refused_by_fixer r c.args.globals.now c.args.config (module_node c.args.program.now) (module_node c.settle_module_with.new.program) c.requires.no_types m.named c.from_residual-in_err-fix_module.result (search rules) (search rules)

pub returns-in_err-fix_module-clause-partly : goal.returns-in_err-fix_module-clause-partly
returns-in_err-fix_module-clause-partly g c =
    let r = renaming_in g.R.Renamer.text g.R.Renamer.preserved g.R.Renamer.asked g.R.Renamer.MANGLE g.R.Renamer.RESET_N c.args.renamer.now c.settle_module_with.new.renamer (module_node c.args.program.now) in
    let m = settled_as g.R.Renamer.text g.R.Renamer.preserved g.R.Renamer.asked g.R.Renamer.MANGLE g.R.Renamer.RESET_N c.args.config c.args.globals.now c.args.renamer.now c.settle_module_with.new.renamer (module_node c.replace-module.result) (module_node c.args.program.now) (ap module_node c.replace-module.ensures.value) (module_node c.settle_module_with.new.program) c.in_ok-settle_module_with.ensures.done in
    partly_by_fixer g.C.Comments.moved (IsRenamedAndCleared c.args.globals.now c.args.config r (module_node c.args.program.now)) (module_node c.settle_module_with.new.program) m.named c.args.comments.now c.fix_module.new.comments
    c.from_residual-in_err-fix_module.result (search rules) (search rules) (search rules) c.in_err-fix_module.ensures.partly

pub returns-in_err-fix_module-clause-unmoved : goal.returns-in_err-fix_module-clause-unmoved
returns-in_err-fix_module-clause-unmoved g c =
    unmoved_by_fixer c.args.comments.now c.fix_module.new.comments c.from_residual-in_err-fix_module.result (search rules) (search rules)

pub returns-in_err-fix_module-clause-no_target : goal.returns-in_err-fix_module-clause-no_target
returns-in_err-fix_module-clause-no_target g c =
    let r = renaming_in g.R.Renamer.text g.R.Renamer.preserved g.R.Renamer.asked g.R.Renamer.MANGLE g.R.Renamer.RESET_N c.args.renamer.now c.settle_module_with.new.renamer (module_node c.args.program.now) in
    let m = settled_as g.R.Renamer.text g.R.Renamer.preserved g.R.Renamer.asked g.R.Renamer.MANGLE g.R.Renamer.RESET_N c.args.config c.args.globals.now c.args.renamer.now c.settle_module_with.new.renamer (module_node c.replace-module.result) (module_node c.args.program.now) (ap module_node c.replace-module.ensures.value) (module_node c.settle_module_with.new.program) c.in_ok-settle_module_with.ensures.done in
    λ f. meets_none_by r c.args.globals.now c.args.config module_place (module_node c.args.program.now) refl c.module_fits.ensures f c.from_residual-in_err-fix_module.result
    (λ middle renamed. c.finishing_renamed_meets_no_target.ensures r c.args.globals.now c.args.config module_place (module_node c.args.program.now) middle (subst (λ t. IsLawful (renaming_in g.R.Renamer.text g.R.Renamer.preserved g.R.Renamer.asked g.R.Renamer.MANGLE g.R.Renamer.RESET_N c.args.renamer.now c.settle_module_with.new.renamer t)) (ap module_node c.replace-module.ensures.value) c.settle_module_with.ensures.lawful) refl c.module_fits.ensures f renamed)
    (refused_by_fixer r c.args.globals.now c.args.config (module_node c.args.program.now) (module_node c.settle_module_with.new.program) c.requires.no_types m.named c.from_residual-in_err-fix_module.result (search rules) (search rules))

pub returns-in_err-fix_module-clause-asked : goal.returns-in_err-fix_module-clause-asked
returns-in_err-fix_module-clause-asked g c =
    let r = renaming_in g.R.Renamer.text g.R.Renamer.preserved g.R.Renamer.asked g.R.Renamer.MANGLE g.R.Renamer.RESET_N c.args.renamer.now c.settle_module_with.new.renamer (module_node c.args.program.now) in
    let m = settled_as g.R.Renamer.text g.R.Renamer.preserved g.R.Renamer.asked g.R.Renamer.MANGLE g.R.Renamer.RESET_N c.args.config c.args.globals.now c.args.renamer.now c.settle_module_with.new.renamer (module_node c.replace-module.result) (module_node c.args.program.now) (ap module_node c.replace-module.ensures.value) (module_node c.settle_module_with.new.program) c.in_ok-settle_module_with.ensures.done in
    m.once

pub returns-clause-done : goal.returns-clause-done
returns-clause-done g c =
    let r = renaming_in g.R.Renamer.text g.R.Renamer.preserved g.R.Renamer.asked g.R.Renamer.MANGLE g.R.Renamer.RESET_N c.args.renamer.now c.settle_module_with.new.renamer (module_node c.args.program.now) in
    let m = settled_as g.R.Renamer.text g.R.Renamer.preserved g.R.Renamer.asked g.R.Renamer.MANGLE g.R.Renamer.RESET_N c.args.config c.args.globals.now c.args.renamer.now c.settle_module_with.new.renamer (module_node c.replace-module.result) (module_node c.args.program.now) (ap module_node c.replace-module.ensures.value) (module_node c.settle_module_with.new.program) c.in_ok-settle_module_with.ensures.done in
    record { no_types = c.requires.no_types; between = module_node c.settle_module_with.new.program; renamed = m.named; assignable = c.in_ok-fix_module.ensures.assignable; paired = c.in_ok-fix_module.ensures.answer }

pub returns-clause-promises : goal.returns-clause-promises
returns-clause-promises g c =
    let r = renaming_in g.R.Renamer.text g.R.Renamer.preserved g.R.Renamer.asked g.R.Renamer.MANGLE g.R.Renamer.RESET_N c.args.renamer.now c.settle_module_with.new.renamer (module_node c.args.program.now) in
    let m = settled_as g.R.Renamer.text g.R.Renamer.preserved g.R.Renamer.asked g.R.Renamer.MANGLE g.R.Renamer.RESET_N c.args.config c.args.globals.now c.args.renamer.now c.settle_module_with.new.renamer (module_node c.replace-module.result) (module_node c.args.program.now) (ap module_node c.replace-module.ensures.value) (module_node c.settle_module_with.new.program) c.in_ok-settle_module_with.ensures.done in
    λ suits f. promised_by r c.args.globals.now c.args.config module_place (module_node c.args.program.now) refl c.module_fits.ensures f c.lawful_renamers_keep_promises.ensures (subst (λ t. IsLawful (renaming_in g.R.Renamer.text g.R.Renamer.preserved g.R.Renamer.asked g.R.Renamer.MANGLE g.R.Renamer.RESET_N c.args.renamer.now c.settle_module_with.new.renamer t)) (ap module_node c.replace-module.ensures.value) c.settle_module_with.ensures.lawful) suits (module_node c.fix_module.new.program)
    (record { no_types = c.requires.no_types; between = module_node c.settle_module_with.new.program; renamed = m.named; assignable = c.in_ok-fix_module.ensures.assignable; paired = c.in_ok-fix_module.ensures.answer }) (module_plain (module_node c.args.program.now) c.module_fits.ensures)

pub returns-clause-asked : goal.returns-clause-asked
returns-clause-asked g c =
    let r = renaming_in g.R.Renamer.text g.R.Renamer.preserved g.R.Renamer.asked g.R.Renamer.MANGLE g.R.Renamer.RESET_N c.args.renamer.now c.settle_module_with.new.renamer (module_node c.args.program.now) in
    let m = settled_as g.R.Renamer.text g.R.Renamer.preserved g.R.Renamer.asked g.R.Renamer.MANGLE g.R.Renamer.RESET_N c.args.config c.args.globals.now c.args.renamer.now c.settle_module_with.new.renamer (module_node c.replace-module.result) (module_node c.args.program.now) (ap module_node c.replace-module.ensures.value) (module_node c.settle_module_with.new.program) c.in_ok-settle_module_with.ensures.done in
    m.once

pub returns-clause-moved : goal.returns-clause-moved
returns-clause-moved g c =
    let r = renaming_in g.R.Renamer.text g.R.Renamer.preserved g.R.Renamer.asked g.R.Renamer.MANGLE g.R.Renamer.RESET_N c.args.renamer.now c.settle_module_with.new.renamer (module_node c.args.program.now) in
    let m = settled_as g.R.Renamer.text g.R.Renamer.preserved g.R.Renamer.asked g.R.Renamer.MANGLE g.R.Renamer.RESET_N c.args.config c.args.globals.now c.args.renamer.now c.settle_module_with.new.renamer (module_node c.replace-module.result) (module_node c.args.program.now) (ap module_node c.replace-module.ensures.value) (module_node c.settle_module_with.new.program) c.in_ok-settle_module_with.ensures.done in
    record { given = module_node c.settle_module_with.new.program; is_given = m.named; paired = c.in_ok-fix_module.ensures.answer; moved = c.in_ok-fix_module.ensures.moved }

pub returns-in_err-settle_module_with-clause-cause : goal.returns-in_err-settle_module_with-clause-cause
returns-in_err-settle_module_with-clause-cause g c =
    refused_by_renamer g.R.Renamer.text g.R.Renamer.preserved g.R.Renamer.asked g.R.Renamer.MANGLE g.R.Renamer.RESET_N c.args.config c.args.globals.now c.args.renamer.now c.settle_module_with.new.renamer (module_node c.replace-module.result) (module_node c.args.program.now) (ap module_node c.replace-module.ensures.value) c.requires.no_types c.from_residual.result (search rules)

pub returns-in_err-settle_module_with-clause-no_target : goal.returns-in_err-settle_module_with-clause-no_target
returns-in_err-settle_module_with-clause-no_target g c =
    λ f. renamer_blames_no_target g.R.Renamer.text g.R.Renamer.preserved g.R.Renamer.asked g.R.Renamer.MANGLE g.R.Renamer.RESET_N c.args.config c.args.globals.now c.args.renamer.now c.settle_module_with.new.renamer (module_node c.replace-module.result) (module_node c.args.program.now) (ap module_node c.replace-module.ensures.value) c.from_residual.result (search rules)

pub returns-in_err-settle_module_with-clause-asked : goal.returns-in_err-settle_module_with-clause-asked
returns-in_err-settle_module_with-clause-asked g c =
    subst (λ t. g.R.Renamer.asked c.args.renamer.now t c.settle_module_with.new.renamer) (ap module_node c.replace-module.ensures.value) c.in_err-settle_module_with.ensures.cause.once

pub returns-in_err-settle_module_with-clause-lawful : goal.returns-in_err-settle_module_with-clause-lawful
returns-in_err-settle_module_with-clause-lawful g c = subst (λ t. IsLawful (renaming_in g.R.Renamer.text g.R.Renamer.preserved g.R.Renamer.asked g.R.Renamer.MANGLE g.R.Renamer.RESET_N c.args.renamer.now c.settle_module_with.new.renamer t)) (ap module_node c.replace-module.ensures.value) c.settle_module_with.ensures.lawful

pub returns-in_err-fix_module-clause-lawful : goal.returns-in_err-fix_module-clause-lawful
returns-in_err-fix_module-clause-lawful g c = subst (λ t. IsLawful (renaming_in g.R.Renamer.text g.R.Renamer.preserved g.R.Renamer.asked g.R.Renamer.MANGLE g.R.Renamer.RESET_N c.args.renamer.now c.settle_module_with.new.renamer t)) (ap module_node c.replace-module.ensures.value) c.settle_module_with.ensures.lawful

pub returns-clause-lawful : goal.returns-clause-lawful
returns-clause-lawful g c = subst (λ t. IsLawful (renaming_in g.R.Renamer.text g.R.Renamer.preserved g.R.Renamer.asked g.R.Renamer.MANGLE g.R.Renamer.RESET_N c.args.renamer.now c.settle_module_with.new.renamer t)) (ap module_node c.replace-module.ensures.value) c.settle_module_with.ensures.lawful
