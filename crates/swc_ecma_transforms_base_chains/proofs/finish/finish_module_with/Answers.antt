use Rattle.std.proofs.Common.{ap, refl, rules}
use Rattle.swc_tree_modules.specs.Nodes.{module_node}
use Rattle.swc_base_rename_program.specs.Renamed.{IsHygienic, hygiene_renaming}
use Rattle.swc_base_renaming_laws.proofs.IdsPrograms.{module_place}
use Rattle.swc_ecma_transforms_base_chains.proofs.Finishing.{answered, made_hygienic, meets_none, module_plain, partly_by_fixer, promised, refused_by_fixer, refused_by_hygiene, typeless, unmoved_by_fixer}
use Rattle.swc_ecma_transforms_base_chains.proofs.finish.finish_module_with.Goals as goal

-- src/finish.rt
pub returns-in_err-fix_module-clause-cause : goal.returns-in_err-fix_module-clause-cause
returns-in_err-fix_module-clause-cause g c =
    let m = made_hygienic c.args.globals.now c.visit_mut_module.new.globals c.args.config c.hygiene_with_config-hygiene.result c.visit_mut_module.new.self (module_node c.replace-module.result) (module_node c.args.program.now)
    (module_node c.visit_mut_module.new.program) c.hygiene_with_config-hygiene.ensures (ap module_node c.replace-module.ensures.value) c.in_ok-visit_mut_module.ensures.done.made in
    refused_by_fixer hygiene_renaming c.args.globals.now c.args.config (module_node c.args.program.now) (module_node c.visit_mut_module.new.program)
    (typeless (module_node c.replace-module.result) (module_node c.args.program.now) _ (ap module_node c.replace-module.ensures.value) c.in_ok-visit_mut_module.ensures.done) m c.from_residual-in_err-fix_module.result (search rules) (search rules)

pub returns-in_err-fix_module-clause-partly : goal.returns-in_err-fix_module-clause-partly
returns-in_err-fix_module-clause-partly g c =
    let m = made_hygienic c.args.globals.now c.visit_mut_module.new.globals c.args.config c.hygiene_with_config-hygiene.result c.visit_mut_module.new.self (module_node c.replace-module.result) (module_node c.args.program.now)
    (module_node c.visit_mut_module.new.program) c.hygiene_with_config-hygiene.ensures (ap module_node c.replace-module.ensures.value) c.in_ok-visit_mut_module.ensures.done.made in
    partly_by_fixer g.C.Comments.moved (IsHygienic c.args.globals.now c.args.config (module_node c.args.program.now)) (module_node c.visit_mut_module.new.program) m c.args.comments.now c.fix_module.new.comments
    c.from_residual-in_err-fix_module.result (search rules) (search rules) (search rules) c.in_err-fix_module.ensures.partly

pub returns-in_err-fix_module-clause-unmoved : goal.returns-in_err-fix_module-clause-unmoved
returns-in_err-fix_module-clause-unmoved g c =
    unmoved_by_fixer c.args.comments.now c.fix_module.new.comments c.from_residual-in_err-fix_module.result (search rules) (search rules)

pub returns-in_err-fix_module-clause-no_target : goal.returns-in_err-fix_module-clause-no_target
returns-in_err-fix_module-clause-no_target g c =
    let m = made_hygienic c.args.globals.now c.visit_mut_module.new.globals c.args.config c.hygiene_with_config-hygiene.result c.visit_mut_module.new.self (module_node c.replace-module.result) (module_node c.args.program.now)
    (module_node c.visit_mut_module.new.program) c.hygiene_with_config-hygiene.ensures (ap module_node c.replace-module.ensures.value) c.in_ok-visit_mut_module.ensures.done.made in
    λ f. meets_none c.args.globals.now c.args.config module_place (module_node c.args.program.now) refl c.module_fits.ensures f c.from_residual-in_err-fix_module.result c.finishing_meets_no_target.ensures
    (refused_by_fixer hygiene_renaming c.args.globals.now c.args.config (module_node c.args.program.now) (module_node c.visit_mut_module.new.program)
    (typeless (module_node c.replace-module.result) (module_node c.args.program.now) _ (ap module_node c.replace-module.ensures.value) c.in_ok-visit_mut_module.ensures.done) m c.from_residual-in_err-fix_module.result (search rules) (search rules))

pub returns-clause-promises : goal.returns-clause-promises
returns-clause-promises g c =
    let m = made_hygienic c.args.globals.now c.visit_mut_module.new.globals c.args.config c.hygiene_with_config-hygiene.result c.visit_mut_module.new.self (module_node c.replace-module.result) (module_node c.args.program.now)
    (module_node c.visit_mut_module.new.program) c.hygiene_with_config-hygiene.ensures (ap module_node c.replace-module.ensures.value) c.in_ok-visit_mut_module.ensures.done.made in
    λ f. promised c.args.globals.now c.args.config module_place (module_node c.args.program.now) refl c.module_fits.ensures f c.finishing_keeps_promises.ensures (module_node c.fix_module.new.program)
    (record { no_types = (typeless (module_node c.replace-module.result) (module_node c.args.program.now) _ (ap module_node c.replace-module.ensures.value) c.in_ok-visit_mut_module.ensures.done); between = module_node c.visit_mut_module.new.program; renamed = m; assignable = c.in_ok-fix_module.ensures.assignable; paired = c.in_ok-fix_module.ensures.answer }) (module_plain (module_node c.args.program.now) c.module_fits.ensures)

pub returns-clause-answer : goal.returns-clause-answer
returns-clause-answer g c =
    let m = made_hygienic c.args.globals.now c.visit_mut_module.new.globals c.args.config c.hygiene_with_config-hygiene.result c.visit_mut_module.new.self (module_node c.replace-module.result) (module_node c.args.program.now)
    (module_node c.visit_mut_module.new.program) c.hygiene_with_config-hygiene.ensures (ap module_node c.replace-module.ensures.value) c.in_ok-visit_mut_module.ensures.done.made in
    λ f unread scoped. answered c.args.globals.now c.args.config module_place (module_node c.args.program.now) refl c.module_fits.ensures f (module_plain (module_node c.args.program.now) c.module_fits.ensures) unread scoped (module_node c.fix_module.new.program)
    (record { no_types = (typeless (module_node c.replace-module.result) (module_node c.args.program.now) _ (ap module_node c.replace-module.ensures.value) c.in_ok-visit_mut_module.ensures.done); between = module_node c.visit_mut_module.new.program; renamed = m; assignable = c.in_ok-fix_module.ensures.assignable; paired = c.in_ok-fix_module.ensures.answer })

pub returns-in_err-visit_mut_module-clause-cause : goal.returns-in_err-visit_mut_module-clause-cause
returns-in_err-visit_mut_module-clause-cause g c =
    refused_by_hygiene c.args.globals.now c.visit_mut_module.new.globals c.args.config c.hygiene_with_config-hygiene.result c.visit_mut_module.new.self (module_node c.replace-module.result) (module_node c.args.program.now)
    c.hygiene_with_config-hygiene.ensures (ap module_node c.replace-module.ensures.value) c.from_residual.result (search rules)

pub returns-clause-done : goal.returns-clause-done
returns-clause-done g c =
    let m = made_hygienic c.args.globals.now c.visit_mut_module.new.globals c.args.config c.hygiene_with_config-hygiene.result c.visit_mut_module.new.self (module_node c.replace-module.result) (module_node c.args.program.now)
    (module_node c.visit_mut_module.new.program) c.hygiene_with_config-hygiene.ensures (ap module_node c.replace-module.ensures.value) c.in_ok-visit_mut_module.ensures.done.made in
    record {
      no_types = (typeless (module_node c.replace-module.result) (module_node c.args.program.now) _ (ap module_node c.replace-module.ensures.value) c.in_ok-visit_mut_module.ensures.done);
      between = module_node c.visit_mut_module.new.program;
      renamed = m;
      assignable = c.in_ok-fix_module.ensures.assignable;
      paired = c.in_ok-fix_module.ensures.answer;
    }

pub returns-in_err-visit_mut_module-clause-no_target : goal.returns-in_err-visit_mut_module-clause-no_target
returns-in_err-visit_mut_module-clause-no_target g c =
    λ f. meets_none c.args.globals.now c.args.config module_place (module_node c.args.program.now) refl c.module_fits.ensures f c.from_residual.result c.finishing_meets_no_target.ensures
    (refused_by_hygiene c.args.globals.now c.visit_mut_module.new.globals c.args.config c.hygiene_with_config-hygiene.result c.visit_mut_module.new.self (module_node c.replace-module.result) (module_node c.args.program.now)
    c.hygiene_with_config-hygiene.ensures (ap module_node c.replace-module.ensures.value) c.from_residual.result (search rules))
