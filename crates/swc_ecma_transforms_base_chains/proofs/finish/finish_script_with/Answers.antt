use Rattle.std.proofs.Common.{ap, refl, rules}
use Rattle.swc_tree_modules.specs.Nodes.{script_node}
use Rattle.swc_base_rename_program.specs.Renamed.{IsHygienic, hygiene_renaming}
use Rattle.swc_tree_sites_kept.specs.Scripts.{script_place}
use Rattle.swc_ecma_transforms_base_chains.proofs.Finishing.{answered, formed, made_script_hygienic, meets_none, partly_by_fixer, promised, refused_by_fixer, refused_by_hygiene, typeless}
use Rattle.swc_ecma_transforms_base_chains.proofs.finish.finish_script_with.Goals as goal

-- src/finish.rt
pub returns-in_err-fix_script-clause-cause : goal.returns-in_err-fix_script-clause-cause
returns-in_err-fix_script-clause-cause g c =
    let m = made_script_hygienic c.args.globals.now c.visit_mut_script.new.globals c.args.config c.hygiene_with_config-hygiene.result c.visit_mut_script.new.self (script_node c.replace-script.result) (script_node c.args.program.now)
    (script_node c.visit_mut_script.new.program) c.hygiene_with_config-hygiene.ensures (ap script_node c.replace-script.ensures.value) c.in_ok-visit_mut_script.ensures.done.made in
    refused_by_fixer hygiene_renaming c.args.globals.now c.args.config (script_node c.args.program.now) (script_node c.visit_mut_script.new.program)
    (typeless (script_node c.replace-script.result) (script_node c.args.program.now) _ (ap script_node c.replace-script.ensures.value) c.in_ok-visit_mut_script.ensures.done) m c.from_residual-in_err-fix_script.result (search rules) (search rules)

pub returns-in_err-fix_script-clause-partly : goal.returns-in_err-fix_script-clause-partly
returns-in_err-fix_script-clause-partly g c =
    let m = made_script_hygienic c.args.globals.now c.visit_mut_script.new.globals c.args.config c.hygiene_with_config-hygiene.result c.visit_mut_script.new.self (script_node c.replace-script.result) (script_node c.args.program.now)
    (script_node c.visit_mut_script.new.program) c.hygiene_with_config-hygiene.ensures (ap script_node c.replace-script.ensures.value) c.in_ok-visit_mut_script.ensures.done.made in
    partly_by_fixer g.C.Comments.moved (IsHygienic c.args.globals.now c.args.config (script_node c.args.program.now)) (script_node c.visit_mut_script.new.program) m c.args.comments.now c.fix_script.new.comments
    c.from_residual-in_err-fix_script.result (search rules) (search rules) (search rules) c.in_err-fix_script.ensures.partly

pub returns-in_err-visit_mut_script-clause-cause : goal.returns-in_err-visit_mut_script-clause-cause
returns-in_err-visit_mut_script-clause-cause g c =
    refused_by_hygiene c.args.globals.now c.visit_mut_script.new.globals c.args.config c.hygiene_with_config-hygiene.result c.visit_mut_script.new.self (script_node c.replace-script.result) (script_node c.args.program.now)
    c.hygiene_with_config-hygiene.ensures (ap script_node c.replace-script.ensures.value) c.from_residual.result (search rules)

pub returns-clause-done : goal.returns-clause-done
returns-clause-done g c =
    let m = made_script_hygienic c.args.globals.now c.visit_mut_script.new.globals c.args.config c.hygiene_with_config-hygiene.result c.visit_mut_script.new.self (script_node c.replace-script.result) (script_node c.args.program.now)
    (script_node c.visit_mut_script.new.program) c.hygiene_with_config-hygiene.ensures (ap script_node c.replace-script.ensures.value) c.in_ok-visit_mut_script.ensures.done.made in
    record {
      no_types = (typeless (script_node c.replace-script.result) (script_node c.args.program.now) _ (ap script_node c.replace-script.ensures.value) c.in_ok-visit_mut_script.ensures.done);
      between = script_node c.visit_mut_script.new.program;
      renamed = m;
      assignable = c.in_ok-fix_script.ensures.assignable;
      paired = c.in_ok-fix_script.ensures.answer;
    }

pub returns-clause-form : goal.returns-clause-form
returns-clause-form g c =
    let m = made_script_hygienic c.args.globals.now c.visit_mut_script.new.globals c.args.config c.hygiene_with_config-hygiene.result c.visit_mut_script.new.self (script_node c.replace-script.result) (script_node c.args.program.now)
    (script_node c.visit_mut_script.new.program) c.hygiene_with_config-hygiene.ensures (ap script_node c.replace-script.ensures.value) c.in_ok-visit_mut_script.ensures.done.made in
    λ f. formed c.args.globals.now c.args.config script_place (script_node c.args.program.now) refl c.script_fits.ensures f c.finishing_keeps_forms.ensures (script_node c.fix_script.new.program)
    (record { no_types = (typeless (script_node c.replace-script.result) (script_node c.args.program.now) _ (ap script_node c.replace-script.ensures.value) c.in_ok-visit_mut_script.ensures.done); between = script_node c.visit_mut_script.new.program; renamed = m; assignable = c.in_ok-fix_script.ensures.assignable; paired = c.in_ok-fix_script.ensures.answer })

pub returns-clause-promises : goal.returns-clause-promises
returns-clause-promises g c =
    let m = made_script_hygienic c.args.globals.now c.visit_mut_script.new.globals c.args.config c.hygiene_with_config-hygiene.result c.visit_mut_script.new.self (script_node c.replace-script.result) (script_node c.args.program.now)
    (script_node c.visit_mut_script.new.program) c.hygiene_with_config-hygiene.ensures (ap script_node c.replace-script.ensures.value) c.in_ok-visit_mut_script.ensures.done.made in
    λ f plain. promised c.args.globals.now c.args.config script_place (script_node c.args.program.now) refl c.script_fits.ensures f c.finishing_keeps_promises.ensures (script_node c.fix_script.new.program)
    (record { no_types = (typeless (script_node c.replace-script.result) (script_node c.args.program.now) _ (ap script_node c.replace-script.ensures.value) c.in_ok-visit_mut_script.ensures.done); between = script_node c.visit_mut_script.new.program; renamed = m; assignable = c.in_ok-fix_script.ensures.assignable; paired = c.in_ok-fix_script.ensures.answer }) (λ s. plain)

pub returns-clause-answer : goal.returns-clause-answer
returns-clause-answer g c =
    let m = made_script_hygienic c.args.globals.now c.visit_mut_script.new.globals c.args.config c.hygiene_with_config-hygiene.result c.visit_mut_script.new.self (script_node c.replace-script.result) (script_node c.args.program.now)
    (script_node c.visit_mut_script.new.program) c.hygiene_with_config-hygiene.ensures (ap script_node c.replace-script.ensures.value) c.in_ok-visit_mut_script.ensures.done.made in
    λ f plain unread scoped. answered c.args.globals.now c.args.config script_place (script_node c.args.program.now) refl c.script_fits.ensures f (λ s. plain) unread scoped (script_node c.fix_script.new.program)
    (record { no_types = (typeless (script_node c.replace-script.result) (script_node c.args.program.now) _ (ap script_node c.replace-script.ensures.value) c.in_ok-visit_mut_script.ensures.done); between = script_node c.visit_mut_script.new.program; renamed = m; assignable = c.in_ok-fix_script.ensures.assignable; paired = c.in_ok-fix_script.ensures.answer })

pub returns-in_err-fix_script-clause-no_target : goal.returns-in_err-fix_script-clause-no_target
returns-in_err-fix_script-clause-no_target g c =
    let m = made_script_hygienic c.args.globals.now c.visit_mut_script.new.globals c.args.config c.hygiene_with_config-hygiene.result c.visit_mut_script.new.self (script_node c.replace-script.result) (script_node c.args.program.now)
    (script_node c.visit_mut_script.new.program) c.hygiene_with_config-hygiene.ensures (ap script_node c.replace-script.ensures.value) c.in_ok-visit_mut_script.ensures.done.made in
    λ f. meets_none c.args.globals.now c.args.config script_place (script_node c.args.program.now) refl c.script_fits.ensures f c.from_residual-in_err-fix_script.result c.finishing_meets_no_target.ensures
    (refused_by_fixer hygiene_renaming c.args.globals.now c.args.config (script_node c.args.program.now) (script_node c.visit_mut_script.new.program)
    (typeless (script_node c.replace-script.result) (script_node c.args.program.now) _ (ap script_node c.replace-script.ensures.value) c.in_ok-visit_mut_script.ensures.done) m c.from_residual-in_err-fix_script.result (search rules) (search rules))

pub returns-in_err-visit_mut_script-clause-no_target : goal.returns-in_err-visit_mut_script-clause-no_target
returns-in_err-visit_mut_script-clause-no_target g c =
    λ f. meets_none c.args.globals.now c.args.config script_place (script_node c.args.program.now) refl c.script_fits.ensures f c.from_residual.result c.finishing_meets_no_target.ensures
    (refused_by_hygiene c.args.globals.now c.visit_mut_script.new.globals c.args.config c.hygiene_with_config-hygiene.result c.visit_mut_script.new.self (script_node c.replace-script.result) (script_node c.args.program.now)
    c.hygiene_with_config-hygiene.ensures (ap script_node c.replace-script.ensures.value) c.from_residual.result (search rules))
