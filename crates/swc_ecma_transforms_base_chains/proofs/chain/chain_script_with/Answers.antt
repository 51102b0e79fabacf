use Rattle.std.proofs.Common.{ap, refl, rules, sym, ◌∙◌}
use Rattle.swc_tree_modules.specs.Nodes.{script_node}
use Rattle.swc_tree_sites_kept.specs.Scripts.{script_place}
use Rattle.swc_base_rename_program.specs.Renamed.{hygiene_renaming}
use Rattle.swc_ecma_transforms_base_chains.proofs.Chaining.{answered, chained, form_kept, fresh_first, marked, moved_once, moved_partly, no_target_first, no_target_later, refused_first, refused_later, source_kept, stays}
use Rattle.swc_ecma_transforms_base_chains.proofs.Finishing.{where_refused}
use Rattle.swc_ecma_transforms_base_chains.proofs.chain.chain_script_with.Goals as goal

-- src/chain.rt
pub returns-in_err-finish_script_with-clause-cause : goal.returns-in_err-finish_script_with-clause-cause
returns-in_err-finish_script_with-clause-cause g c =
    let m = marked c.args.unresolved c.args.top c.resolver-resolver.result c.visit_mut_script.new.self c.args.globals.now c.visit_mut_script.new.globals (script_node c.replace-script.result) (script_node c.args.program.now)
    (script_node c.visit_mut_script.new.program) c.resolver-resolver.ensures (ap script_node c.replace-script.ensures.value) c.types_are_told.ensures (sym c.types_in_script.ensures ∙ c.if-types_in_script.false) c.in_ok-visit_mut_script.ensures.done.made in
    rw c.finish_script_with.ensures.marks
    (refused_later (λ t. hygiene_renaming) c.args.unresolved c.args.top c.args.config c.args.globals.now (script_node c.args.program.now) c.visit_mut_script.new.globals (script_node c.visit_mut_script.new.program) m (sym c.types_in_script.ensures ∙ c.if-types_in_script.false) c.from_residual-in_err-finish_script_with.result (search rules))

pub returns-clause-done : goal.returns-clause-done
returns-clause-done g c =
    let m = marked c.args.unresolved c.args.top c.resolver-resolver.result c.visit_mut_script.new.self c.args.globals.now c.visit_mut_script.new.globals (script_node c.replace-script.result) (script_node c.args.program.now)
    (script_node c.visit_mut_script.new.program) c.resolver-resolver.ensures (ap script_node c.replace-script.ensures.value) c.types_are_told.ensures (sym c.types_in_script.ensures ∙ c.if-types_in_script.false) c.in_ok-visit_mut_script.ensures.done.made in
    rw c.finish_script_with.ensures.marks
    (chained (λ t. hygiene_renaming) c.args.unresolved c.args.top c.args.config c.args.globals.now (script_node c.args.program.now) c.visit_mut_script.new.globals (script_node c.visit_mut_script.new.program) m (sym c.types_in_script.ensures ∙ c.if-types_in_script.false) (script_node c.finish_script_with.new.program) c.in_ok-finish_script_with.ensures.done)

pub returns-clause-moved : goal.returns-clause-moved
returns-clause-moved g c =
    let m = marked c.args.unresolved c.args.top c.resolver-resolver.result c.visit_mut_script.new.self c.args.globals.now c.visit_mut_script.new.globals (script_node c.replace-script.result) (script_node c.args.program.now)
    (script_node c.visit_mut_script.new.program) c.resolver-resolver.ensures (ap script_node c.replace-script.ensures.value) c.types_are_told.ensures (sym c.types_in_script.ensures ∙ c.if-types_in_script.false) c.in_ok-visit_mut_script.ensures.done.made in
    rw c.finish_script_with.ensures.marks
    (moved_once (λ t. hygiene_renaming) c.args.unresolved c.args.top c.args.config c.args.globals.now (script_node c.args.program.now) c.visit_mut_script.new.globals (script_node c.visit_mut_script.new.program) m
    _ (script_node c.finish_script_with.new.program) c.args.comments.now c.finish_script_with.new.comments c.in_ok-finish_script_with.ensures.moved)

pub returns-in_err-finish_script_with-clause-partly : goal.returns-in_err-finish_script_with-clause-partly
returns-in_err-finish_script_with-clause-partly g c =
    let m = marked c.args.unresolved c.args.top c.resolver-resolver.result c.visit_mut_script.new.self c.args.globals.now c.visit_mut_script.new.globals (script_node c.replace-script.result) (script_node c.args.program.now)
    (script_node c.visit_mut_script.new.program) c.resolver-resolver.ensures (ap script_node c.replace-script.ensures.value) c.types_are_told.ensures (sym c.types_in_script.ensures ∙ c.if-types_in_script.false) c.in_ok-visit_mut_script.ensures.done.made in
    rw c.finish_script_with.ensures.marks
    (where_refused c.from_residual-in_err-finish_script_with.result
    (moved_partly (λ t. hygiene_renaming) c.args.unresolved c.args.top c.args.config c.args.globals.now (script_node c.args.program.now) c.visit_mut_script.new.globals (script_node c.visit_mut_script.new.program) m
    _ c.args.comments.now c.finish_script_with.new.comments c.in_err-finish_script_with.ensures.partly))

pub returns-in_err-visit_mut_script-clause-cause : goal.returns-in_err-visit_mut_script-clause-cause
returns-in_err-visit_mut_script-clause-cause g c =
    refused_first (λ t. hygiene_renaming) c.args.unresolved c.args.top c.args.config c.resolver-resolver.result c.visit_mut_script.new.self c.args.globals.now c.visit_mut_script.new.globals (script_node c.replace-script.result) (script_node c.args.program.now)
    c.resolver-resolver.ensures (ap script_node c.replace-script.ensures.value) (sym c.types_in_script.ensures ∙ c.if-types_in_script.false) c.from_residual.result (search rules)

pub returns-in_err-visit_mut_script-clause-marks : goal.returns-in_err-visit_mut_script-clause-marks
returns-in_err-visit_mut_script-clause-marks g c =
    fresh_first (λ t. hygiene_renaming) c.args.unresolved c.args.top c.args.config c.resolver-resolver.result c.visit_mut_script.new.self c.args.globals.now c.visit_mut_script.new.globals (script_node c.replace-script.result) (script_node c.args.program.now)
    c.resolver-resolver.ensures (ap script_node c.replace-script.ensures.value) _ c.in_err-visit_mut_script.ensures.cause

pub returns-clause-form : goal.returns-clause-form
returns-clause-form g c =
    let m = marked c.args.unresolved c.args.top c.resolver-resolver.result c.visit_mut_script.new.self c.args.globals.now c.visit_mut_script.new.globals (script_node c.replace-script.result) (script_node c.args.program.now)
    (script_node c.visit_mut_script.new.program) c.resolver-resolver.ensures (ap script_node c.replace-script.ensures.value) c.types_are_told.ensures (sym c.types_in_script.ensures ∙ c.if-types_in_script.false) c.in_ok-visit_mut_script.ensures.done.made in
    form_kept c.args.unresolved c.args.top c.args.config c.args.globals.now (script_node c.args.program.now) c.visit_mut_script.new.globals (script_node c.visit_mut_script.new.program) m
    c.chaining_keeps_forms.ensures script_place refl (script_node c.finish_script_with.new.program) c.in_ok-finish_script_with.ensures.done c.script_fits.ensures

pub returns-clause-promises : goal.returns-clause-promises
returns-clause-promises g c =
    let m = marked c.args.unresolved c.args.top c.resolver-resolver.result c.visit_mut_script.new.self c.args.globals.now c.visit_mut_script.new.globals (script_node c.replace-script.result) (script_node c.args.program.now)
    (script_node c.visit_mut_script.new.program) c.resolver-resolver.ensures (ap script_node c.replace-script.ensures.value) c.types_are_told.ensures (sym c.types_in_script.ensures ∙ c.if-types_in_script.false) c.in_ok-visit_mut_script.ensures.done.made in
    rw c.finish_script_with.ensures.marks
    (λ source plain ok. source_kept c.args.unresolved c.args.top c.args.config c.args.globals.now (script_node c.args.program.now) c.visit_mut_script.new.globals (script_node c.visit_mut_script.new.program) m
    c.chaining_keeps_sources.ensures script_place refl (script_node c.finish_script_with.new.program) c.in_ok-finish_script_with.ensures.done c.script_fits.ensures (λ s. plain) source ok)

pub returns-clause-answer : goal.returns-clause-answer
returns-clause-answer g c =
    let m = marked c.args.unresolved c.args.top c.resolver-resolver.result c.visit_mut_script.new.self c.args.globals.now c.visit_mut_script.new.globals (script_node c.replace-script.result) (script_node c.args.program.now)
    (script_node c.visit_mut_script.new.program) c.resolver-resolver.ensures (ap script_node c.replace-script.ensures.value) c.types_are_told.ensures (sym c.types_in_script.ensures ∙ c.if-types_in_script.false) c.in_ok-visit_mut_script.ensures.done.made in
    λ source plain. answered c.args.unresolved c.args.top c.args.config c.args.globals.now (script_node c.args.program.now) c.visit_mut_script.new.globals (script_node c.visit_mut_script.new.program) m
    c.resolved_sources_are_ready.ensures script_place refl (script_node c.finish_script_with.new.program) c.in_ok-finish_script_with.ensures.done c.script_fits.ensures (λ s. plain) source

pub returns-clause-again : goal.returns-clause-again
returns-clause-again g c =
    let m = marked c.args.unresolved c.args.top c.resolver-resolver.result c.visit_mut_script.new.self c.args.globals.now c.visit_mut_script.new.globals (script_node c.replace-script.result) (script_node c.args.program.now)
    (script_node c.visit_mut_script.new.program) c.resolver-resolver.ensures (ap script_node c.replace-script.ensures.value) c.types_are_told.ensures (sym c.types_in_script.ensures ∙ c.if-types_in_script.false) c.in_ok-visit_mut_script.ensures.done.made in
    stays c.args.unresolved c.args.top c.args.config c.args.globals.now (script_node c.args.program.now) c.visit_mut_script.new.globals (script_node c.visit_mut_script.new.program) m
    c.a_chain_changes_nothing.ensures (script_node c.finish_script_with.new.program) c.in_ok-finish_script_with.ensures.done

pub returns-in_err-finish_script_with-clause-no_target : goal.returns-in_err-finish_script_with-clause-no_target
returns-in_err-finish_script_with-clause-no_target g c =
    let m = marked c.args.unresolved c.args.top c.resolver-resolver.result c.visit_mut_script.new.self c.args.globals.now c.visit_mut_script.new.globals (script_node c.replace-script.result) (script_node c.args.program.now)
    (script_node c.visit_mut_script.new.program) c.resolver-resolver.ensures (ap script_node c.replace-script.ensures.value) c.types_are_told.ensures (sym c.types_in_script.ensures ∙ c.if-types_in_script.false) c.in_ok-visit_mut_script.ensures.done.made in
    no_target_later c.args.unresolved c.args.top c.args.config c.args.globals.now (script_node c.args.program.now) c.visit_mut_script.new.globals (script_node c.visit_mut_script.new.program) m
    c.from_residual-in_err-finish_script_with.result c.chaining_keeps_forms.ensures (search rules) script_place refl c.script_fits.ensures

pub returns-in_err-visit_mut_script-clause-no_target : goal.returns-in_err-visit_mut_script-clause-no_target
returns-in_err-visit_mut_script-clause-no_target g c =
    λ source ok. no_target_first (λ t. hygiene_renaming) c.args.unresolved c.args.top c.args.config c.resolver-resolver.result c.visit_mut_script.new.self c.args.globals.now c.visit_mut_script.new.globals (script_node c.replace-script.result) (script_node c.args.program.now)
    c.resolver-resolver.ensures (ap script_node c.replace-script.ensures.value) c.from_residual.result (search rules)
