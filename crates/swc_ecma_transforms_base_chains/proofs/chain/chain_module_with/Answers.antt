use Rattle.std.proofs.Common.{ap, refl, rules, sym, ◌∙◌}
use Rattle.swc_tree_modules.specs.Nodes.{module_node}
use Rattle.swc_base_renaming_laws.proofs.IdsPrograms.{module_place}
use Rattle.swc_base_rename_program.specs.Renamed.{hygiene_renaming}
use Rattle.swc_ecma_transforms_base_chains.proofs.Chaining.{answered, chained, fresh_first, marked, moved_once, moved_partly, no_target_first, no_target_later, refused_first, refused_later, source_kept, stays}
use Rattle.swc_ecma_transforms_base_chains.proofs.Finishing.{module_plain, where_refused}
use Rattle.swc_ecma_transforms_base_chains.proofs.chain.chain_module_with.Goals as goal

-- src/chain.rt
pub returns-in_err-finish_module_with-clause-cause : goal.returns-in_err-finish_module_with-clause-cause
returns-in_err-finish_module_with-clause-cause g c =
    let m = marked c.args.unresolved c.args.top c.resolver-resolver.result c.visit_mut_module.new.self c.args.globals.now c.visit_mut_module.new.globals (module_node c.replace-module.result) (module_node c.args.program.now)
    (module_node c.visit_mut_module.new.program) c.resolver-resolver.ensures (ap module_node c.replace-module.ensures.value) c.types_are_told.ensures (sym c.types_in_module.ensures ∙ c.if-types_in_module.false) c.in_ok-visit_mut_module.ensures.done.made in
    rw c.finish_module_with.ensures.marks
    (refused_later (λ t. hygiene_renaming) c.args.unresolved c.args.top c.args.config c.args.globals.now (module_node c.args.program.now) c.visit_mut_module.new.globals (module_node c.visit_mut_module.new.program) m (sym c.types_in_module.ensures ∙ c.if-types_in_module.false) c.from_residual-in_err-finish_module_with.result (search rules))

pub returns-clause-done : goal.returns-clause-done
returns-clause-done g c =
    let m = marked c.args.unresolved c.args.top c.resolver-resolver.result c.visit_mut_module.new.self c.args.globals.now c.visit_mut_module.new.globals (module_node c.replace-module.result) (module_node c.args.program.now)
    (module_node c.visit_mut_module.new.program) c.resolver-resolver.ensures (ap module_node c.replace-module.ensures.value) c.types_are_told.ensures (sym c.types_in_module.ensures ∙ c.if-types_in_module.false) c.in_ok-visit_mut_module.ensures.done.made in
    rw c.finish_module_with.ensures.marks
    (chained (λ t. hygiene_renaming) c.args.unresolved c.args.top c.args.config c.args.globals.now (module_node c.args.program.now) c.visit_mut_module.new.globals (module_node c.visit_mut_module.new.program) m (sym c.types_in_module.ensures ∙ c.if-types_in_module.false) (module_node c.finish_module_with.new.program) c.in_ok-finish_module_with.ensures.done)

pub returns-in_err-finish_module_with-clause-no_target : goal.returns-in_err-finish_module_with-clause-no_target
returns-in_err-finish_module_with-clause-no_target g c =
    let m = marked c.args.unresolved c.args.top c.resolver-resolver.result c.visit_mut_module.new.self c.args.globals.now c.visit_mut_module.new.globals (module_node c.replace-module.result) (module_node c.args.program.now)
    (module_node c.visit_mut_module.new.program) c.resolver-resolver.ensures (ap module_node c.replace-module.ensures.value) c.types_are_told.ensures (sym c.types_in_module.ensures ∙ c.if-types_in_module.false) c.in_ok-visit_mut_module.ensures.done.made in
    no_target_later c.args.unresolved c.args.top c.args.config c.args.globals.now (module_node c.args.program.now) c.visit_mut_module.new.globals (module_node c.visit_mut_module.new.program) m
    c.from_residual-in_err-finish_module_with.result c.chaining_keeps_forms.ensures (search rules) module_place refl c.module_fits.ensures

pub returns-clause-promises : goal.returns-clause-promises
returns-clause-promises g c =
    let m = marked c.args.unresolved c.args.top c.resolver-resolver.result c.visit_mut_module.new.self c.args.globals.now c.visit_mut_module.new.globals (module_node c.replace-module.result) (module_node c.args.program.now)
    (module_node c.visit_mut_module.new.program) c.resolver-resolver.ensures (ap module_node c.replace-module.ensures.value) c.types_are_told.ensures (sym c.types_in_module.ensures ∙ c.if-types_in_module.false) c.in_ok-visit_mut_module.ensures.done.made in
    rw c.finish_module_with.ensures.marks
    (source_kept c.args.unresolved c.args.top c.args.config c.args.globals.now (module_node c.args.program.now) c.visit_mut_module.new.globals (module_node c.visit_mut_module.new.program) m
    c.chaining_keeps_sources.ensures module_place refl (module_node c.finish_module_with.new.program) c.in_ok-finish_module_with.ensures.done c.module_fits.ensures (module_plain (module_node c.args.program.now) c.module_fits.ensures))

pub returns-clause-answer : goal.returns-clause-answer
returns-clause-answer g c =
    let m = marked c.args.unresolved c.args.top c.resolver-resolver.result c.visit_mut_module.new.self c.args.globals.now c.visit_mut_module.new.globals (module_node c.replace-module.result) (module_node c.args.program.now)
    (module_node c.visit_mut_module.new.program) c.resolver-resolver.ensures (ap module_node c.replace-module.ensures.value) c.types_are_told.ensures (sym c.types_in_module.ensures ∙ c.if-types_in_module.false) c.in_ok-visit_mut_module.ensures.done.made in
    answered c.args.unresolved c.args.top c.args.config c.args.globals.now (module_node c.args.program.now) c.visit_mut_module.new.globals (module_node c.visit_mut_module.new.program) m
    c.resolved_sources_are_ready.ensures module_place refl (module_node c.finish_module_with.new.program) c.in_ok-finish_module_with.ensures.done c.module_fits.ensures (module_plain (module_node c.args.program.now) c.module_fits.ensures)

pub returns-clause-again : goal.returns-clause-again
returns-clause-again g c =
    let m = marked c.args.unresolved c.args.top c.resolver-resolver.result c.visit_mut_module.new.self c.args.globals.now c.visit_mut_module.new.globals (module_node c.replace-module.result) (module_node c.args.program.now)
    (module_node c.visit_mut_module.new.program) c.resolver-resolver.ensures (ap module_node c.replace-module.ensures.value) c.types_are_told.ensures (sym c.types_in_module.ensures ∙ c.if-types_in_module.false) c.in_ok-visit_mut_module.ensures.done.made in
    stays c.args.unresolved c.args.top c.args.config c.args.globals.now (module_node c.args.program.now) c.visit_mut_module.new.globals (module_node c.visit_mut_module.new.program) m
    c.a_chain_changes_nothing.ensures (module_node c.finish_module_with.new.program) c.in_ok-finish_module_with.ensures.done

pub returns-clause-moved : goal.returns-clause-moved
returns-clause-moved g c =
    let m = marked c.args.unresolved c.args.top c.resolver-resolver.result c.visit_mut_module.new.self c.args.globals.now c.visit_mut_module.new.globals (module_node c.replace-module.result) (module_node c.args.program.now)
    (module_node c.visit_mut_module.new.program) c.resolver-resolver.ensures (ap module_node c.replace-module.ensures.value) c.types_are_told.ensures (sym c.types_in_module.ensures ∙ c.if-types_in_module.false) c.in_ok-visit_mut_module.ensures.done.made in
    rw c.finish_module_with.ensures.marks
    (moved_once (λ t. hygiene_renaming) c.args.unresolved c.args.top c.args.config c.args.globals.now (module_node c.args.program.now) c.visit_mut_module.new.globals (module_node c.visit_mut_module.new.program) m
    _ (module_node c.finish_module_with.new.program) c.args.comments.now c.finish_module_with.new.comments c.in_ok-finish_module_with.ensures.moved)

pub returns-in_err-finish_module_with-clause-partly : goal.returns-in_err-finish_module_with-clause-partly
returns-in_err-finish_module_with-clause-partly g c =
    let m = marked c.args.unresolved c.args.top c.resolver-resolver.result c.visit_mut_module.new.self c.args.globals.now c.visit_mut_module.new.globals (module_node c.replace-module.result) (module_node c.args.program.now)
    (module_node c.visit_mut_module.new.program) c.resolver-resolver.ensures (ap module_node c.replace-module.ensures.value) c.types_are_told.ensures (sym c.types_in_module.ensures ∙ c.if-types_in_module.false) c.in_ok-visit_mut_module.ensures.done.made in
    rw c.finish_module_with.ensures.marks
    (where_refused c.from_residual-in_err-finish_module_with.result
    (moved_partly (λ t. hygiene_renaming) c.args.unresolved c.args.top c.args.config c.args.globals.now (module_node c.args.program.now) c.visit_mut_module.new.globals (module_node c.visit_mut_module.new.program) m
    _ c.args.comments.now c.finish_module_with.new.comments c.in_err-finish_module_with.ensures.partly))

pub returns-in_err-visit_mut_module-clause-cause : goal.returns-in_err-visit_mut_module-clause-cause
returns-in_err-visit_mut_module-clause-cause g c =
    refused_first (λ t. hygiene_renaming) c.args.unresolved c.args.top c.args.config c.resolver-resolver.result c.visit_mut_module.new.self c.args.globals.now c.visit_mut_module.new.globals (module_node c.replace-module.result) (module_node c.args.program.now)
    c.resolver-resolver.ensures (ap module_node c.replace-module.ensures.value) (sym c.types_in_module.ensures ∙ c.if-types_in_module.false) c.from_residual.result (search rules)

pub returns-in_err-visit_mut_module-clause-marks : goal.returns-in_err-visit_mut_module-clause-marks
returns-in_err-visit_mut_module-clause-marks g c =
    fresh_first (λ t. hygiene_renaming) c.args.unresolved c.args.top c.args.config c.resolver-resolver.result c.visit_mut_module.new.self c.args.globals.now c.visit_mut_module.new.globals (module_node c.replace-module.result) (module_node c.args.program.now)
    c.resolver-resolver.ensures (ap module_node c.replace-module.ensures.value) _ c.in_err-visit_mut_module.ensures.cause

pub returns-in_err-visit_mut_module-clause-no_target : goal.returns-in_err-visit_mut_module-clause-no_target
returns-in_err-visit_mut_module-clause-no_target g c =
    λ source ok. no_target_first (λ t. hygiene_renaming) c.args.unresolved c.args.top c.args.config c.resolver-resolver.result c.visit_mut_module.new.self c.args.globals.now c.visit_mut_module.new.globals (module_node c.replace-module.result) (module_node c.args.program.now)
    c.resolver-resolver.ensures (ap module_node c.replace-module.ensures.value) c.from_residual.result (search rules)
