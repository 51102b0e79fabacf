use Rattle.std.proofs.Common.{ap, refl, rules, sym, ◌∙◌}
use Rattle.swc_tree_modules.specs.Nodes.{module_node}
use Rattle.swc_tree_grammar.specs.Fixed.{recorded}
use Rattle.swc_tree_grammar.specs.Pairs.{pairs}
use Rattle.swc_base_renaming_laws.proofs.IdsPrograms.{module_place}
use Rattle.swc_base_rename.specs.Renamers.{renaming_in}
use Rattle.swc_ecma_transforms_base_chains.proofs.Chaining.{chained, fresh_first, marked, moved_once, moved_partly, no_target_first, no_target_later_by, refused_first, refused_later, source_kept_by, typeless_yet}
use Rattle.swc_ecma_transforms_base_chains.proofs.Finishing.{module_plain, where_refused}
use Rattle.swc_ecma_transforms_base.proofs.chain_with.chain_module_by.Goals as goal

-- src/chain_with.rt
pub finish_typeless_module_by-requires : goal.finish_typeless_module_by-requires
finish_typeless_module_by-requires g c =
    let m = marked c.args.unresolved c.args.top c.resolver-resolver.result c.visit_mut_module.new.self c.args.globals.now c.visit_mut_module.new.globals (module_node c.replace-module.result) (module_node c.args.program.now)
    (module_node c.visit_mut_module.new.program) c.resolver-resolver.ensures (ap module_node c.replace-module.ensures.value) c.types_are_told.ensures (sym c.types_in_module.ensures ∙ c.if-types_in_module.false) c.in_ok-visit_mut_module.ensures.done.made in
    record { no_types = typeless_yet c.args.unresolved c.args.top c.args.globals.now (module_node c.args.program.now) c.visit_mut_module.new.globals (module_node c.visit_mut_module.new.program) m (sym c.types_in_module.ensures ∙ c.if-types_in_module.false) }

pub returns-in_err-finish_typeless_module_by-clause-cause : goal.returns-in_err-finish_typeless_module_by-clause-cause
returns-in_err-finish_typeless_module_by-clause-cause g c =
    let m = marked c.args.unresolved c.args.top c.resolver-resolver.result c.visit_mut_module.new.self c.args.globals.now c.visit_mut_module.new.globals (module_node c.replace-module.result) (module_node c.args.program.now)
    (module_node c.visit_mut_module.new.program) c.resolver-resolver.ensures (ap module_node c.replace-module.ensures.value) c.types_are_told.ensures (sym c.types_in_module.ensures ∙ c.if-types_in_module.false) c.in_ok-visit_mut_module.ensures.done.made in
    let r = renaming_in g.R.Renamer.text g.R.Renamer.preserved g.R.Renamer.asked g.R.Renamer.MANGLE g.R.Renamer.RESET_N c.args.renamer.now c.finish_typeless_module_by.new.renamer in
    refused_later r c.args.unresolved c.args.top c.args.config c.args.globals.now (module_node c.args.program.now) c.visit_mut_module.new.globals (module_node c.visit_mut_module.new.program) m (sym c.types_in_module.ensures ∙ c.if-types_in_module.false) c.from_residual-in_err-finish_typeless_module_by.result (search rules)

pub returns-clause-done : goal.returns-clause-done
returns-clause-done g c =
    let m = marked c.args.unresolved c.args.top c.resolver-resolver.result c.visit_mut_module.new.self c.args.globals.now c.visit_mut_module.new.globals (module_node c.replace-module.result) (module_node c.args.program.now)
    (module_node c.visit_mut_module.new.program) c.resolver-resolver.ensures (ap module_node c.replace-module.ensures.value) c.types_are_told.ensures (sym c.types_in_module.ensures ∙ c.if-types_in_module.false) c.in_ok-visit_mut_module.ensures.done.made in
    let r = renaming_in g.R.Renamer.text g.R.Renamer.preserved g.R.Renamer.asked g.R.Renamer.MANGLE g.R.Renamer.RESET_N c.args.renamer.now c.finish_typeless_module_by.new.renamer in
    chained r c.args.unresolved c.args.top c.args.config c.args.globals.now (module_node c.args.program.now) c.visit_mut_module.new.globals (module_node c.visit_mut_module.new.program) m (sym c.types_in_module.ensures ∙ c.if-types_in_module.false) (module_node c.finish_typeless_module_by.new.program) c.in_ok-finish_typeless_module_by.ensures.done

pub returns-clause-promises : goal.returns-clause-promises
returns-clause-promises g c =
    let m = marked c.args.unresolved c.args.top c.resolver-resolver.result c.visit_mut_module.new.self c.args.globals.now c.visit_mut_module.new.globals (module_node c.replace-module.result) (module_node c.args.program.now)
    (module_node c.visit_mut_module.new.program) c.resolver-resolver.ensures (ap module_node c.replace-module.ensures.value) c.types_are_told.ensures (sym c.types_in_module.ensures ∙ c.if-types_in_module.false) c.in_ok-visit_mut_module.ensures.done.made in
    let r = renaming_in g.R.Renamer.text g.R.Renamer.preserved g.R.Renamer.asked g.R.Renamer.MANGLE g.R.Renamer.RESET_N c.args.renamer.now c.finish_typeless_module_by.new.renamer in
    λ suits source ok. source_kept_by r c.args.unresolved c.args.top c.args.config c.args.globals.now (module_node c.args.program.now) c.visit_mut_module.new.globals (module_node c.visit_mut_module.new.program) m c.lawful_renamers_keep_sources.ensures c.finish_typeless_module_by.ensures.lawful (suits (module_node c.visit_mut_module.new.program) (m.resolved ok)) module_place refl (module_node c.finish_typeless_module_by.new.program)
    c.in_ok-finish_typeless_module_by.ensures.done c.module_fits.ensures (module_plain (module_node c.args.program.now) c.module_fits.ensures) source ok

pub returns-in_err-finish_typeless_module_by-clause-no_target : goal.returns-in_err-finish_typeless_module_by-clause-no_target
returns-in_err-finish_typeless_module_by-clause-no_target g c =
    let m = marked c.args.unresolved c.args.top c.resolver-resolver.result c.visit_mut_module.new.self c.args.globals.now c.visit_mut_module.new.globals (module_node c.replace-module.result) (module_node c.args.program.now)
    (module_node c.visit_mut_module.new.program) c.resolver-resolver.ensures (ap module_node c.replace-module.ensures.value) c.types_are_told.ensures (sym c.types_in_module.ensures ∙ c.if-types_in_module.false) c.in_ok-visit_mut_module.ensures.done.made in
    let r = renaming_in g.R.Renamer.text g.R.Renamer.preserved g.R.Renamer.asked g.R.Renamer.MANGLE g.R.Renamer.RESET_N c.args.renamer.now c.finish_typeless_module_by.new.renamer in
    λ source ok. no_target_later_by r c.args.unresolved c.args.top c.args.config c.args.globals.now (module_node c.args.program.now) c.visit_mut_module.new.globals (module_node c.visit_mut_module.new.program) m c.from_residual-in_err-finish_typeless_module_by.result
    (λ middle marks renamed. (c.lawful_renamers_keep_forms_of_sources.ensures (r (module_node c.visit_mut_module.new.program)) c.args.config (recorded (pairs middle)) module_place c.args.unresolved c.args.top c.args.globals.now c.visit_mut_module.new.globals (module_node c.args.program.now) (module_node c.visit_mut_module.new.program) middle c.finish_typeless_module_by.ensures.lawful refl c.module_fits.ensures source marks renamed).1)
    (search rules) ok

pub returns-clause-asked : goal.returns-clause-asked
returns-clause-asked g c =
    let m = marked c.args.unresolved c.args.top c.resolver-resolver.result c.visit_mut_module.new.self c.args.globals.now c.visit_mut_module.new.globals (module_node c.replace-module.result) (module_node c.args.program.now)
    (module_node c.visit_mut_module.new.program) c.resolver-resolver.ensures (ap module_node c.replace-module.ensures.value) c.types_are_told.ensures (sym c.types_in_module.ensures ∙ c.if-types_in_module.false) c.in_ok-visit_mut_module.ensures.done.made in
    let r = renaming_in g.R.Renamer.text g.R.Renamer.preserved g.R.Renamer.asked g.R.Renamer.MANGLE g.R.Renamer.RESET_N c.args.renamer.now c.finish_typeless_module_by.new.renamer in
    record { resolved = (module_node c.visit_mut_module.new.program); marked = m; is_so = c.finish_typeless_module_by.ensures.asked }

pub returns-clause-moved : goal.returns-clause-moved
returns-clause-moved g c =
    let m = marked c.args.unresolved c.args.top c.resolver-resolver.result c.visit_mut_module.new.self c.args.globals.now c.visit_mut_module.new.globals (module_node c.replace-module.result) (module_node c.args.program.now)
    (module_node c.visit_mut_module.new.program) c.resolver-resolver.ensures (ap module_node c.replace-module.ensures.value) c.types_are_told.ensures (sym c.types_in_module.ensures ∙ c.if-types_in_module.false) c.in_ok-visit_mut_module.ensures.done.made in
    let r = renaming_in g.R.Renamer.text g.R.Renamer.preserved g.R.Renamer.asked g.R.Renamer.MANGLE g.R.Renamer.RESET_N c.args.renamer.now c.finish_typeless_module_by.new.renamer in
    moved_once r c.args.unresolved c.args.top c.args.config c.args.globals.now (module_node c.args.program.now) c.visit_mut_module.new.globals (module_node c.visit_mut_module.new.program) m _ (module_node c.finish_typeless_module_by.new.program) c.args.comments.now c.finish_typeless_module_by.new.comments c.in_ok-finish_typeless_module_by.ensures.moved

pub returns-in_err-finish_typeless_module_by-clause-partly : goal.returns-in_err-finish_typeless_module_by-clause-partly
returns-in_err-finish_typeless_module_by-clause-partly g c =
    let m = marked c.args.unresolved c.args.top c.resolver-resolver.result c.visit_mut_module.new.self c.args.globals.now c.visit_mut_module.new.globals (module_node c.replace-module.result) (module_node c.args.program.now)
    (module_node c.visit_mut_module.new.program) c.resolver-resolver.ensures (ap module_node c.replace-module.ensures.value) c.types_are_told.ensures (sym c.types_in_module.ensures ∙ c.if-types_in_module.false) c.in_ok-visit_mut_module.ensures.done.made in
    let r = renaming_in g.R.Renamer.text g.R.Renamer.preserved g.R.Renamer.asked g.R.Renamer.MANGLE g.R.Renamer.RESET_N c.args.renamer.now c.finish_typeless_module_by.new.renamer in
    where_refused c.from_residual-in_err-finish_typeless_module_by.result
    (moved_partly r c.args.unresolved c.args.top c.args.config c.args.globals.now (module_node c.args.program.now) c.visit_mut_module.new.globals (module_node c.visit_mut_module.new.program) m _ c.args.comments.now c.finish_typeless_module_by.new.comments c.in_err-finish_typeless_module_by.ensures.partly)

pub returns-in_err-visit_mut_module-clause-cause : goal.returns-in_err-visit_mut_module-clause-cause
returns-in_err-visit_mut_module-clause-cause g c =
    refused_first (renaming_in g.R.Renamer.text g.R.Renamer.preserved g.R.Renamer.asked g.R.Renamer.MANGLE g.R.Renamer.RESET_N c.args.renamer.now c.args.renamer.now) c.args.unresolved c.args.top c.args.config c.resolver-resolver.result c.visit_mut_module.new.self c.args.globals.now c.visit_mut_module.new.globals (module_node c.replace-module.result) (module_node c.args.program.now)
    c.resolver-resolver.ensures (ap module_node c.replace-module.ensures.value) (sym c.types_in_module.ensures ∙ c.if-types_in_module.false) c.from_residual.result (search rules)

pub returns-in_err-visit_mut_module-clause-marks : goal.returns-in_err-visit_mut_module-clause-marks
returns-in_err-visit_mut_module-clause-marks g c =
    fresh_first (renaming_in g.R.Renamer.text g.R.Renamer.preserved g.R.Renamer.asked g.R.Renamer.MANGLE g.R.Renamer.RESET_N c.args.renamer.now c.args.renamer.now) c.args.unresolved c.args.top c.args.config c.resolver-resolver.result c.visit_mut_module.new.self c.args.globals.now c.visit_mut_module.new.globals (module_node c.replace-module.result) (module_node c.args.program.now)
    c.resolver-resolver.ensures (ap module_node c.replace-module.ensures.value) _ c.in_err-visit_mut_module.ensures.cause

pub returns-in_err-visit_mut_module-clause-no_target : goal.returns-in_err-visit_mut_module-clause-no_target
returns-in_err-visit_mut_module-clause-no_target g c =
    λ source ok. no_target_first (renaming_in g.R.Renamer.text g.R.Renamer.preserved g.R.Renamer.asked g.R.Renamer.MANGLE g.R.Renamer.RESET_N c.args.renamer.now c.args.renamer.now) c.args.unresolved c.args.top c.args.config c.resolver-resolver.result c.visit_mut_module.new.self c.args.globals.now c.visit_mut_module.new.globals (module_node c.replace-module.result) (module_node c.args.program.now)
    c.resolver-resolver.ensures (ap module_node c.replace-module.ensures.value) c.from_residual.result (search rules)

pub returns-clause-unasked : goal.returns-clause-unasked
returns-clause-unasked g c = λ some. absurd (cc (c.types_in_module.ensures, c.if-types_in_module.false, some))

pub returns-in_err-finish_typeless_module_by-clause-unasked : goal.returns-in_err-finish_typeless_module_by-clause-unasked
returns-in_err-finish_typeless_module_by-clause-unasked g c = λ some. absurd (cc (c.types_in_module.ensures, c.if-types_in_module.false, some))
