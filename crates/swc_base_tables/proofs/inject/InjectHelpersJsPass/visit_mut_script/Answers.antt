use Rattle.std.proofs.Common.{sym, ◌∙◌}
use Rattle.swc_tree_modules.specs.Nodes.{script_node}
use Rattle.swc_tree_spaces.specs.Spaces.{has_types}
use Rattle.swc_tree.proofs.Untyped.{declined_untyped, made_of_untyped}
use Rattle.swc_base_tables.specs.Types.{brings_types, meets_types}
use Rattle.swc_base_tables.proofs.Kept.{first_false}
use Rattle.swc_base_tables.proofs.inject.InjectHelpersJsPass.visit_mut_script.Goals as goal

pub returns-clause-done : goal.returns-clause-done
returns-clause-done c =
    made_of_untyped (meets_types c.args.self.now (script_node c.args.program.now)) (sym c.meets_types_in_script.ensures ∙ c.if-meets_types_in_script.false) c.inject_in_script.result _ c.inject_in_script.ensures.done

pub returns-clause-cause : goal.returns-clause-cause
returns-clause-cause c =
    declined_untyped (meets_types c.args.self.now (script_node c.args.program.now)) (sym c.meets_types_in_script.ensures ∙ c.if-meets_types_in_script.false) c.args.self.now c.args.globals.now c.inject_in_script.new.self c.inject_in_script.new.globals
    c.inject_in_script.result _ c.inject_in_script.ensures.cause

pub returns-clause-well_scoped : goal.returns-clause-well_scoped
returns-clause-well_scoped c =
    c.inject_in_script.ensures.well_scoped (first_false (has_types (script_node c.args.program.now)) (brings_types c.args.self.now.helpers c.args.self.now.bodies) (sym c.meets_types_in_script.ensures ∙ c.if-meets_types_in_script.false))
