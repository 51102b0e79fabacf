use Rattle.std.proofs.Common.{sym, ◌∙◌}
use Rattle.swc_tree_modules.specs.Nodes.{module_node}
use Rattle.swc_tree.proofs.Untyped.{declined_untyped, made_of_untyped}
use Rattle.swc_base_tables.specs.Types.{meets_types}
use Rattle.swc_base_tables.proofs.inject.InjectHelpersJsPass.visit_mut_module.Goals as goal

pub returns-clause-done : goal.returns-clause-done
returns-clause-done c =
    made_of_untyped (meets_types c.args.self.now (module_node c.args.program.now)) (sym c.meets_types.ensures ∙ c.if-meets_types.false) c.inject_in_module.result _ c.inject_in_module.ensures.done

pub returns-clause-cause : goal.returns-clause-cause
returns-clause-cause c =
    declined_untyped (meets_types c.args.self.now (module_node c.args.program.now)) (sym c.meets_types.ensures ∙ c.if-meets_types.false) c.args.self.now c.args.globals.now c.inject_in_module.new.self c.inject_in_module.new.globals
    c.inject_in_module.result _ c.inject_in_module.ensures.cause
