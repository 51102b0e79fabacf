use Rattle.std.proofs.Common.{sym, ◌∙◌}
use Rattle.swc_tree_modules.specs.Nodes.{module_node}
use Rattle.swc_tree_spaces.specs.Spaces.{has_types}
use Rattle.swc_tree.proofs.Untyped.{declined_untyped, made_of_untyped}
use Rattle.swc_base_fixer.proofs.fixing_pass.FixerJsPass.visit_mut_module.Goals as goal

pub returns-clause-done : goal.returns-clause-done
returns-clause-done g c =
    made_of_untyped (has_types (module_node c.args.program.now)) (sym c.types_in_module.ensures ∙ c.if-types_in_module.false) c.fix_module.result _ c.fix_module.ensures.done

pub returns-clause-cause : goal.returns-clause-cause
returns-clause-cause g c =
    declined_untyped (has_types (module_node c.args.program.now)) (sym c.types_in_module.ensures ∙ c.if-types_in_module.false) c.args.self.now.comments c.args.globals.now c.fix_module.new.self.comments c.fix_module.new.globals
    c.fix_module.result _ c.fix_module.ensures.cause
