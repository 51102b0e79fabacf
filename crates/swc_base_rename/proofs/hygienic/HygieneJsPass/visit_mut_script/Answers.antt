use Rattle.std.proofs.Common.{sym, ◌∙◌}
use Rattle.swc_tree_modules.specs.Nodes.{script_node}
use Rattle.swc_tree_spaces.specs.Spaces.{has_types}
use Rattle.swc_tree.proofs.Untyped.{declined_untyped, made_of_untyped}
use Rattle.swc_base_rename.proofs.hygienic.HygieneJsPass.visit_mut_script.Goals as goal

pub returns-clause-done : goal.returns-clause-done
returns-clause-done c =
    made_of_untyped (has_types (script_node c.args.program.now)) (sym c.types_in_script.ensures ∙ c.if-types_in_script.false) c.settle_script.result _ c.settle_script.ensures.done

pub returns-clause-cause : goal.returns-clause-cause
returns-clause-cause c =
    declined_untyped (has_types (script_node c.args.program.now)) (sym c.types_in_script.ensures ∙ c.if-types_in_script.false) c.args.self.now c.args.globals.now c.settle_script.new.self c.settle_script.new.globals
    c.settle_script.result _ c.settle_script.ensures.cause
