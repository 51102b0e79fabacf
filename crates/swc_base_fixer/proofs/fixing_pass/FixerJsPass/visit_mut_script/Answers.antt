use Rattle.std.proofs.Common.{sym, ◌∙◌}
use Rattle.swc_tree_modules.specs.Nodes.{script_node}
use Rattle.swc_tree_spaces.specs.Spaces.{has_types}
use Rattle.swc_tree.proofs.Untyped.{declined_untyped, made_of_untyped}
use Rattle.swc_base_fixer.proofs.fixing_pass.FixerJsPass.visit_mut_script.Goals as goal

pub returns-clause-done : goal.returns-clause-done
returns-clause-done g c =
    made_of_untyped (has_types (script_node c.args.program.now)) (sym c.types_in_script.ensures ∙ c.if-types_in_script.false) c.fix_script.result _ c.fix_script.ensures.done

pub returns-clause-cause : goal.returns-clause-cause
returns-clause-cause g c =
    declined_untyped (has_types (script_node c.args.program.now)) (sym c.types_in_script.ensures ∙ c.if-types_in_script.false) c.args.self.now.comments c.args.globals.now c.fix_script.new.self.comments c.fix_script.new.globals
    c.fix_script.result _ c.fix_script.ensures.cause
