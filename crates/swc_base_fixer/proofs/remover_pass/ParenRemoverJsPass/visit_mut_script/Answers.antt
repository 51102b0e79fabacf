use Rattle.std.proofs.Common.{sym, ◌∙◌}
use Rattle.swc_tree_modules.specs.Nodes.{script_node}
use Rattle.swc_tree_spaces.specs.Spaces.{has_types}
use Rattle.swc_tree.proofs.Untyped.{declined_untyped, made_of_untyped}
use Rattle.swc_base_fixer.proofs.remover_pass.ParenRemoverJsPass.visit_mut_script.Goals as goal

pub returns-clause-done : goal.returns-clause-done
returns-clause-done g c =
    made_of_untyped (has_types (script_node c.args.program.now)) (sym c.types_in_script.ensures ∙ c.if-types_in_script.false) c.strip_script.result _ c.strip_script.ensures.done

pub returns-clause-cause : goal.returns-clause-cause
returns-clause-cause g c =
    declined_untyped (has_types (script_node c.args.program.now)) (sym c.types_in_script.ensures ∙ c.if-types_in_script.false) c.args.self.now.comments c.args.globals.now c.strip_script.new.self.comments c.strip_script.new.globals
    c.strip_script.result _ c.strip_script.ensures.cause
