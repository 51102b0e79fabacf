-- What a text is read as is a program.
use Rattle.std.proofs.Common.{◌≡◌, IsTrue, Some, refl}
use Rattle.swc_tree_node.specs.declared.node.Node.{Node}
use Rattle.swc_tree_node.specs.declared.slot.Content.TheVariants as content
use Rattle.swc_tree_node.specs.declared.slot.Slot.TheVariants as slot
use Rattle.swc_tree_node.specs.Fits.{Fits}
use Rattle.swc_tree_renaming.specs.Apart.{is_goal}
use Rattle.swc_tree_scoping.specs.declared.places.Scope.TheVariants as scope
use Rattle.swc_tree_scoping.specs.Places.{opened, program_place}
use Rattle.swc_tree_scoping.proofs.Program.{module_opens, script_opens}
use Rattle.text_parser.specs.declared.programs.Goal.{Goal}
use Rattle.text_parser.specs.declared.programs.Goal.TheVariants as goal
use Rattle.text_source.specs.Texts.{class_of}

pub is_program : (g : Goal) → IsTrue (is_goal (slot.One (content.Node (class_of g))))
is_program goal.Module = refl
is_program goal.Script = refl

-- a program opens its scope
pub opens : (g : Goal) (t : Node) → Fits t (slot.One (content.Node (class_of g))) → opened program_place t ≡ Some scope.Program
opens goal.Module t h = module_opens t h
opens goal.Script t h = script_opens t h
