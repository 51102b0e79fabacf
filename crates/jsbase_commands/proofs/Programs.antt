-- A tree of the class of a program is a program.
use Rattle.std.proofs.Common.{◌≡◌, Some}
use Rattle.swc_tree_node.specs.declared.node.Node.{Node}
use Rattle.swc_tree_node.specs.declared.slot.Content.TheVariants as content
use Rattle.swc_tree_node.specs.declared.slot.Slot.TheVariants as slot
use Rattle.swc_tree_node.specs.Fits.{Fits}
use Rattle.swc_tree_scoping.specs.declared.places.Scope.TheVariants as scope
use Rattle.swc_tree_scoping.specs.Places.{opened, program_place}
use Rattle.jsbase_programs.specs.declared.programs.Goal.TheVariants as read
use Rattle.jsbase_programs.proofs.Whole as whole
use Rattle.jsbase_commands.specs.declared.arguments.Kind.{Kind as Goal}
use Rattle.jsbase_commands.specs.declared.arguments.Kind.TheVariants as goal
use Rattle.jsbase_commands.specs.Run.{class_of}

pub is_program : (k : Goal) (t : Node) → Fits t (slot.One (content.Node (class_of k))) → opened program_place t ≡ Some scope.Program
is_program goal.Module t h = whole.is_program read.Module t h
is_program goal.Script t h = whole.is_program read.Script t h
