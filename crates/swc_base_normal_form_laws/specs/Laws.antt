-- What a tree's normal form keeps.
use Rattle.std.specs.Prelude.{◌≡◌, false, IsTrue, Some}
use Rattle.swc_tree_node.specs.declared.slot.Slot.{Slot}
use Rattle.swc_tree_node.specs.declared.node.Node.{Node}
use Rattle.swc_tree_node.specs.Fits.{Fits}
use Rattle.swc_tree_scoping.specs.declared.places.Scope.TheVariants as scope
use Rattle.swc_tree_scoping.specs.Places.{opened, program_place}
use Rattle.swc_tree_scoping.specs.WellScoped.{IsClean}
use Rattle.swc_tree_spaces.specs.Spaces.{has_types}
use Rattle.swc_tree_renaming.specs.Apart.{is_goal}
use Rattle.swc_tree_grammar.specs.Normal.{normal_form}

-- no context comes in
abbrev pub NormalFormIsClean : Type 0
NormalFormIsClean = (t : Node) → IsClean t → IsClean (normal_form t)

-- nor do types
abbrev pub NormalFormAddsNoTypes : Type 0
NormalFormAddsNoTypes = (t : Node) → has_types t ≡ false → has_types (normal_form t) ≡ false

-- that of a module or a script opens the scope of a program
abbrev pub NormalFormIsProgram : Type 0
NormalFormIsProgram = (goal : Slot) (t : Node) → IsTrue (is_goal goal) → Fits t goal → opened program_place (normal_form t) ≡ Some scope.Program
