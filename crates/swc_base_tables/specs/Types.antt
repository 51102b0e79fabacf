-- Declarations of types in a program that is given its helpers, or in the bodies that go in.
use Rattle.std.specs.Prelude.{Bool, false, ◌&&◌, ◌||◌, not, Option, Some, None}
use Rattle.swc_tree_marks.specs.declared.error.PassError.{PassError}
use Rattle.swc_tree_marks.specs.Globals.{Table}
use Rattle.swc_tree_node.specs.declared.node.Node.{Node}
use Rattle.swc_tree_spaces.specs.Spaces.{has_types}
use Rattle.swc_tree.specs.Types.{IsDeclined, IsMade}
use Rattle.swc_base_tables_helpers.specs.Chosen.{Chosen}
use Rattle.swc_base_tables_program.specs.Given.{have_types}
use Rattle.swc_base_tables_program.specs.declared.bodies.Bodies.{Bodies}
use Rattle.swc_base_tables.specs.Visits.{InjectsNode, RefusesNode}
use Rattle.swc_base_tables.specs.declared.inject.InjectHelpers.{InjectHelpers}

-- types stand in a body that goes in: of a helper that is written out, as long as the bodies are there
abbrev pub brings_types : Chosen → Option Bodies → Bool
brings_types helpers None = false
brings_types helpers (Some bodies) = not helpers.external && have_types bodies helpers.enabled

-- ... or in the program
abbrev pub meets_types : InjectHelpers → Node → Bool
meets_types pass program = has_types program || brings_types pass.helpers pass.bodies

-- where none do, the program gets its helpers; where some do, they are to blame, and the pass keeps its bodies
abbrev pub InjectsProgram : InjectHelpers → Table → Node → InjectHelpers → Table → Node → Type 0
InjectsProgram pass old before kept new after = IsMade (meets_types pass before) (InjectsNode pass old before kept new after)

abbrev pub RefusesProgram : InjectHelpers → Table → Node → InjectHelpers → Table → PassError → Type 0
RefusesProgram pass old before kept new e = IsDeclined (meets_types pass before) pass old kept new e (RefusesNode pass old before kept new e)
