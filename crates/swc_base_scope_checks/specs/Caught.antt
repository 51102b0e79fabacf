-- Names that meet a catch parameter of their name on their way out of blocks.
use Rattle.std.specs.Prelude.{Bool, true, false, IsTrue, List, ℕ}
use Rattle.swc_tree_node.specs.declared.node.Node.{Node}
use Rattle.swc_tree_scoping.specs.declared.places.Standing.{Standing}
use Rattle.swc_tree_scoping.specs.declared.places.Standing.TheVariants as standing
use Rattle.swc_tree_scoping.specs.Places.{Path, program_place}
use Rattle.swc_tree_scoping.specs.Scopes.{rounds}
use Rattle.swc_tree_scoping.specs.Declares.{PassesNone}
use Rattle.swc_tree_scoping.specs.WellScoped.{NoCaughtVariable, Stands, is_catch_parameter}

-- what is asked about: variables, and if wanted plain functions in blocks of sloppy code
abbrev pub is_asked : (functions : Bool) → Standing → Bool
is_asked functions standing.Variable = true
is_asked functions standing.SloppyFunction = functions
is_asked functions _ = false

-- none of these passes a scope that takes its name in such a way, before the nearest function, static block or program
abbrev pub NonePasses : (asked ways : Standing → Bool) → Node → Type 0
NonePasses asked ways t = (p : Path) (r : Standing) (name : List ℕ) → IsTrue (asked r) → Stands t p r name → PassesNone ways t name (rounds program_place t p)

-- no plain function in a block of sloppy code meets a catch parameter of its name (B.3.2 lets it out of the block there, B.3.4 past a
-- catch parameter)
abbrev pub NoCaughtFunction : Node → Type 0
NoCaughtFunction t = (p : Path) (name : List ℕ) → Stands t p standing.SloppyFunction name → PassesNone is_catch_parameter t name (rounds program_place t p)

-- neither a variable does
abbrev pub NoCaughtName : Node → Type 0
NoCaughtName t = NoCaughtVariable t × NoCaughtFunction t
