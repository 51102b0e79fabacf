-- What the resolver answers and what the table of marks gains.
use Rattle.std.specs.Prelude.{◌≡◌, ◌≢◌, ℕ, ◌⊎◌, Some, [], Contains}
use Rattle.swc_tree_marks.specs.declared.ident.Ident.{Ident}
use Rattle.swc_tree_marks.specs.declared.error.PassError.{PassError}
use Rattle.swc_tree_marks.specs.declared.error.PassError.TheVariants as error
use Rattle.swc_tree_marks.specs.Globals.{Table, numbers}
use Rattle.swc_tree_node.specs.declared.kind.Kind.{Kind}
use Rattle.swc_tree_scoping.specs.declared.places.Place.{Place}
use Rattle.swc_tree_node.specs.declared.node.Node.{Node, Identifier}
use Rattle.swc_tree_scoping.specs.Places.{Path, place_at, program_place}
use Rattle.swc_tree_scoping.specs.Resolved.{Contexts, remarked}

-- the table has the mark, which is not the root
abbrev pub IsMark : Table → ℕ → Type 0
IsMark table mark = (mark ≢ 0) × Contains (numbers table) mark

-- the unresolved mark and the top mark are marks of the table
abbrev pub MarksOk : Table → ℕ → ℕ → Type 0
MarksOk table unresolved top = IsMark table unresolved × IsMark table top

-- only contexts change, and those that are not empty stay
pub record OnlyContexts (tree answer : Node) : Type 0 where
  pub contexts : Contexts
  pub only_contexts : answer ≡ remarked contexts tree
  pub kept : (p : Path) (w : Place) (k : Kind) (i : Ident) → place_at program_place tree p ≡ Some (w, Identifier k i) → i.ctxt ≢ [] → contexts p ≡ i.ctxt

-- the resolver refuses for no memory or for no marks
abbrev pub IsRefusal : PassError → Type 0
IsRefusal e = (e ≡ error.NoMemory) ⊎ (e ≡ error.MarksSpent)
