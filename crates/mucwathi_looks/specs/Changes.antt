-- Names that a command gives anew.
use Rattle.std.specs.Prelude.{◌≡◌, ℕ, List, map}
use Rattle.swc_tree_marks.specs.declared.error.PassError.TheVariants as refusal
use Rattle.swc_tree_marks.specs.declared.ident.Ident.{Ident}
use Rattle.swc_tree_node.specs.declared.node.Node.{Node}
use Rattle.swc_tree_scoping.specs.declared.places.Standing.{Standing}
use Rattle.swc_tree_scoping.specs.Places.{program_place}
use Rattle.swc_tree_walk.specs.Sites.{sites}
use Rattle.text_source.specs.Texts.{SpansAreOf}
use Rattle.mucwathi_order.specs.declared.fault.RunFault.{RunFault}
use Rattle.mucwathi_order.specs.declared.fault.RunFault.TheVariants.{Refused}
use Rattle.mucwathi_commands.specs.Lower.mucwathi_order.specs.declared.order.Order.{Order}
use Rattle.mucwathi_passes.specs.Passes.{Makes}
use Rattle.mucwathi_commands.specs.Written.{IsReadAs}
use Rattle.mucwathi_lists.specs.declared.changes.Change.{Change}
use Rattle.mucwathi_lists.specs.Changed.{Placed, Renamed, all_changed, told}

-- where an identifier stands, and its text
abbrev pub seen_of : Standing × Ident → Placed
seen_of s = (s.1.span.lo, s.1.sym)

-- the identifiers of a program that have another text than what stood at their places in another
abbrev pub changes_between : Node → Node → List Renamed
changes_between source answer = all_changed (map seen_of (sites program_place source)) (map seen_of (sites program_place answer))

-- what was read is the text of a program, whose names stand in it where their spans say, and these are told of what the command makes of it
pub record HasChanges (order : Order) (text : List ℕ) (changes : List Change) : Type 0 where
  pub source : Node
  pub answer : Node
  pub read : IsReadAs order.goal source text
  pub stands : SpansAreOf order.goal source text
  pub made : Makes order.command order.settings source answer
  pub are : map told changes ≡ changes_between source answer

abbrev pub IsWantOfMemory : RunFault → Type 0
IsWantOfMemory f = f ≡ Refused refusal.NoMemory
