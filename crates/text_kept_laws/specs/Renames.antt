-- What a text asks of a tree stays where names are given anew.
use Rattle.std.specs.Prelude.{Bool}
use Rattle.swc_tree_node.specs.declared.node.Node.{Node}
use Rattle.swc_tree_node.specs.declared.slot.Slot.{Slot}
use Rattle.swc_tree_node.specs.Fits.{Fits}
use Rattle.swc_base_rename_substitution.specs.Identifiers.{Changes}
use Rattle.swc_base_rename_substitution.specs.Substituted.{Substituted}
use Rattle.text_grammar.specs.Shaped.{Shaped}

-- a tree that fits its place and is shaped still is with names that are given anew
abbrev pub NewNamesKeepShape : Type 0
NewNamesKeepShape = (m : Changes) (keeps : Bool) (t answer : Node) (s : Slot) → Fits t s → Substituted m keeps t answer → Shaped t → Shaped answer
