-- Which ids meet where hygiene and the fixer have been.
use Rattle.std.specs.Prelude.{◌≡◌, IsTrue, []}
use Rattle.swc_tree_node.specs.declared.slot.Slot.{Slot}
use Rattle.swc_tree_node.specs.declared.node.Node.{Node}
use Rattle.swc_tree_node.specs.Fits.{Fits}
use Rattle.swc_tree_renaming.specs.Apart.{is_goal}
use Rattle.swc_tree_grammar.specs.Due.{Places, with_due_pairs}
use Rattle.swc_tree_grammar.specs.Stripped.{stripped}
use Rattle.swc_tree_grammar.specs.Targets.{all_bare}
use Rattle.swc_tree_sites.specs.Smaller.{In}
use Rattle.swc_tree_scoping.specs.BoundNames.{Id}
use Rattle.swc_base_renaming_laws.specs.Meetings.{met}

-- a program with its due pairs has the same names, and the same ids meet in it
abbrev pub DuePairsKeepMeetings : Type 0
DuePairsKeepMeetings = (place : Places) (goal : Slot) (t : Node) → IsTrue (is_goal goal) → Fits t goal → met (with_due_pairs place t) ≡ met t

-- in a program that is stripped, of which each parenthesised target can stand bare, no more ids meet, where a scope takes each binding
abbrev pub StrippingAddsNoPairs : Type 0
StrippingAddsNoPairs = (goal : Slot) (t : Node) → IsTrue (is_goal goal) → Fits t goal → IsTrue (all_bare t) → (met t).pending ≡ [] → (z : Id × Id) → In z (met (stripped t)).pairs → In z (met t).pairs
