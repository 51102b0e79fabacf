-- What is asked of leaves and of names stays where names are given anew, and the new ones are names.
use Rattle.std.specs.Prelude.{◌≡◌, ℕ, Bool, false, IsTrue, List, Some}
use Rattle.swc_tree_node.specs.declared.node.Node.{Node}
use Rattle.swc_tree_node.specs.declared.slot.Slot.{Slot}
use Rattle.swc_tree_node.specs.Fits.{Fits}
use Rattle.swc_base_rename_substitution.specs.Names.{Id}
use Rattle.swc_base_rename_substitution.specs.Identifiers.{Changes}
use Rattle.swc_base_rename_substitution.specs.Substituted.{Substituted}
use Rattle.text_words.specs.Words.{is_name, is_reserved}
use Rattle.text_checks.specs.Spelled.{Spelled}

-- a name that may be bound and referred to: no escape is in it, and it is no reserved word
abbrev pub IsWord : List ℕ → Type 0
IsWord text = IsTrue (is_name text) × (is_reserved text ≡ false)

-- each new text is one
abbrev pub GivesWords : Changes → Type 0
GivesWords m = (x y : Id) → m x ≡ Some y → IsWord y.0

-- a tree that fits its place and is spelled still is with such names
abbrev pub NewNamesKeepSpelling : Type 0
NewNamesKeepSpelling = (m : Changes) (keeps : Bool) (t answer : Node) (s : Slot) → GivesWords m → Fits t s → Substituted m keeps t answer → Spelled t → Spelled answer
