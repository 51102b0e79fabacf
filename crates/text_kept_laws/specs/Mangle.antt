-- What a text asks of a tree stays where a program gets short names, also where something reads names.
use Rattle.std.specs.Prelude.{ℕ, Bool, IsTrue}
use Rattle.swc_tree_marks.specs.Globals.{Table}
use Rattle.swc_tree_node.specs.declared.node.Node.{Node}
use Rattle.swc_tree_node.specs.declared.slot.Slot.{Slot}
use Rattle.swc_tree_node.specs.Fits.{Fits}
use Rattle.swc_base_rename_by_use.specs.declared.by_use.TextsByUse.{TextsByUse}
use Rattle.swc_base_rename_substitution.specs.declared.config.Config.{Config}
use Rattle.swc_base_rename_substitution.specs.Room.{has_room}
use Rattle.swc_base_mangle.specs.Mangled.{IsMangled, mangling}
use Rattle.text_grammar.specs.Shaped.{Shaped}
use Rattle.text_checks.specs.Spelled.{Spelled}
use Rattle.text_kept_laws.specs.Namings.{GivesNewWords}

-- each short text is a name that is no reserved word
abbrev pub ShortTextsAreWords : Type 0
ShortTextsAreWords = (texts : TextsByUse) (keeps_top : Bool) (top : ℕ) (t : Node) → GivesNewWords (mangling texts keeps_top top t) t

-- a tree that is shaped and spelled still is with short names, in a place with room for what is written out, as programs have
abbrev pub ManglingKeepsTexts : Type 0
ManglingKeepsTexts = (table : Table) (config : Config) (keeps_top : Bool) (before after : Node) (s : Slot) → IsTrue (has_room s) → Fits before s → IsMangled table config keeps_top before after
    → Shaped before → Spelled before → Shaped after × Spelled after
