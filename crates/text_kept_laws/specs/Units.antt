-- What a text asks of a tree stays where a renamer gives names, also where something reads names and units are named alone.
use Rattle.std.specs.Prelude.{IsTrue}
use Rattle.swc_tree_marks.specs.Globals.{Table}
use Rattle.swc_tree_node.specs.declared.node.Node.{Node}
use Rattle.swc_tree_node.specs.declared.slot.Slot.{Slot}
use Rattle.swc_tree_node.specs.Fits.{Fits}
use Rattle.swc_base_rename_substitution.specs.declared.config.Config.{Config}
use Rattle.swc_base_rename_substitution.specs.Room.{has_room}
use Rattle.swc_base_rename_analysis.specs.Named.{Renaming}
use Rattle.swc_base_rename_program.specs.Renamed.{IsHygienic, IsRenamedBy}
use Rattle.text_grammar.specs.Shaped.{Shaped}
use Rattle.text_checks.specs.Spelled.{Spelled}
use Rattle.text_kept_laws.specs.Namings.{GivesNewWords}

-- a tree that is shaped and spelled still is, in a place with room for what is written out, as programs have, where the new texts are names
abbrev pub AnyRenamingKeepsTexts : Type 0
AnyRenamingKeepsTexts = (r : Renaming) (table : Table) (config : Config) (before after : Node) (s : Slot) → IsTrue (has_room s) → GivesNewWords r before → Fits before s → IsRenamedBy table config r before after
    → Shaped before → Spelled before → Shaped after × Spelled after

-- so is what hygiene makes of it, where its identifiers are in UTF-8
abbrev pub AnyHygieneKeepsTexts : Type 0
AnyHygieneKeepsTexts = (table : Table) (config : Config) (before after : Node) (s : Slot) → IsTrue (has_room s) → Fits before s → IsHygienic table config before after
    → Shaped before → Spelled before → Shaped after × Spelled after
