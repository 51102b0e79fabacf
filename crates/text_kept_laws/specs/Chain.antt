-- What a text asks of a program stays through the resolver, new names and the fixer.
use Rattle.std.specs.Prelude.{ℕ, Bool, IsTrue}
use Rattle.swc_tree_marks.specs.Globals.{Table}
use Rattle.swc_tree_node.specs.declared.node.Node.{Node}
use Rattle.swc_tree_node.specs.declared.slot.Slot.{Slot}
use Rattle.swc_tree_node.specs.Fits.{Fits}
use Rattle.swc_tree_scoping.specs.Resolved.{Resolved}
use Rattle.swc_tree_grammar.specs.Blocks.{with_blocks}
use Rattle.swc_tree_grammar.specs.Due.{Places}
use Rattle.swc_tree_grammar.specs.Fixed.{fixed}
use Rattle.swc_tree_grammar.specs.Places.{is_open}
use Rattle.swc_tree_grammar.specs.Stripped.{stripped}
use Rattle.swc_tree_grammar.specs.Targets.{all_bare}
use Rattle.swc_base_mangle.specs.Mangled.{IsMangled}
use Rattle.swc_base_rename_substitution.specs.declared.config.Config.{Config}
use Rattle.swc_base_rename_substitution.specs.Room.{has_room}
use Rattle.swc_base_rename_program.specs.Renamed.{IsHygienic}
use Rattle.text_grammar.specs.Shaped.{Shaped}
use Rattle.text_checks.specs.Spelled.{Spelled}

-- a tree that stands in its place, whose productions have their lengths, and whose leaves are tokens of their kinds
pub record HasTexts (s : Slot) (t : Node) : Type 0 where
  pub fits : Fits t s
  pub shaped : Shaped t
  pub spelled : Spelled t

-- a program still is such once it is resolved and has its names by hygiene; its place is that of a program,
-- or any other with room for what is written out
abbrev pub HygieneKeepsTexts : Type 0
HygieneKeepsTexts = (config : Config) (s : Slot) (unresolved top : ℕ) (old new : Table) (source resolved middle : Node) → IsTrue (has_room s)
    → Resolved unresolved top old new source resolved → IsHygienic new config resolved middle → HasTexts s source → HasTexts s middle

-- so is one with short names
abbrev pub ShortNamesKeepTexts : Type 0
ShortNamesKeepTexts = (config : Config) (keeps_top : Bool) (s : Slot) (unresolved top : ℕ) (old new : Table) (source resolved middle : Node) → IsTrue (has_room s)
    → Resolved unresolved top old new source resolved → IsMangled new config keeps_top resolved middle → HasTexts s source → HasTexts s middle

-- so is what the fixer makes of such a tree, where targets can stand bare, and the place takes pairs
abbrev pub FixerKeepsTexts : Type 0
FixerKeepsTexts = (place : Places) (t : Node) (s : Slot) → IsTrue (is_open s) → IsTrue (all_bare t) → HasTexts s t → HasTexts s (fixed place t)

-- ... and the tree without its pairs
abbrev pub UnparenKeepsTexts : Type 0
UnparenKeepsTexts = (t : Node) (s : Slot) → IsTrue (is_open s) → IsTrue (all_bare t) → HasTexts s t → HasTexts s (with_blocks (stripped t))

-- and what a chain makes of a program, with names by hygiene, or with short ones
abbrev pub ChainKeepsTexts : Type 0
ChainKeepsTexts = (config : Config) (place : Places) (s : Slot) (unresolved top : ℕ) (old new : Table) (source resolved middle : Node) → IsTrue (has_room s) → IsTrue (is_open s)
    → Resolved unresolved top old new source resolved → IsHygienic new config resolved middle → IsTrue (all_bare middle) → HasTexts s source → HasTexts s (fixed place middle)

abbrev pub ShortChainKeepsTexts : Type 0
ShortChainKeepsTexts = (config : Config) (keeps_top : Bool) (place : Places) (s : Slot) (unresolved top : ℕ) (old new : Table) (source resolved middle : Node) → IsTrue (has_room s) → IsTrue (is_open s)
    → Resolved unresolved top old new source resolved → IsMangled new config keeps_top resolved middle → IsTrue (all_bare middle) → HasTexts s source → HasTexts s (fixed place middle)
