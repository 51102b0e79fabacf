-- How many texts are tried for an id before one is taken.
use Rattle.std.specs.Prelude.{◌≡◌, ℕ, ◌+◌, ◌≤◌, Bool, List, length, Contains}
use Rattle.swc_tree_marks.specs.Globals.{Table}
use Rattle.swc_tree_node.specs.declared.node.Node.{Node}
use Rattle.swc_tree_scoping.specs.BoundNames.{Id}
use Rattle.swc_tree_scoping.specs.Places.{Path}
use Rattle.swc_base_rename_analysis.specs.Named.{Counting, IsEarlier, IsFromStart, IsLeast, IsNamedAt, IsSpent, Renaming, all_count, outer_count}
use Rattle.swc_base_rename_analysis.specs.Order.{Site}
use Rattle.swc_base_rename_analysis.specs.Preserved.{IsPreserved}
use Rattle.swc_base_rename_naming.specs.Counters.{greatest}
use Rattle.swc_base_rename_units.specs.Units.{IsOutermost}
use Rattle.swc_base_rename_program.specs.Renamed.{IsPreservedByTop, IsPreservedInUnit, IsRenamedByUnits}

-- the renamer tells counters apart up to the last: at different ones an id has different texts. By a law of the trait
-- `NewTexts` each that enters by it does up to the greatest `usize`
abbrev pub TellsApart : Renaming → ℕ → Type 0
TellsApart r last = (x : Id) (m n : ℕ) → m ≤ last → n ≤ last → r.text x m ≡ r.text x n → m ≡ n

-- the list has each preserved text
abbrev pub HasPreserved : (List ℕ → Type 0) → List (List ℕ) → Type 0
HasPreserved preserved texts = (text : List ℕ) → preserved text → Contains texts text

-- the list has each id that gets its name before the site
abbrev pub HasEarlier : Node → Renaming → Site → List Id → Type 0
HasEarlier t r a ids = (b : Site) (y : Id) → IsEarlier t r a b y → Contains ids y

-- the counter that an id took is at most as far past its start as there are preserved texts and ids named before it, where
-- the renamer tells counters apart up to there
abbrev pub TakesFewTries : Node → Renaming → (List ℕ → Type 0) → (Id → ℕ) → Site → Id → Type 0
TakesFewTries t r preserved taken a x = (start : ℕ) (texts : List (List ℕ)) (ids : List Id) → IsFromStart t r taken a start → HasPreserved preserved texts → HasEarlier t r a ids
    → TellsApart r (start + length texts + length ids) → taken x ≤ start + length texts + length ids

-- so it is where that is the least counter from the start whose text is free
abbrev pub LeastTakesFewTries : Node → Renaming → (List ℕ → Type 0) → Counting → Type 0
LeastTakesFewTries t r preserved counts = (taken : Id → ℕ) (a : Site) (x : Id) → IsLeast t r preserved counts taken a x → TakesFewTries t r preserved taken a x

-- so it is on each tree, whether all names count, or only those of a scope and of the scopes round it
abbrev pub TriesAreFew : Type 0
TriesAreFew = (t : Node) (r : Renaming) → LeastTakesFewTries t r (IsPreserved t r.preserves) all_count × LeastTakesFewTries t r (IsPreserved t r.preserves) (outer_count t)

-- so it is for each id of a tree that gets a name
abbrev pub EachTakesFewTries : Node → Renaming → (List ℕ → Type 0) → (Id → ℕ) → Type 0
EachTakesFewTries t r preserved taken = (a : Site) (x : Id) → IsNamedAt t r a x → TakesFewTries t r preserved taken a x

-- and where something reads names, it is so for each id of the program that gets a name, and for each of an outermost unit
-- without such a reader
abbrev pub TriesByUnitsAreFew : Type 0
TriesByUnitsAreFew = (table : Table) (top : ℕ) (r : Renaming) (keeps : Bool) (before after : Node) (renamed : IsRenamedByUnits table top r keeps before after)
    → EachTakesFewTries before renamed.kept (IsPreservedByTop top before r.preserves) renamed.named.taken
    × ((p : Path) (u : Node) (o : IsOutermost before p u) → EachTakesFewTries u r (IsPreservedInUnit top before r.preserves u) (renamed.units.units p u o).2.named.taken)

-- where the counters are spent at an id, there are as many preserved texts and ids named before it as there are counters from
-- its start on
abbrev pub IsCrowded : (t : Node) (r : Renaming) (preserved : List ℕ → Type 0) (counts : Counting) → IsSpent t r preserved counts greatest → Type 0
IsCrowded t r preserved counts s = (start : ℕ) (texts : List (List ℕ)) (ids : List Id) → start ≤ greatest → IsFromStart t r s.taken s.site start → HasPreserved preserved texts
    → HasEarlier t r s.site ids → TellsApart r greatest → greatest ≤ start + length texts + length ids

abbrev pub SpentAreCrowded : Type 0
SpentAreCrowded = (t : Node) (r : Renaming) → ((s : IsSpent t r (IsPreserved t r.preserves) all_count greatest) → IsCrowded t r (IsPreserved t r.preserves) all_count s)
    × ((s : IsSpent t r (IsPreserved t r.preserves) (outer_count t) greatest) → IsCrowded t r (IsPreserved t r.preserves) (outer_count t) s)
