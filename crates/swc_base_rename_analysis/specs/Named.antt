-- Which ids get new names, and which names.
use Rattle.std.specs.Prelude.{◌≡◌, ◌≢◌, ◌<◌, ◌^◌, ℕ, Bool, not, ◌||◌, IsTrue, Option, Some, List, codes}
use Rattle.swc_tree_node.specs.declared.node.Node.{Node}
use Rattle.swc_tree_scoping.specs.Places.{Path}
use Rattle.swc_tree_scoping.specs.BoundNames.{Id}
use Rattle.swc_base_rename_analysis.specs.Analysis.{Declares, IsAtOrAbove, OccursIn}
use Rattle.swc_base_rename_analysis.specs.Order.{IsBefore, Site}

-- what a renamer is to naming: the text of an id for a counter, its two flags, and the ids that it preserves
pub record Renaming : Type 0 where
  pub text : Id → ℕ → List ℕ
  pub mangles : Bool
  pub resets : Bool
  pub preserves : Id → Bool

-- within a scope the counter goes on from id to id
abbrev pub counts_on : Renaming → Bool
counts_on r = r.mangles || not r.resets

-- the id gets its name at the site, the first that declares it, unless it is preserved or of the text `eval`
pub record IsNamedAt (t : Node) (r : Renaming) (a : Site) (x : Id) : Type 0 where
  pub declared : Declares t a.0 a.1 x
  pub first : (b : Site) → Declares t b.0 b.1 x → ¬ IsBefore t b a
  pub not_preserved : ¬ IsTrue (r.preserves x)
  pub not_eval : x.0 ≢ codes "eval"

-- an id that gets its name before the site
pub record IsEarlier (t : Node) (r : Renaming) (a b : Site) (y : Id) : Type 0 where
  pub named : IsNamedAt t r b y
  pub before : IsBefore t b a

-- whether the names of a scope count at a scope: those of all scopes, or only of itself and of the scopes round it
abbrev pub Counting : Type 1
Counting = Path → Path → Type 0

abbrev pub all_count : Counting
all_count u s = Unit {0}

abbrev pub outer_count : Node → Counting
outer_count t u s = IsAtOrAbove t u s

-- a text may be taken at a site: it is not preserved, and no earlier id has it whose scope counts and that occurs at the
-- site's scope or below
pub record IsFreeText (t : Node) (r : Renaming) (preserved : List ℕ → Type 0) (counts : Counting) (taken : Id → ℕ) (a : Site) (text : List ℕ) : Type 0 where
  pub not_preserved : ¬ preserved text
  pub not_held : (b : Site) (y : Id) → IsEarlier t r a b y → counts b.0 a.0 → OccursIn t a.0 y → r.text y (taken y) ≢ text

-- the counter from which an id starts, or a later one: any, but behind those of the scope's earlier ids where the counter
-- goes on
abbrev pub IsFromStart : Node → Renaming → (Id → ℕ) → Site → ℕ → Type 0
IsFromStart t r taken a n = IsTrue (counts_on r) → (b : Site) (y : Id) → IsEarlier t r a b y → b.0 ≡ a.0 → taken y < n

-- the least counter from the start whose text is free; a counter is a `usize`
pub record IsLeast (t : Node) (r : Renaming) (preserved : List ℕ → Type 0) (counts : Counting) (taken : Id → ℕ) (a : Site) (x : Id) : Type 0 where
  pub within : taken x < 2 ^ 64
  pub from_start : IsFromStart t r taken a (taken x)
  pub free : IsFreeText t r preserved counts taken a (r.text x (taken x))
  pub least : (n : ℕ) → n < taken x → IsFromStart t r taken a n → ¬ IsFreeText t r preserved counts taken a (r.text x n)

-- the map gives each id that gets a name the text of the counter that it took, and has no other ids
pub record Named (t : Node) (r : Renaming) (preserved : List ℕ → Type 0) (counts : Counting) (new_texts : Id → Option (List ℕ)) : Type 0 where
  pub taken : Id → ℕ
  pub each : (a : Site) (x : Id) → IsNamedAt t r a x → IsLeast t r preserved counts taken a x × (new_texts x ≡ Some (r.text x (taken x)))
  pub no_other : (x : Id) (text : List ℕ) → new_texts x ≡ Some text → (a : Site) × IsNamedAt t r a x

-- the counters are spent at an id: those before it took theirs, and for it none from the start and below the bound gives a
-- free text
pub record IsSpent (t : Node) (r : Renaming) (preserved : List ℕ → Type 0) (counts : Counting) (bound : ℕ) : Type 0 where
  pub taken : Id → ℕ
  pub site : Site
  pub id : Id
  pub named : IsNamedAt t r site id
  pub earlier : (b : Site) (y : Id) → IsEarlier t r site b y → IsLeast t r preserved counts taken b y
  pub none_free : (n : ℕ) → n < bound → IsFromStart t r taken site n → ¬ IsFreeText t r preserved counts taken site (r.text id n)
