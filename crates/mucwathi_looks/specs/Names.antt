-- The free names of a text.
use Rattle.std.specs.Borrow.{Bor}
use Rattle.std.specs.BTreeSet.{BTreeSet, contains_by}
use Rattle.std.specs.Cmp.Lexicographic.{slice_cmp}
use Rattle.std.specs.Ordering.{nat_cmp}
use Rattle.std.specs.Prelude.{◌≡◌, ◌⊎◌, ◌↔◌, ◌-◌, ℕ, Bool, false, IsTrue, ◌==◌, ◌&&◌, List, [], ◌∷◌, ◌++◌, Contains, map, string_bytes}
use Rattle.swc_tree_marks.specs.declared.ident.Ident.{Ident}
use Rattle.swc_tree_marks.specs.Globals.{Table}
use Rattle.swc_tree_node.specs.declared.node.Node.{Node}
use Rattle.swc_tree_scoping.specs.declared.places.Standing.{Standing}
use Rattle.swc_tree_scoping.specs.Places.{program_place}
use Rattle.swc_tree_scoping.specs.Scopes.{is_reference}
use Rattle.swc_tree_spaces.specs.Spaces.{ResolvedBy}
use Rattle.swc_tree_walk.specs.Sites.{StandsIn, sites}
use Rattle.text_parser.specs.declared.programs.Goal.{Goal}
use Rattle.text_source.specs.Texts.{IsTextOf}
use Rattle.mucwathi_passes.specs.Passes.{own_table}
use Rattle.mucwathi_lists.specs.declared.lists.FreeName.{FreeName}

abbrev pub name_text : FreeName → List ℕ
name_text n = string_bytes n.text

-- a text is free in a program that was resolved: it is that of a reference whose context is the mark of names that nothing declares
abbrev pub IsFree : Node → List ℕ → Type 0
IsFree t x = (r : Standing) × (i : Ident) × StandsIn program_place t r i × IsTrue (is_reference r) × (i.ctxt ≡ 1 ∷ []) × (i.sym ≡ x)

-- ---- among identifiers

abbrev pub Seen : Type 0
Seen = Standing × Ident

abbrev pub is_only : ℕ → List ℕ → Bool
is_only mark (m ∷ []) = m == mark
is_only mark _ = false

abbrev pub is_marked : ℕ → Seen → Bool
is_marked mark s = is_reference s.0 && is_only mark s.1.ctxt

abbrev pub is_free : Seen → Bool
is_free = is_marked 1

-- a text is that of one that is free
abbrev pub IsFreeAmong : List Seen → List ℕ → Type 0
IsFreeAmong ss x = (s : Seen) × Contains ss s × IsTrue (is_free s) × (s.1.sym ≡ x)

-- a name stands where its text is free first
pub record IsFirstUse (ss : List Seen) (n : FreeName) : Type 0 where
  pub before : List Seen
  pub it : Seen
  pub after : List Seen
  pub whole : ss ≡ before ++ it ∷ after
  pub free : IsTrue (is_free it)
  pub named : it.1.sym ≡ name_text n
  pub placed : n.at ≡ it.1.span.lo - 1
  pub none_before : ¬ IsFreeAmong before (name_text n)

-- no text is one before it
abbrev pub EachOnce : List (List ℕ) → Type 0
EachOnce [] = Unit {0}
EachOnce (x ∷ xs) = ¬ Contains xs x × EachOnce xs

-- the names are those that are free, each once, where it is free first
pub record AreNamesOf (ss : List Seen) (names : List FreeName) : Type 0 where
  pub sound : (x : List ℕ) → Contains (map name_text names) x → IsFreeAmong ss x
  pub complete : (x : List ℕ) → IsFreeAmong ss x → Contains (map name_text names) x
  pub once : EachOnce (map name_text names)
  pub first : (n : FreeName) → Contains names n → IsFirstUse ss n

-- ---- of a program

-- the names are those that are free in the program once it is resolved, each once, where it stands first
pub record HasNamesOf (source : Node) (names : List FreeName) : Type 0 where
  pub table : Table
  pub resolved : Node
  pub is_resolved : ResolvedBy 1 2 own_table table source resolved
  pub sound : (x : List ℕ) → Contains (map name_text names) x → IsFree resolved x
  pub complete : (x : List ℕ) → IsFree resolved x → Contains (map name_text names) x
  pub once : EachOnce (map name_text names)
  pub first : (n : FreeName) → Contains names n → IsFirstUse (sites program_place resolved) n

-- the names are those that are free in the program of a text
pub record HasFreeNames (goal : Goal) (text : List ℕ) (names : List FreeName) : Type 0 where
  pub source : Node
  pub read : IsTextOf goal source text
  pub names_of : HasNamesOf source names

-- ---- one after another

-- texts as the code keeps them
abbrev pub Texts : Type 0
Texts = BTreeSet (Bor (List ℕ))

abbrev pub has_text : Texts → List ℕ → Bool
has_text texts name = contains_by (λ k. slice_cmp nat_cmp name k.now) texts

-- a name of the identifier's text and place is added, unless the text was seen
abbrev pub AddsName : Seen → Texts → List FreeName → List FreeName → Type 0
AddsName s seen old new =
    (IsTrue (has_text seen s.1.sym) × (new ≡ old)) ⊎ ((has_text seen s.1.sym ≡ false) × (n : FreeName) × (name_text n ≡ s.1.sym) × (n.at ≡ s.1.span.lo - 1) × (new ≡ old ++ n ∷ []))

-- just those texts are seen that were, and this
abbrev pub AddsText : List ℕ → Texts → Texts → Type 0
AddsText x old new = (y : List ℕ) → IsTrue (has_text new y) ↔ (IsTrue (has_text old y) ⊎ (y ≡ x))

-- one that is free is added so, and for one that is not nothing changes
abbrev pub Notes : Seen → Texts → Texts → List FreeName → List FreeName → Type 0
Notes s seen others old new =
    (IsTrue (is_free s) × AddsName s seen old new × AddsText s.1.sym seen others) ⊎ ((is_free s ≡ false) × (others ≡ seen) × (new ≡ old))
