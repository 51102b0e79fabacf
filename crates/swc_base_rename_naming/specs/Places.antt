-- Where the ids of one text stand.
use Rattle.std.specs.Prelude.{◌≡◌, ℕ, true, false, ◌&&◌, ◌||◌, Some, List}
use Rattle.std.specs.Ordering.{nat_cmp}
use Rattle.std.specs.BTreeMap.{get_by_text}
use Rattle.std.specs.BTreeSet.{BTreeSet, contains}
use Rattle.std.specs.List.{list_any}
use Rattle.std.specs.Str.{bytes_eq}
use Rattle.swc_base_rename_naming.specs.Chained.{ids_of}
use Rattle.swc_base_rename_naming.specs.Stretches.{is_at, is_within}
use Rattle.swc_base_rename_naming.specs.declared.leaked.Leaked.{Leaked}

-- where a text has places, these are the positions of its ids
abbrev pub AreMarked : (ℕ → List ℕ) → Leaked → Type 0
AreMarked positions leaked = (x : List ℕ) (places : BTreeSet ℕ) → get_by_text leaked.places x ≡ Some places → (p : ℕ) → contains nat_cmp places p ≡ list_any (is_at positions p) (ids_of leaked.holders x)

-- the same, where a text has one id more
abbrev pub AreMarkedAlso : (ℕ → List ℕ) → List ℕ → ℕ → Leaked → Leaked → Type 0
AreMarkedAlso positions text id was is = (x : List ℕ) (places : BTreeSet ℕ) → get_by_text is.places x ≡ Some places → (p : ℕ) → contains nat_cmp places p ≡ (list_any (is_at positions p) (ids_of was.holders x) || (bytes_eq text x && is_at positions p id))

-- one of some places is in a stretch
abbrev pub AnyWithin : BTreeSet ℕ → ℕ × ℕ → Type 0
AnyWithin places stretch = (p : ℕ) × (contains nat_cmp places p ≡ true) × (is_within stretch p ≡ true)

-- none is
abbrev pub NoneWithin : BTreeSet ℕ → ℕ × ℕ → Type 0
NoneWithin places stretch = (p : ℕ) → is_within stretch p ≡ true → contains nat_cmp places p ≡ false
