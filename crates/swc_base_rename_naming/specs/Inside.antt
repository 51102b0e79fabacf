-- Names that count only in the scope in which they were given, and in those in it; those of scopes that leak count everywhere.
use Rattle.std.specs.Prelude.{◌≡◌, ℕ, ◌<◌, ◌≤◌, ◌⊎◌, Bool, true, false, not, ◌&&◌, List, ◌++◌, length, get_or, take}
use Rattle.std.specs.List.{AllByRecursion}
use Rattle.swc_tree_marks.specs.declared.error.PassError.{PassError}
use Rattle.swc_base_rename_naming.specs.InOrder.{Choice, IsRefused, Site}
use Rattle.swc_base_rename_naming.specs.Steps.{Holds, Maps, Naming, Stands, counts_with, rules}
use Rattle.swc_base_rename_naming.specs.declared.reverse_map.ReverseMap.{ReverseMap}
use Rattle.swc_base_rename_naming.specs.declared.in_order.GivenTexts.{GivenTexts}

-- the scope of a site
abbrev pub scope_at : List Site → ℕ → ℕ
scope_at sites i = (get_or sites i (0, 0)).0

-- between two sites, the first of whose scopes is that of the second or lies round it, stand only such sites
abbrev pub IsInPreorder : (ℕ → ℕ → Bool) → List Site → Type 0
IsInPreorder surrounds sites = (i j k : ℕ) → i ≤ j → j ≤ k → k < length sites → surrounds (scope_at sites i) (scope_at sites k) ≡ true → surrounds (scope_at sites i) (scope_at sites j) ≡ true

-- the scope of a choice lies round none of the sites from one on
abbrev pub IsOver : (ℕ → ℕ → Bool) → List Site → ℕ → Choice → Type 0
IsOver surrounds sites at c = (j : ℕ) → at ≤ j → j < length sites → surrounds c.0.0 (scope_at sites j) ≡ false

-- it lies round a scope, or is over
abbrev pub IsSettled : (ℕ → ℕ → Bool) → List Site → ℕ → ℕ → Choice → Type 0
IsSettled surrounds sites at s c = (surrounds c.0.0 s ≡ true) ⊎ IsOver surrounds sites at c

-- it does not leak, and lies round a scope
abbrev pub is_round : (ℕ → Bool) → (ℕ → ℕ → Bool) → ℕ → ℕ → Bool
is_round leaks surrounds s u = not (leaks u) && surrounds u s

-- what stands where a scope begins
pub record MayBegin (n : Naming) (leaks : ℕ → Bool) (surrounds : ℕ → ℕ → Bool) (sites : List Site) (at : ℕ) (choices : List Choice) (names : GivenTexts) (maps : Maps) : Type 0 where
  pub stands : Stands n (take at sites) choices names
  pub holders : Holds n (is_round leaks surrounds (scope_at sites at)) choices maps.0
  pub leaked : Holds n leaks choices maps.1
  pub settled : AllByRecursion (IsSettled surrounds sites at (scope_at sites at)) choices

-- what stands where it ends: the choices since are of scopes in it, and it does not lie round the next site
pub record IsScopeDone (n : Naming) (leaks : ℕ → Bool) (surrounds : ℕ → ℕ → Bool) (sites : List Site) (from to : ℕ) (choices : List Choice) (is : GivenTexts) (leaked_is : ReverseMap) : Type 0 where
  pub more : List Choice
  pub stands : Stands n (take to sites) (choices ++ more) is
  pub leaked : Holds n leaks (choices ++ more) leaked_is
  pub inside : AllByRecursion (λ c. surrounds (scope_at sites from) c.0.0 ≡ true) more
  pub ended : to < length sites → surrounds (scope_at sites from) (scope_at sites to) ≡ false

-- the sites of a scope, and of those in it, are done
pub record IsScopeNamed (naming : (ℕ → ℕ → Bool) → Naming) (leaks : ℕ → Bool) (surrounds : ℕ → ℕ → Bool) (sites : List Site) (from : ℕ) (was is : GivenTexts) (maps : Maps) (leaked_is : ReverseMap) (to : ℕ) : Type 0 where
  pub further : from < to
  pub fits : to ≤ length sites
  pub done : (choices : List Choice) → MayBegin (naming (counts_with leaks surrounds)) leaks surrounds sites from choices was maps → IsScopeDone (naming (counts_with leaks surrounds)) leaks surrounds sites from to choices is leaked_is

abbrev pub IsScopeRefused : ((ℕ → ℕ → Bool) → Naming) → (ℕ → Bool) → (ℕ → ℕ → Bool) → List Site → ℕ → GivenTexts → Maps → PassError → Type 0
IsScopeRefused naming leaks surrounds sites from was maps e = (choices : List Choice) → MayBegin (naming (counts_with leaks surrounds)) leaks surrounds sites from choices was maps → IsRefused (rules (naming (counts_with leaks surrounds))) sites e
