-- Old names, each once.
use Rattle.std.specs.Borrow.{Bor}
use Rattle.std.specs.BTreeMap.{get_by}
use Rattle.std.specs.Cmp.Lexicographic.{slice_cmp}
use Rattle.std.specs.List.{list_any}
use Rattle.std.specs.Ordering.{nat_cmp}
use Rattle.std.specs.Prelude.{◌≡◌, ℕ, suc, List, [], ◌∷◌, ◌++◌, Option, Some, None, map, option_map, slice_get, if◌then◌else◌}
use Rattle.std.specs.Str.{bytes_eq}
use Rattle.mucwathi_mappings.specs.declared.names.Names.{Names}

abbrev pub text_of : Bor (List ℕ) → List ℕ
text_of t = t.now

abbrev pub without : List ℕ → List (List ℕ) → List (List ℕ)
without x [] = []
without x (y ∷ ys) = if bytes_eq x y then without x ys else y ∷ without x ys

-- each where it comes first, and not again
abbrev pub once : List (List ℕ) → List (List ℕ)
once [] = []
once (x ∷ xs) = x ∷ without x (once xs)

-- ---- as the code keeps them

abbrev pub texts_of : Names → List (List ℕ)
texts_of names = map text_of names.texts.items

abbrev pub number_in : Names → List ℕ → Option ℕ
number_in names t = get_by (λ k. slice_cmp nat_cmp t k.now) names.numbers

-- how many are before a text
abbrev pub number_of : List (List ℕ) → List ℕ → Option ℕ
number_of [] t = None
number_of (x ∷ xs) t = if bytes_eq t x then Some 0 else option_map suc (number_of xs t)

-- each name has the number of where it stands, and no other text has one
abbrev pub AreNumbered : Names → Type 0
AreNumbered names = (t : List ℕ) → number_in names t ≡ number_of (texts_of names) t

-- one more, unless it is there
abbrev pub added : List ℕ → List (List ℕ) → List (List ℕ)
added x xs = if list_any (bytes_eq x) xs then xs else xs ++ x ∷ []

-- a name has that number, and was added unless it was there
pub record GetsNumber (old new : Names) (name : List ℕ) (n : ℕ) : Type 0 where
  pub texts_are : texts_of new ≡ added name (texts_of old)
  pub numbered : AreNumbered new
  pub stands : slice_get (texts_of new) n ≡ Some name
