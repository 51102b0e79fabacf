-- Variables by number, and new names by place, as the code keeps them.
use Rattle.std.specs.Borrow.{Bor}
use Rattle.std.specs.BTreeMap.{BTreeMap, btree_map_len, get}
use Rattle.std.specs.Cmp.Lexicographic.{slice_cmp}
use Rattle.std.specs.Option.{option_map}
use Rattle.std.specs.declared.cmp.Ordering.{Ordering}
use Rattle.std.specs.Ordering.{nat_cmp, ordering_then}
use Rattle.std.specs.Prelude.{◌≡◌, ◌<◌, ℕ, Contains, List, [], ◌∷◌, Option, Some, None, IsSome, unwrap_or}
use Rattle.mucwathi_lists.specs.declared.changes.Change.{Change}
use Rattle.mucwathi_looks.specs.Coloured.{Variable, new_at}

-- a variable as the code has it
abbrev pub Key : Type 0
Key = ℕ × Bor (List ℕ)

abbrev pub variable_in : Key → Variable
variable_in k = (k.0, k.1.now)

abbrev pub variables_in : Option Key → List Variable
variables_in None = []
variables_in (Some k) = variable_in k ∷ []

abbrev pub key_of : Variable → Key
key_of v = (v.0, record { ref_ptr = (0, 0); now = v.1 })

abbrev pub key_cmp : Key → Key → Ordering
key_cmp k l = ordering_then (nat_cmp k.0 l.0) (slice_cmp nat_cmp k.1.now l.1.now)

abbrev pub Numbers : Type 0
Numbers = BTreeMap Key ℕ

-- the number of a variable
abbrev pub number_in : Numbers → Variable → ℕ
number_in numbers v = unwrap_or (get key_cmp numbers (key_of v)) 0

-- no two have one number, and each is below how many there are
pub record AreApart (numbers : Numbers) : Type 0 where
  pub apart : (k l : Key) (n : ℕ) → get key_cmp numbers k ≡ Some n → get key_cmp numbers l ≡ Some n → variable_in k ≡ variable_in l
  pub below : (k : Key) (n : ℕ) → get key_cmp numbers k ≡ Some n → n < btree_map_len numbers

-- those that have a number keep it
abbrev pub Keeps : Numbers → Numbers → Type 0
Keeps old new = (k : Key) (n : ℕ) → get key_cmp old k ≡ Some n → get key_cmp new k ≡ Some n

abbrev pub Knows : Numbers → Key → Type 0
Knows numbers k = IsSome (get key_cmp numbers (key_of (variable_in k)))

abbrev pub KnowsAll : Numbers → List Variable → Type 0
KnowsAll numbers vs = (v : Variable) → Contains vs v → IsSome (get key_cmp numbers (key_of v))

-- each of some variables has a number, no two the same
pub record AreNumbered (vs : List Variable) (numbers : Numbers) : Type 0 where
  pub apart : AreApart numbers
  pub known : KnowsAll numbers vs

-- what the name at a place is called anew
abbrev pub News : Type 0
News = BTreeMap ℕ (Bor (List ℕ))

abbrev pub new_in : News → ℕ → Option (List ℕ)
new_in news place = option_map (λ name. name.now) (get nat_cmp news place)

abbrev pub HasNews : List Change → News → Type 0
HasNews changes news = (place : ℕ) → new_in news place ≡ new_at changes place
