-- The ids that were given a text, in a map and in those that it was made from.
use Rattle.std.specs.Prelude.{◌≡◌, ℕ, List, [], ◌∷◌, ◌++◌, String, Vec, if◌then◌else◌}
use Rattle.std.specs.Option.{option_map_or}
use Rattle.std.specs.BTreeMap.{BTreeMap, get_by_text}
use Rattle.std.specs.Str.{bytes_eq}
use Rattle.swc_base_rename_naming.specs.declared.reverse_map.IdsByText.{IdsByText}
use Rattle.swc_base_rename_naming.specs.declared.reverse_map.Parents.{Parents, fold-Parents}
use Rattle.swc_base_rename_naming.specs.declared.reverse_map.Parents.TheOpen.{Parents-F}
use Rattle.swc_base_rename_naming.specs.declared.reverse_map.ReverseMap.{ReverseMap}
use Rattle.swc_base_rename_naming.specs.declared.reverse_map.Iter.{Iter}

-- the ids that a table has for a text, in order
abbrev pub ids_in : {A Z : Type 0} → BTreeMap (String A) (Vec ℕ Z) → List ℕ → List ℕ
ids_in table x = option_map_or (λ ids. ids.items) (get_by_text table x) []

-- the ids that a text was given to, in the order in which it was
abbrev pub ids_held : IdsByText → List ℕ → List ℕ
ids_held table x = ids_in table.ids x

abbrev pub parents_step : Parents-F (List ℕ → List ℕ) → List ℕ → List ℕ
parents_step Parents-F.Nobody x = []
parents_step (Parents-F.Chain nearest parents) x = ids_held nearest.now x ++ parents.now x

-- those of the parents, the nearest first
abbrev pub parents_ids : Parents → List ℕ → List ℕ
parents_ids = fold-Parents (List ℕ → List ℕ) parents_step

-- the map's own
abbrev pub own_ids : ReverseMap → List ℕ → List ℕ
own_ids map x = ids_held map.own x

-- those of the map that it was made from
abbrev pub outer_ids : ReverseMap → List ℕ → List ℕ
outer_ids map x = parents_ids map.parents x

-- all of them, the map's own first
abbrev pub ids_of : ReverseMap → List ℕ → List ℕ
ids_of map x = own_ids map x ++ outer_ids map x

-- those that an iterator has left
abbrev pub ids_left : Iter → List ℕ
ids_left it = it.own.now ++ parents_ids it.parents it.text.now

-- the text is given to one id more, behind the others
abbrev pub IsGiven : List ℕ → ℕ → IdsByText → IdsByText → Type 0
IsGiven text id old new = (x : List ℕ) → ids_held new x ≡ (if bytes_eq text x then ids_held old x ++ id ∷ [] else ids_held old x)

-- each text has the ids that it had
abbrev pub IsAsBefore : IdsByText → IdsByText → Type 0
IsAsBefore old new = (x : List ℕ) → ids_held new x ≡ ids_held old x

-- the map itself has one id more, and what it was made from is the same
pub record IsPushed (text : List ℕ) (id : ℕ) (old new : ReverseMap) : Type 0 where
  pub own : (x : List ℕ) → own_ids new x ≡ (if bytes_eq text x then own_ids old x ++ id ∷ [] else own_ids old x)
  pub outer : (x : List ℕ) → outer_ids new x ≡ outer_ids old x

-- a map made from another has no ids of its own, and outside of it those of the other
pub record IsChild (parent child : ReverseMap) : Type 0 where
  pub own : (x : List ℕ) → own_ids child x ≡ []
  pub outer : (x : List ℕ) → outer_ids child x ≡ ids_of parent x
