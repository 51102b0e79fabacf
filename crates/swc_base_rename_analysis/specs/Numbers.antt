-- What is known of each id that stands among some names: ids have numbers, in the order in which they are met first.
use Rattle.std.specs.Prelude.{◌≡◌, ℕ, zero, suc, Bool, false, not, ◌&&◌, ◌||◌, Option, Some, None, is_some, option_map, List, [], ◌∷◌, ◌++◌, map, slice_get, codes, if◌then◌else◌}
use Rattle.std.specs.Ordering.{nat_cmp, ordering_then}
use Rattle.std.specs.Cmp.Lexicographic.{slice_cmp}
use Rattle.std.specs.Str.{bytes_eq}
use Rattle.std.specs.BTreeMap.{get_by}
use Rattle.swc_tree_scoping.specs.Scopes.{is_binding, is_name}
pub use Rattle.swc_tree_scoping.specs.BoundNames.{same_id}
use Rattle.swc_tree_scoping.specs.BoundNames.{Id}
use Rattle.swc_base_rename_analysis.specs.declared.numbers.Entry.{Entry}
use Rattle.swc_base_rename_analysis.specs.declared.numbers.Entries.{Entries}
use Rattle.swc_base_rename_analysis.specs.Hashed.{hash_of}
use Rattle.swc_base_rename_analysis.specs.Walk.{Met}

-- the positions at which an id occurs, whether a name binds it, and whether it stands outside of export lists
pub record Known : Type 0 where
  pub id : Id
  pub positions : List ℕ
  pub is_bound : Bool
  pub stands_outside : Bool

-- as the code keeps it
abbrev pub known_of : Entry → Known
known_of e = record { id = e.id; positions = e.positions.items; is_bound = e.is_bound; stands_outside = e.stands_outside }

abbrev pub known_ids : Entries → List Known
known_ids es = map known_of es.entries.items

-- ids of the text `arguments` are passed over
abbrev pub is_analysed_text : List ℕ → Bool
is_analysed_text x = not (bytes_eq x (codes "arguments"))

abbrev pub is_analysed : Id → Bool
is_analysed x = is_analysed_text x.0

-- the number of an id
abbrev pub number_in : List Known → Id → Option ℕ
number_in [] x = None
number_in (e ∷ es) x = if same_id e.id x then Some 0 else option_map (λ n. suc n) (number_in es x)

-- an id that was not met
abbrev pub fresh : Id → Known
fresh x = record { id = x; positions = []; is_bound = false; stands_outside = false }

-- one id more, if it is not among them
abbrev pub with_id : List Known → Id → List Known
with_id es x = if is_some (number_in es x) then es else es ++ fresh x ∷ []

abbrev pub id_met : Met → Id
id_met m = (m.ident.sym, m.ident.ctxt)

-- the name of that position is met: it occurs there if it is a name, and is none of `arguments`
abbrev pub seen : ℕ → Met → Known → Known
seen k m e = record {
  id = e.id;
  positions = if is_name m.standing && is_analysed e.id then e.positions ++ k ∷ [] else e.positions;
  is_bound = e.is_bound || is_binding m.standing;
  stands_outside = e.stands_outside || not m.exported;
}

abbrev pub seen_in : ℕ → Met → List Known → List Known
seen_in k m [] = []
seen_in k m (e ∷ es) = if same_id e.id (id_met m) then seen k m e ∷ es else e ∷ seen_in k m es

abbrev pub with_met : ℕ → Met → List Known → List Known
with_met k m es = seen_in k m (with_id es (id_met m))

abbrev pub met_next : ℕ → Option Met → List Known → List Known
met_next k None es = es
met_next k (Some m) es = with_met k m es

-- what the first of some names make known
abbrev pub known_by : List Met → ℕ → List Known
known_by ms zero = []
known_by ms (suc n) = met_next n (slice_get ms n) (known_by ms n)

-- the table of numbers, as the code keeps it
abbrev pub number_of : Entries → Id → Option ℕ
number_of es x = get_by (λ k. ordering_then (nat_cmp (hash_of x) k.0) (ordering_then (slice_cmp nat_cmp x.0 k.1.0.now) (slice_cmp nat_cmp x.1 k.1.1.now))) es.numbers

abbrev pub IsTable : Entries → Type 0
IsTable es = (x : Id) → number_of es x ≡ number_in (known_ids es) x
