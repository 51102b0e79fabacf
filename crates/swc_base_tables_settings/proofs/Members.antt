-- The members that are written, and what is read of them.
use Rattle.std.proofs.Common.{◌≡◌, ℕ, ◌<◌, ◌≤◌, ◌-◌, ◌&&◌, ◌||◌, ◌↔◌, inl, inr, Contains, bytes_eq, zero, suc, List, [], ◌∷◌, Bool, true, false, Some, None, Ok, Ordering, Less, Equal, Greater, drop, length, map, get_or, refl, sym, ◌∙◌, ap, arith}
use Rattle.std.specs.Cmp.Lexicographic.{slice_cmp}
use Rattle.std.specs.List.{list_all, list_any}
use Rattle.std.specs.Ordering.{is_lt, nat_cmp, ordering_reverse}
use Rattle.std.proofs.lemmas.Bool.{and_parts, or_cases}
use Rattle.std.proofs.lemmas.Cmp.{tied_itself, nat_list_cmp_total}
use Rattle.std.proofs.lemmas.Slice.Eq.{bytes_eq-Decides}
use Rattle.serde_json.specs.Data.{member, boolean, object, put}
use Rattle.serde_json.specs.Find.{get_member}
use Rattle.swc_base_tables_settings.specs.Assumptions.{keys, members_with, is_key, first_fault, flag_in, read}

-- each key is less than all that come after it
abbrev pub is_above : List ℕ → List ℕ → Bool
is_above key later = is_lt (slice_cmp nat_cmp key later)

abbrev pub are_ordered : List (List ℕ) → Bool
are_ordered [] = true
are_ordered (key ∷ rest) = list_all (is_above key) rest && are_ordered rest

less_from : (o : Ordering) → is_lt o ≡ true → o ≡ Less
less_from Less is = refl
less_from Equal is = cc
less_from Greater is = cc

list_all-at : (test : List ℕ → Bool) (ks : List (List ℕ)) (i : ℕ) (d : List ℕ) → list_all test ks ≡ true → i < length ks → test (get_or ks i d) ≡ true
list_all-at test [] i d all within = absurd (omega arith)
list_all-at test (k ∷ ks) zero d all within = (and_parts (test k) (list_all test ks) all).0
list_all-at test (k ∷ ks) (suc i) d all within = list_all-at test ks i d (and_parts (test k) (list_all test ks) all).1 (omega arith)

-- a key that is less than the others goes first
put_first : (key : List ℕ) (flag : Bool) (ks : List (List ℕ)) (fs : List Bool) → list_all (is_above key) ks ≡ true → put key (boolean flag) (members_with ks fs) ≡ member key (boolean flag) (members_with ks fs)
put_first key flag [] fs above = refl
put_first key flag (k ∷ ks) [] above = refl
put_first key flag (k ∷ ks) (f ∷ fs) above =
    let less : slice_cmp nat_cmp key k ≡ Less = less_from _ (and_parts (is_above key k) (list_all (is_above key) ks) above).0 in
    rw less refl

pub put_at : (ks : List (List ℕ)) (fs : List Bool) (i : ℕ) (d : List ℕ) (e : Bool) → are_ordered ks ≡ true → i < length ks → i < length fs → put (get_or ks i d) (boolean (get_or fs i e)) (members_with (drop (suc i) ks) (drop (suc i) fs)) ≡ members_with (drop i ks) (drop i fs)
put_at [] fs i d e ordered within there = absurd (omega arith)
put_at (k ∷ ks) [] i d e ordered within there = absurd (omega arith)
put_at (k ∷ ks) (f ∷ fs) zero d e ordered within there = put_first k f ks fs (and_parts (list_all (is_above k) ks) (are_ordered ks) ordered).0
put_at (k ∷ ks) (f ∷ fs) (suc i) d e ordered within there = put_at ks fs i d e (and_parts (list_all (is_above k) ks) (are_ordered ks) ordered).1 (omega arith) (omega arith)

-- the value of a key among those that are written
found_at : (ks : List (List ℕ)) (fs : List Bool) (i : ℕ) (d : List ℕ) (e : Bool) → are_ordered ks ≡ true → i < length ks → i < length fs → get_member (get_or ks i d) (members_with ks fs) ≡ Some (boolean (get_or fs i e))
found_at [] fs i d e ordered within there = absurd (omega arith)
found_at (k ∷ ks) [] i d e ordered within there = absurd (omega arith)
found_at (k ∷ ks) (f ∷ fs) zero d e ordered within there = let same : slice_cmp nat_cmp k k ≡ Equal = tied_itself nat_list_cmp_total k in rw same refl
found_at (k ∷ ks) (f ∷ fs) (suc i) d e ordered within there =
    let (above, rest) = and_parts (list_all (is_above k) ks) (are_ordered ks) ordered in
    let less : slice_cmp nat_cmp k (get_or ks i d) ≡ Less = less_from _ (list_all-at (is_above k) ks i d above (omega arith)) in
    let greater : slice_cmp nat_cmp (get_or ks i d) k ≡ Greater = nat_list_cmp_total.antisymm (get_or ks i d) k ∙ ap ordering_reverse less in
    rw greater (found_at ks fs i d e rest (omega arith) (omega arith))

map_is : (f : List ℕ → Bool) (ks : List (List ℕ)) (fs : List Bool) → length ks ≡ length fs → ((i : ℕ) → i < length ks → f (get_or ks i []) ≡ get_or fs i false) → map f ks ≡ fs
map_is f [] [] same each = refl
map_is f [] (b ∷ fs) same each = absurd (omega arith)
map_is f (k ∷ ks) [] same each = absurd (omega arith)
map_is f (k ∷ ks) (b ∷ fs) same each =
    let first : f k ≡ b = each 0 (omega arith) in
    let rest : map f ks ≡ fs = map_is f ks fs (omega arith) (λ i within. each (suc i) (omega arith)) in
    rw (first, rest) refl

none_wrong : (ks : List (List ℕ)) (fs : List Bool) → list_all is_key ks ≡ true → first_fault (members_with ks fs) ≡ None
none_wrong [] fs known = refl
none_wrong (k ∷ ks) [] known = refl
none_wrong (k ∷ ks) (f ∷ fs) known =
    let (here, later) = and_parts (is_key k) (list_all is_key ks) known in
    rw here (none_wrong ks fs later)

pub keys_ordered : are_ordered keys ≡ true
unfolding keys
keys_ordered = refl

pub keys_length : length keys ≡ 23
unfolding keys
keys_length = refl

keys_known : list_all is_key keys ≡ true
unfolding keys
keys_known = refl

-- what is written of 23 flags is read as these
pub read_written : (fs : List Bool) → length fs ≡ 23 → read (object (members_with keys fs)) ≡ Ok fs
read_written fs many =
    let none : first_fault (members_with keys fs) ≡ None = none_wrong keys fs keys_known in
    let each : (i : ℕ) → i < length keys → flag_in (object (members_with keys fs)) (get_or keys i []) ≡ get_or fs i false =
    λ i within. let there : i < length fs = omega (arith, keys_length) in rw (found_at keys fs i [] false keys_ordered within there) refl in
    let same : map (flag_in (object (members_with keys fs))) keys ≡ fs = map_is (flag_in (object (members_with keys fs))) keys fs (keys_length ∙ sym many) each in
    rw (none, same) refl

or_true : (b : Bool) → (b || true) ≡ true
or_true true = refl
or_true false = refl

-- the keys are told by a test
key_among : (ks : List (List ℕ)) (key : List ℕ) → list_any (λ known. bytes_eq known key) ks ≡ true → Contains ks key
key_among [] key is = cc
key_among (k ∷ ks) key is = elim (or_cases (bytes_eq k key) (list_any (λ known. bytes_eq known key) ks) is) [
  | inl here ↦ (0, omega arith, (bytes_eq-Decides k key).0 here)
  | inr later ↦ let (i, within, there) = key_among ks key later in (suc i, omega arith, there)
]

among_key : (ks : List (List ℕ)) (key : List ℕ) → Contains ks key → list_any (λ known. bytes_eq known key) ks ≡ true
among_key [] key (i, within, is) = absurd (omega arith)
among_key (k ∷ ks) key (zero, within, is) = rw ((bytes_eq-Decides k key).1 is) refl
among_key (k ∷ ks) key (suc i, within, is) = rw (among_key ks key (i, omega arith, is)) (or_true (bytes_eq k key))

same_test : (a b : Bool) → (a ≡ true → b ≡ true) → (b ≡ true → a ≡ true) → a ≡ b
same_test true true first second = refl
same_test true false first second = sym (first refl)
same_test false true first second = second refl
same_test false false first second = refl

pub is_key_from : (key : List ℕ) (found : Bool) → (found ≡ true) ↔ Contains keys key → found ≡ is_key key
is_key_from key found among = same_test found (is_key key) (λ is. among_key keys key (among.0 is)) (λ is. among.1 (key_among keys key is))

-- a member more, at the place before
pub put_before : (place : ℕ) (fs : List Bool) → 0 < place → place ≤ 23 → length fs ≡ 23 → put (get_or keys (place - 1) []) (boolean (get_or fs (place - 1) false)) (members_with (drop place keys) (drop place fs)) ≡ members_with (drop (place - 1) keys) (drop (place - 1) fs)
put_before zero fs some within many = absurd (omega arith)
put_before (suc place) fs some within many =
    let before : suc place - 1 ≡ place = omega arith in
    rw before (put_at keys fs place [] false keys_ordered (omega (arith, keys_length)) (omega arith))
