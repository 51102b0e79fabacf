-- Members in the order that is kept for a kind are those that are put one after another, each at its place.
use Rattle.std.proofs.Common.{◌≡◌, ◌+◌, ◌<◌, ◌≤◌, ℕ, zero, suc, Some, None, List, [], ◌∷◌, length, get_or, Bool, true, false, ◌&&◌, ◌||◌, IsTrue, map, codes, Ordering, Less, Equal, Greater, nat_cmp, refl, sym, ap, ◌∙◌, subst, arith}
use Rattle.std.proofs.lemmas.List.{length-map}
use Rattle.std.proofs.lemmas.Option.{slice_get_read, slice_get_past, slice_get-get_or}
use Rattle.std.specs.List.{slice_get}
use Rattle.std.specs.Option.{unwrap_or, option_map}
use Rattle.std.specs.Ordering.{match_ordering}
use Rattle.std.specs.Cmp.Lexicographic.{slice_cmp}
use Rattle.json.specs.Json.{Json, string, Members, no_members, member}
use Rattle.swc_tree_node.specs.declared.kind.Kind.{Kind}
use Rattle.swc_tree_node.specs.declared.kind.Kind.TheVariants as kind
use Rattle.swc_tree_node.specs.declared.slot.Field.{Field}
use Rattle.swc_tree_node.specs.declared.slot.Slot.{Slot}
use Rattle.swc_tree_node.specs.declared.slot.Role.{Role}
use Rattle.swc_tree_node.specs.declared.node.Node.{Node}
use Rattle.swc_tree_node.specs.Table.{fields_of, name_of}
use Rattle.swc_tree_node.proofs.Fit.{and_both}
use Rattle.jsbase_form.specs.Known.{NumbersShort, numbers_short, all_keyed}
use Rattle.jsbase_form.specs.Writing.{json, put, typed, fields_put}
use Rattle.jsbase_form.proofs.Members.{split}
use Rattle.jsbase_writer.specs.Members.{greatest, height}
use Rattle.jsbase_writer.specs.Order.{order_of}
use Rattle.jsbase_writer.specs.Ordered.{key_at, value_at, members_at, ShortOr, ShortAt}
use Rattle.jsbase_writer.proofs.Places.{row}

-- ---- keys with numbers, put one after another as members are

abbrev Row : Type 0
Row = List ℕ × Slot × Role

abbrev place : List ℕ → ℕ → List (List ℕ × ℕ) → List (List ℕ × ℕ)
place k i [] = (k, i) ∷ []
place k i (p ∷ ps) = match_ordering (slice_cmp nat_cmp k p.0) ((k, i) ∷ p ∷ ps) ((p.0, i) ∷ ps) (p ∷ place k i ps)

abbrev placed : ℕ → List Row → List (List ℕ × ℕ) → List (List ℕ × ℕ)
placed i [] ps = ps
placed i (f ∷ fs) ps = placed (suc i) fs (place f.0 i ps)

abbrev filled : (ℕ → Json) → List (List ℕ × ℕ) → Members
filled v [] = no_members
filled v (p ∷ ps) = member p.0 (v p.1) (filled v ps)

match_filled : (v : ℕ → Json) (o : Ordering) (a b c : List (List ℕ × ℕ)) → filled v (match_ordering o a b c) ≡ match_ordering o (filled v a) (filled v b) (filled v c)
match_filled v Less a b c = refl
match_filled v Equal a b c = refl
match_filled v Greater a b c = refl

place_filled : (v : ℕ → Json) (k : List ℕ) (i : ℕ) (ps : List (List ℕ × ℕ)) → filled v (place k i ps) ≡ put k (v i) (filled v ps)
place_filled v k i [] = refl
place_filled v k i (p ∷ ps) =
    let o = slice_cmp nat_cmp k p.0 in
    match_filled v o ((k, i) ∷ p ∷ ps) ((p.0, i) ∷ ps) (p ∷ place k i ps)
    ∙ ap (λ ms. match_ordering o (member k (v i) (member p.0 (v p.1) (filled v ps))) (member p.0 (v i) (filled v ps)) (member p.0 (v p.1) ms)) (place_filled v k i ps)

placed_filled : (v : ℕ → Json) (j : ℕ) (fs : List Row) (ts : List Node) (ps : List (List ℕ × ℕ)) → length ts ≡ length fs → ((i : ℕ) (t : Node) → slice_get ts i ≡ Some t → v (j + i) ≡ json t)
    → filled v (placed j fs ps) ≡ fields_put fs (map json ts) (filled v ps)
placed_filled v j [] ts ps e h = refl
placed_filled v j (f ∷ fs) [] ps e h = absurd (omega (arith, e))
placed_filled v j (f ∷ fs) (t ∷ ts) ps e h =
    let here : v j ≡ json t = let same : j ≡ j + 0 = omega arith in ap v same ∙ h 0 t refl in
    placed_filled v (suc j) fs ts (place f.0 j ps) (omega (arith, e)) (λ i u g. let same : suc j + i ≡ j + suc i = omega arith in ap v same ∙ h (suc i) u g)
    ∙ ap (fields_put fs (map json ts)) (place_filled v f.0 j ps ∙ ap (λ d. put f.0 d (filled v ps)) here)

-- ---- the order of each kind

abbrev template : Kind → List (List ℕ × ℕ)
template k = placed 0 (fields_of k) ((codes "type", length (fields_of k)) ∷ [])

orders : (k : Kind) → template k ≡ map (λ i. (key_at k i, i)) (order_of k)
orders kind.Module = refl
orders _ = refl

filled_at : (k : Kind) (ts : List Node) (is : List ℕ) → filled (value_at k ts) (map (λ i. (key_at k i, i)) is) ≡ members_at k ts is
filled_at k ts [] = refl
filled_at k ts (i ∷ is) = ap (member (key_at k i) (value_at k ts i)) (filled_at k ts is)

past : (ts : List Node) → slice_get ts (length ts) ≡ None
past [] = refl
past (t ∷ ts) = past ts

pub in_order : (k : Kind) (ts : List Node) → length ts ≡ length (fields_of k) → members_at k ts (order_of k) ≡ fields_put (fields_of k) (map json ts) (typed k)
in_order k ts e =
    let v = value_at k ts in
    let named : v (length (fields_of k)) ≡ string (name_of k) = ap v (sym e) ∙ ap (λ o. unwrap_or (option_map json o) (string (name_of k))) (past ts) in
    sym (filled_at k ts (order_of k)) ∙ ap (filled v) (sym (orders k))
    ∙ placed_filled v 0 (fields_of k) ts ((codes "type", length (fields_of k)) ∷ []) e (λ i t g. let same : 0 + i ≡ i = omega arith in ap v same ∙ ap (λ o. unwrap_or (option_map json o) (string (name_of k))) g)
    ∙ ap (λ d. fields_put (fields_of k) (map json ts) (member (codes "type") d no_members)) named

-- ---- short numbers: each field has its number in the order

abbrev alike : ℕ → ℕ → Bool
alike zero zero = true
alike (suc i) (suc j) = alike i j
alike _ _ = false

abbrev among : ℕ → List ℕ → Bool
among i [] = false
among i (j ∷ js) = alike i j || among i js

abbrev all_below : ℕ → (ℕ → Bool) → Bool
all_below zero f = true
all_below (suc n) f = f 0 && all_below n (λ i. f (suc i))

covers : (k : Kind) → IsTrue (all_below (length (fields_of k)) (λ i. among i (order_of k)))
covers kind.Module = refl
covers _ = refl

number_below : (n i : ℕ) (f : ℕ → Bool) → i < n → IsTrue (all_below n f) → IsTrue (f i)
number_below zero i f l h = absurd (omega arith)
number_below (suc n) zero f l h = (split (f 0) (all_below n (λ i. f (suc i))) h).0
number_below (suc n) (suc i) f l h = number_below n i (λ i. f (suc i)) (omega arith) (split (f 0) (all_below n (λ i. f (suc i))) h).1

alike_same : (i j : ℕ) → alike i j ≡ true → i ≡ j
alike_same zero zero h = refl
alike_same zero (suc j) h = absurd (cc)
alike_same (suc i) zero h = absurd (cc)
alike_same (suc i) (suc j) h = ap suc (alike_same i j h)

short_among : (ts : List Node) (i : ℕ) (is : List ℕ) → ShortAt ts is → IsTrue (among i is) → ShortOr (slice_get ts i)
short_among ts i [] s h = absurd (cc)
short_among ts i (j ∷ is) s h = by (alike i j) refl (short_among ts i is s.1)
  where
    by : (b : Bool) → alike i j ≡ b → (IsTrue (among i is) → ShortOr (slice_get ts i)) → ShortOr (slice_get ts i)
    by true e rest = subst (λ i. ShortOr (slice_get ts i)) (sym (alike_same i j e)) s.0
    by false e rest = rest (ap (λ b. b || among i is) (sym e) ∙ h)

keyed : (fs : List Row) (ts : List Node) → ((i : ℕ) → i < length ts → ShortOr (slice_get ts i)) → IsTrue (all_keyed fs (map numbers_short ts))
keyed [] ts h = refl
keyed (f ∷ fs) [] h = refl
keyed (f ∷ fs) (t ∷ ts) h = and_both (numbers_short t) (all_keyed fs (map numbers_short ts)) (h 0 (omega arith)) (keyed fs ts (λ i l. h (suc i) (omega arith)))

pub all_short : (k : Kind) (ts : List Node) → length ts ≡ length (fields_of k) → ShortAt ts (order_of k) → IsTrue (all_keyed (fields_of k) (map numbers_short ts))
all_short k ts e s = keyed (fields_of k) ts (λ i l. short_among ts i (order_of k) s (number_below (length (fields_of k)) i (λ i. among i (order_of k)) (omega (arith, e)) (covers k)))

-- ---- heights

within : (ts : List Node) (i : ℕ) (t : Node) → slice_get ts i ≡ Some t → height t ≤ greatest (map height ts)
within [] i t h = absurd (cc)
within (u ∷ ts) zero t h = let same : u ≡ t = cc in let d = ap height same in omega arith
within (u ∷ ts) (suc i) t h = let rest = within ts i t h in omega arith

pub no_higher : (ts : List Node) (i : ℕ) (t : Node) → i < length ts → t ≡ get_or ts i t → height t ≤ greatest (map height ts)
no_higher ts i t l is = within ts i t (slice_get_read ts (length ts) i t refl l is)

-- ---- a member of a field, and the one past the last

field_mapped : (fs : List Field) (i : ℕ) (f : Field) → slice_get fs i ≡ Some f → slice_get (map row fs) i ≡ Some (row f)
field_mapped [] i f h = absurd (cc)
field_mapped (g ∷ fs) zero f h = let same : g ≡ f = cc in ap (λ f. Some (row f)) same
field_mapped (g ∷ fs) (suc i) f h = field_mapped fs i f h

pub as_many : (k : Kind) (fs : List Field) → map row fs ≡ fields_of k → length (fields_of k) ≡ length fs
as_many k fs e = ap length (sym e) ∙ length-map fs row

pub key_of_field : (k : Kind) (fs : List Field) (i : ℕ) (d : Field) → map row fs ≡ fields_of k → i < length fs → (get_or fs i d).key.now ≡ key_at k i
key_of_field k fs i d e l =
    sym (ap (λ fs. unwrap_or (option_map (λ f. f.0) (slice_get fs i)) (codes "type")) (sym e)
    ∙ ap (λ o. unwrap_or (option_map (λ f. f.0) o) (codes "type")) (field_mapped fs i (get_or fs i d) (slice_get-get_or fs i d l)))

pub value_of_field : (k : Kind) (ts : List Node) (i : ℕ) (t : Node) → i < length ts → t ≡ get_or ts i t → json t ≡ value_at k ts i
value_of_field k ts i t l is = sym (ap (λ o. unwrap_or (option_map json o) (string (name_of k))) (slice_get_read ts (length ts) i t refl l is))

pub key_past : (k : Kind) (ts : List Node) (i : ℕ) → length ts ≡ length (fields_of k) → length ts ≤ i → codes "type" ≡ key_at k i
key_past k ts i e l = sym (ap (λ o. unwrap_or (option_map (λ f. f.0) o) (codes "type")) (slice_get_past (fields_of k) i (omega (arith, e))))

pub value_past : (k : Kind) (ts : List Node) (i : ℕ) → length ts ≤ i → string (name_of k) ≡ value_at k ts i
value_past k ts i l = sym (ap (λ o. unwrap_or (option_map json o) (string (name_of k))) (slice_get_past ts i l))

pub short_of_field : (ts : List Node) (i : ℕ) (t : Node) → i < length ts → t ≡ get_or ts i t → NumbersShort t → ShortOr (slice_get ts i)
short_of_field ts i t l is short = subst ShortOr (sym (slice_get_read ts (length ts) i t refl l is)) short

pub short_past : (ts : List Node) (i : ℕ) → length ts ≤ i → ShortOr (slice_get ts i)
short_past ts i l = subst ShortOr (sym (slice_get_past ts i l)) tt
