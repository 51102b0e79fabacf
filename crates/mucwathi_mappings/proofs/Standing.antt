-- The last node of each place.
use Rattle.std.proofs.Common.{◌≡◌, ℕ, ◌+◌, ◌<◌, ◌≤◌, true, false, cond, List, [], ◌∷◌, ◌++◌, Option, Some, None, get_or, length, take, nat_eq, refl, sym, ap, ◌∙◌, subst, arith}
use Rattle.std.proofs.lemmas.Bool.Decides.{nat_tests}
use Rattle.std.proofs.lemmas.List.{take_all, take_more}
use Rattle.std.specs.BTreeMap.{BTreeMap, Updates, is_at}
use Rattle.std.specs.Map.{lookup}
use Rattle.std.specs.Ordering.{is_eq, nat_cmp}
use Rattle.mucwathi_mappings.specs.declared.nodes.Mapped.{Mapped}
use Rattle.mucwathi_mappings.specs.Nodes.{HasLast, last_at, or_else}

-- in the place of what is not there
abbrev pub no_node : Mapped
no_node = record { read = 0; written = 0; old = None }

same_number : (a b : ℕ) → is_eq (nat_cmp a b) ≡ nat_eq a b
same_number a b = grind (arith, nat_tests)

last_push : (ss : List Mapped) (s : Mapped) (place : ℕ) → last_at (ss ++ s ∷ []) place ≡ cond (nat_eq s.written place) (Some s) (last_at ss place)
last_push [] s place = refl
last_push (x ∷ ss) s place =
    let r : Option Mapped = cond (nat_eq x.written place) (Some x) None in
    ap (λ o. or_else o r) (last_push ss s place)
    ∙ elim (nat_eq s.written place) as (λ b. or_else (cond b (Some s) (last_at ss place)) r ≡ cond b (Some s) (or_else (last_at ss place) r)) [ true ↦ refl | false ↦ refl ]

places_push : (ss : List Mapped) (s : Mapped) (old new : BTreeMap ℕ Mapped) → HasLast ss old → Updates nat_cmp old new s.written (Some s) → HasLast (ss ++ s ∷ []) new
places_push ss s old new h updates place =
    updates.0 place
    ∙ ap (λ o. cond (is_eq (nat_cmp s.written place)) (Some s) o) (h place)
    ∙ ap (λ b. cond b (Some s) (last_at ss place)) (same_number s.written place)
    ∙ sym (last_push ss s place)

pub places_none : (places : BTreeMap ℕ Mapped) → places.entries ≡ [] → HasLast [] places
places_none places empty place = ap (lookup (is_at (nat_cmp place))) empty

pub places_step : (ss : List Mapped) (i : ℕ) (d s : Mapped) (old new : BTreeMap ℕ Mapped) → i < length ss → s ≡ get_or ss i d → HasLast (take i ss) old → Updates nat_cmp old new s.written (Some s) → HasLast (take (i + 1) ss) new
places_step ss i d s old new below is h updates =
    subst (λ l. HasLast l new) (ap (λ (x : Mapped). take i ss ++ x ∷ []) is ∙ sym (take_more ss i d below)) (places_push (take i ss) s old new h updates)

pub places_all : (ss : List Mapped) (i : ℕ) (places : BTreeMap ℕ Mapped) → length ss ≤ i → HasLast (take i ss) places → HasLast ss places
places_all ss i places ended h = subst (λ l. HasLast l places) (take_all i ss ended) h
