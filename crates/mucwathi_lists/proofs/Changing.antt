-- One identifier more.
use Rattle.std.proofs.Common.{◌≡◌, ℕ, ◌+◌, ◌<◌, ◌≤◌, true, false, cond, List, [], ◌∷◌, ◌++◌, Some, None, Option, Bor, map, take, length, get_or, nat_eq, refl, sym, ap, ◌∙◌, subst, arith}
use Rattle.std.proofs.lemmas.Bool.Decides.{nat_tests}
use Rattle.std.proofs.lemmas.List.{map-append, take_all, take_more}
use Rattle.std.specs.BTreeMap.{BTreeMap, Updates, get, is_at}
use Rattle.std.specs.Map.{lookup}
use Rattle.std.specs.Option.{option_map}
use Rattle.std.specs.Ordering.{is_eq, nat_cmp}
use Rattle.mucwathi_lists.specs.declared.changes.Occurrence.{Occurrence}
use Rattle.mucwathi_lists.specs.Changed.{HasTexts, Placed, or_else, seen, text_at}

-- in the place of an identifier that is not there
abbrev pub no_occurrence : Occurrence
no_occurrence = record { lo = 0; text = record { ref_ptr = (0, 0); now = [] } }

same_number : (a b : ℕ) → is_eq (nat_cmp a b) ≡ nat_eq a b
same_number a b = grind (arith, nat_tests)

text_at_push : (ss : List Placed) (s : Placed) (place : ℕ) → text_at (ss ++ s ∷ []) place ≡ cond (nat_eq s.0 place) (Some s.1) (text_at ss place)
text_at_push [] s place = refl
text_at_push (x ∷ ss) s place =
    let r : Option (List ℕ) = cond (nat_eq x.0 place) (Some x.1) None in
    ap (λ o. or_else o r) (text_at_push ss s place)
    ∙ elim (nat_eq s.0 place) as (λ b. or_else (cond b (Some s.1) (text_at ss place)) r ≡ cond b (Some s.1) (or_else (text_at ss place) r)) [ true ↦ refl | false ↦ refl ]

-- a text that was inserted is found at its place, and others where they were
pub texts_push : (ss : List Placed) (lo : ℕ) (text : Bor (List ℕ)) (old new : BTreeMap ℕ (Bor (List ℕ))) → HasTexts ss old → Updates nat_cmp old new lo (Some text) → HasTexts (ss ++ (lo, text.now) ∷ []) new
texts_push ss lo text old new h updates place =
    ap (option_map (λ (t : Bor (List ℕ)). t.now)) (updates.0 place)
    ∙ elim (is_eq (nat_cmp lo place)) as (λ b. option_map (λ (t : Bor (List ℕ)). t.now) (cond b (Some text) (get nat_cmp old place)) ≡ cond b (Some text.now) (text_at ss place)) [ true ↦ refl | false ↦ h place ]
    ∙ ap (λ b. cond b (Some text.now) (text_at ss place)) (same_number lo place)
    ∙ sym (text_at_push ss (lo, text.now) place)

pub texts_none : (texts : BTreeMap ℕ (Bor (List ℕ))) → texts.entries ≡ [] → HasTexts [] texts
texts_none texts empty place = ap (λ es. option_map (λ (t : Bor (List ℕ)). t.now) (lookup (is_at (nat_cmp place)) es)) empty

pub texts_step : (olds : List Occurrence) (i : ℕ) (d o : Occurrence) (old new : BTreeMap ℕ (Bor (List ℕ))) → i < length olds → o ≡ get_or olds i d → HasTexts (map seen (take i olds)) old → Updates nat_cmp old new o.lo (Some o.text)
    → HasTexts (map seen (take (i + 1) olds)) new
texts_step olds i d o old new below is h updates =
    let more : map seen (take (i + 1) olds) ≡ map seen (take i olds) ++ seen o ∷ [] =
    ap (map seen) (take_more olds i d below) ∙ map-append seen (take i olds) (get_or olds i d ∷ []) ∙ ap (λ (x : Occurrence). map seen (take i olds) ++ seen x ∷ []) (sym is) in
    subst (λ ss. HasTexts ss new) (sym more) (texts_push (map seen (take i olds)) o.lo o.text old new h updates)

pub texts_end : (olds : List Occurrence) (i : ℕ) (texts : BTreeMap ℕ (Bor (List ℕ))) → length olds ≤ i → HasTexts (map seen (take i olds)) texts → HasTexts (map seen olds) texts
texts_end olds i texts ended h = subst (λ l. HasTexts (map seen l) texts) (take_all i olds ended) h
