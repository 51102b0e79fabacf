-- Each choice stands at the index of a site at which its id gets its name, and each such site has one.
use Rattle.std.proofs.Common.{◌≡◌, ℕ, zero, suc, ◌<◌, ◌==◌, inl, inr, Bool, true, false, not, ◌||◌, Option, Some, None, List, [], ◌∷◌, ◌++◌, Contains, map, take, refl, sym, ap, eq-eqb, ◌∙◌, subst, arith, append_assoc, nat_cmp, Ordering, Less, Equal, Greater}
use Rattle.std.specs.Prelude.{if◌then◌else◌}
use Rattle.std.specs.Cmp.{ranks}
use Rattle.std.specs.List.{list_any, slice_get}
use Rattle.std.specs.Ordering.{MatchOrdering}
use Rattle.std.proofs.lemmas.Bool.{or_parts}
use Rattle.std.proofs.lemmas.List.{append-nil, map-append}
use Rattle.std.proofs.lemmas.List.Elements.{Contains-append_left, Contains-push}
use Rattle.swc_base_rename_naming.specs.InOrder.{AreChosen, Choice, IsChosen, Rules, Site, is_named, named_sites}
use Rattle.swc_base_rename_naming_laws.proofs.Lists.{any_at, mapped_from, no_room, split_last, split_there, take_next, take_past, taken_at}

-- one behind those before, where the test says so
abbrev one_if : {A : Type 0} → Bool → A → List A
one_if b a = if b then a ∷ [] else []

pick : {A : Type 0} (b : Bool) (a : A) (xs ys more : List A) → xs ≡ ys ++ more → (if b then a ∷ xs else xs) ≡ (if b then a ∷ ys else ys) ++ more
pick true a xs ys more h = ap (λ l. a ∷ l) h
pick false a xs ys more h = h

named_append : (r : Rules) (before done : List Site) (a : Site) → named_sites r before (done ++ a ∷ []) ≡ named_sites r before done ++ one_if (is_named r (before ++ done) a) a
named_append r before [] a = ap (λ l. one_if (is_named r l a) a) (sym (append-nil before))
named_append r before (b ∷ done) a = pick (is_named r before b) b _ _ _ (named_append r (before ++ b ∷ []) done a ∙ ap (λ l. named_sites r (before ++ b ∷ []) done ++ one_if (is_named r l a) a) (append_assoc before (b ∷ []) done))

-- at the index stands a site at which its id gets its name
pub record NamedAt (r : Rules) (sites : List Site) (i : ℕ) (z : Site) : Type 0 where
  pub stands : slice_get sites i ≡ Some z
  pub named : is_named r (take i sites) z ≡ true

not_so : (b : Bool) → not b ≡ true → b ≡ false
not_so true h = absurd (cc)
not_so false h = refl

pub named_stays : (r : Rules) (before : List Site) (z : Site) → is_named r before z ≡ true → r.stays z.1 ≡ false
named_stays r before z h = (or_parts _ _ (not_so _ h)).0

pub named_first : (r : Rules) (before : List Site) (z : Site) → is_named r before z ≡ true → list_any (λ b. b.1 == z.1) before ≡ false
named_first r before z h = (or_parts _ _ (not_so _ h)).1

pub named_by : (r : Rules) (before : List Site) (z : Site) → r.stays z.1 ≡ false → list_any (λ b. b.1 == z.1) before ≡ false → is_named r before z ≡ true
named_by r before z e f = ap (λ c. not (c || list_any (λ b. b.1 == z.1) before)) e ∙ ap not f

pub true_is_false : {X : Type 0} → true ≡ false → X
true_is_false h = absurd (cc)

module _ (r : Rules) (sites : List Site) where
  -- the sites before an index at which ids get their names
  abbrev named_before : ℕ → List Site
  named_before i = named_sites r [] (take i sites)

  named_next : (i : ℕ) (z : Site) → slice_get sites i ≡ Some z → named_before (suc i) ≡ named_before i ++ one_if (is_named r (take i sites) z) z
  named_next i z e = ap (named_sites r []) (take_next sites i z e) ∙ named_append r [] (take i sites) z

  named_past : (i : ℕ) → slice_get sites i ≡ None → named_before (suc i) ≡ named_before i
  named_past i e = ap (named_sites r []) (take_past sites i e)

  named_none : named_before zero ≡ []
  named_none = refl

  abbrev Found : ℕ → List Site → Site → Type 0
  Found i xs z = (j : ℕ) × (j < i) × NamedAt r sites j z × (xs ≡ named_before j)

  later : (i : ℕ) (xs : List Site) (z : Site) → Found i xs z → Found (suc i) xs z
  later i xs z (j, l, n, e) = (j, omega (arith, l), n, e)

  -- each of them stands at an index
  pub named_from : (i : ℕ) (xs : List Site) (z : Site) (ys : List Site) → named_before i ≡ xs ++ z ∷ ys → Found i xs z
  named_from zero xs z ys e = absurd (no_room xs z ys e)
  named_from (suc i) xs z ys e = at (λ f. later i xs z (named_from i xs z ys f)) (λ zs f. later i xs z (named_from i xs z zs f)) (slice_get sites i) refl
    where
      at : (named_before i ≡ xs ++ z ∷ ys → Found (suc i) xs z) → ((zs : List Site) → named_before i ≡ xs ++ z ∷ zs → Found (suc i) xs z) → (o : Option Site) → slice_get sites i ≡ o → Found (suc i) xs z
      at more others None f = more (sym (named_past i f) ∙ e)
      at more others (Some w) f = by (is_named r (take i sites) w) refl
        where
          by : (b : Bool) → is_named r (take i sites) w ≡ b → Found (suc i) xs z
          by true n = elim (split_last (named_before i) w xs z ys (sym (named_next i w f ∙ ap (λ b. named_before i ++ one_if b w) n) ∙ e)) [
            | inl h ↦ (i, omega arith, record { stands = f ∙ ap Some (sym h.1); named = ap (is_named r (take i sites)) h.1 ∙ n }, h.0)
            | inr h ↦ others h.0 h.1
          ]
          by false n = more (sym (named_next i w f ∙ ap (λ b. named_before i ++ one_if b w) n ∙ append-nil (named_before i)) ∙ e)

  -- and each that stands at an index is one of them
  pub named_there : (i j : ℕ) (z : Site) → j < i → NamedAt r sites j z → Contains (named_before i) z
  named_there zero j z l n = absurd (omega (arith, l))
  named_there (suc i) j z l n = at (λ m. named_there i j z m n) (nat_cmp j i) (ranks j i)
    where
      kept : Contains (named_before i) z → (o : Option Site) → slice_get sites i ≡ o → Contains (named_before (suc i)) z
      kept c None f = subst (λ l. Contains l z) (sym (named_past i f)) c
      kept c (Some w) f = subst (λ l. Contains l z) (sym (named_next i w f)) (Contains-append_left _ _ z c)

      at : (j < i → Contains (named_before i) z) → (o : Ordering) → MatchOrdering o (j < i) (j ≡ i) (i < j) → Contains (named_before (suc i)) z
      at more Less m = kept (more m) (slice_get sites i) refl
      at more Equal e = subst (λ l. Contains l z) (sym (named_next i z (ap (slice_get sites) (sym e) ∙ n.stands) ∙ ap (λ b. named_before i ++ one_if b z) (ap (λ k. is_named r (take k sites) z) (sym e) ∙ n.named))) (Contains-push (named_before i) z)
      at more Greater m = absurd (omega (arith, l, m))

  -- an id gets its name at one index
  not_again : (i j : ℕ) (z w : Site) → i < j → NamedAt r sites i z → NamedAt r sites j w → z.1 ≡ w.1 → ⊥
  not_again i j z w l m n e = true_is_false (sym (any_at (λ b. b.1 == w.1) (take j sites) i z (taken_at sites j i z l m.stands) (eq-eqb z.1 w.1 e)) ∙ named_first r (take j sites) w n.named)

  pub one_index : (i j : ℕ) (z w : Site) → NamedAt r sites i z → NamedAt r sites j w → z.1 ≡ w.1 → i ≡ j
  one_index i j z w m n e = by (nat_cmp i j) (ranks i j)
    where
      by : (o : Ordering) → MatchOrdering o (i < j) (i ≡ j) (j < i) → i ≡ j
      by Less l = absurd (not_again i j z w l m n e)
      by Equal l = l
      by Greater l = absurd (not_again j i w z l n m (sym e))

  -- a choice, with those before it
  pub record IsChoiceAt (choices : List Choice) (j : ℕ) (c : Choice) : Type 0 where
    pub before : List Choice
    pub after : List Choice
    pub split : choices ≡ before ++ c ∷ after
    pub named : NamedAt r sites j c.0
    pub chosen : AreChosen r (take j sites) before
    pub is_chosen : IsChosen r before c

  -- those before a choice were chosen for the sites before its own
  pub front_of : (i : ℕ) (choices before : List Choice) (c : Choice) (after : List Choice) → AreChosen r (take i sites) choices → choices ≡ before ++ c ∷ after
      → (j : ℕ) × (j < i) × NamedAt r sites j c.0 × AreChosen r (take j sites) before × IsChosen r before c
  front_of i choices before c after chosen e =
      let (j, l, n, same) = named_from i (map (λ c. c.0) before) c.0 (map (λ c. c.0) after) (sym chosen.their_sites ∙ ap (map (λ c. c.0)) e ∙ map-append (λ c. c.0) before (c ∷ after)) in (
        j,
        l,
        n,
        record { their_sites = same; each = λ b a d f. chosen.each b (a ++ c ∷ after) d (e ∙ ap (λ l. l ++ c ∷ after) f ∙ append_assoc b (d ∷ a) (c ∷ after)) },
        chosen.each before after c e,
      )

  pub choice_of : (i : ℕ) (choices : List Choice) (c : Choice) → AreChosen r (take i sites) choices → Contains choices c → (j : ℕ) × (j < i) × IsChoiceAt choices j c
  choice_of i choices c chosen there =
      let (before, after, e) = split_there choices c there in
      let (j, l, n, front, is) = front_of i choices before c after chosen e in
      (j, l, record { before = before; after = after; split = e; named = n; chosen = front; is_chosen = is })

  pub choice_at : (i : ℕ) (choices : List Choice) (j : ℕ) (z : Site) → AreChosen r (take i sites) choices → j < i → NamedAt r sites j z → (c : Choice) × Contains choices c × (c.0 ≡ z) × IsChoiceAt choices j c
  choice_at i choices j z chosen l n =
      let (c, there, same) = mapped_from (λ c. c.0) choices z (subst (λ l. Contains l z) (sym chosen.their_sites) (named_there i j z l n)) in
      let (k, m, is) = choice_of i choices c chosen there in
      (c, there, same, subst (λ k. IsChoiceAt choices k c) (one_index k j c.0 z is.named n (ap (λ z. z.1) same)) is)
