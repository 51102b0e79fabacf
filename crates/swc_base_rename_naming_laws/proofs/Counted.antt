-- The counter of an id, as its choice has it, and that counters of one scope rise where they go on.
use Rattle.std.proofs.Common.{◌≡◌, ℕ, zero, suc, ◌+◌, ◌<◌, ◌≤◌, ◌==◌, ◌⊎◌, inl, inr, Bool, true, false, Option, Some, None, List, [], ◌∷◌, ◌++◌, Contains, length, take, refl, sym, ap, eq-eqb, eqb-true, ne_eqb, ◌∙◌, subst, arith}
use Rattle.std.specs.Prelude.{if◌then◌else◌}
use Rattle.std.specs.List.{last_or, slice_get}
use Rattle.std.proofs.lemmas.Bool.{cond-true}
use Rattle.std.proofs.lemmas.List.Elements.{Contains-push, Contains-push_cases}
use Rattle.swc_base_rename_naming.specs.InOrder.{AreChosen, Choice, IsChosen, Rules, Site, chosen_text, name_in, past, start}
use Rattle.swc_base_rename_naming_laws.proofs.Chosen.{IsChoiceAt, NamedAt, choice_of, front_of, one_index}
use Rattle.swc_base_rename_naming_laws.proofs.Lists.{contains_here, contains_later, none_in, none_is_some, snoc, snoc_length}

-- the counter that an id took, else 0
abbrev pub counter_in : List Choice → ℕ → ℕ
counter_in [] x = 0
counter_in (c ∷ choices) x = if c.0.1 == x then c.1 else counter_in choices x

-- no choice of these is of the id
abbrev NoneOf : List Choice → ℕ → Type 0
NoneOf choices x = (d : Choice) → Contains choices d → d.0.1 ≡ x → ⊥

others : (d : Choice) (before : List Choice) (x : ℕ) → NoneOf (d ∷ before) x → NoneOf before x
others d before x none c there = none c (contains_later d before c there)

not_first : (d : Choice) (before : List Choice) (x : ℕ) → NoneOf (d ∷ before) x → (d.0.1 == x) ≡ false
not_first d before x none = ne_eqb d.0.1 x (none d (contains_here d before))

counter_behind : (before : List Choice) (c : Choice) (after : List Choice) → NoneOf before c.0.1 → counter_in (before ++ c ∷ after) c.0.1 ≡ c.1
counter_behind [] c after none = ap (λ b. if b then c.1 else counter_in after c.0.1) (eq-eqb c.0.1 c.0.1 refl)
counter_behind (d ∷ before) c after none =
    ap (λ b. if b then d.1 else counter_in (before ++ c ∷ after) c.0.1) (not_first d before c.0.1 none) ∙ counter_behind before c after (others d before c.0.1 none)

name_behind : (r : Rules) (before : List Choice) (c : Choice) (after : List Choice) → NoneOf before c.0.1 → name_in r (before ++ c ∷ after) c.0.1 ≡ Some (chosen_text r c)
name_behind r [] c after none = ap (λ b. if b then Some (chosen_text r c) else name_in r after c.0.1) (eq-eqb c.0.1 c.0.1 refl)
name_behind r (d ∷ before) c after none =
    ap (λ b. if b then Some (chosen_text r d) else name_in r (before ++ c ∷ after) c.0.1) (not_first d before c.0.1 none) ∙ name_behind r before c after (others d before c.0.1 none)

-- an id that has a name has a choice
pub choice_named : (r : Rules) (choices : List Choice) (x : ℕ) (text : List ℕ) → name_in r choices x ≡ Some text → (c : Choice) × Contains choices c × (c.0.1 ≡ x)
choice_named r [] x text e = none_is_some e
choice_named r (d ∷ choices) x text e = by (choice_named r choices x text) (d.0.1 == x) refl e
  where
    by : (name_in r choices x ≡ Some text → (c : Choice) × Contains choices c × (c.0.1 ≡ x)) → (b : Bool) → (d.0.1 == x) ≡ b → (if b then Some (chosen_text r d) else name_in r choices x) ≡ Some text
        → (c : Choice) × Contains (d ∷ choices) c × (c.0.1 ≡ x)
    by more true f e = (d, contains_here d choices, eqb-true d.0.1 x f)
    by more false f e = let (c, there, same) = more e in (c, contains_later d choices c there, same)

module _ (r : Rules) (sites : List Site) where
  none_before : (choices : List Choice) (j : ℕ) (c : Choice) (is : IsChoiceAt r sites choices j c) → NoneOf is.before c.0.1
  none_before choices j c is d there same =
      let (k, l, other) = choice_of r sites j is.before d is.chosen there in
      let one = one_index r sites k j d.0 c.0 other.named is.named same in
      absurd (omega (arith, l, one))

  pub counter_is : (choices : List Choice) (j : ℕ) (c : Choice) → IsChoiceAt r sites choices j c → counter_in choices c.0.1 ≡ c.1
  counter_is choices j c is = ap (λ l. counter_in l c.0.1) is.split ∙ counter_behind is.before c is.after (none_before choices j c is)

  pub name_is : (choices : List Choice) (j : ℕ) (c : Choice) → IsChoiceAt r sites choices j c → name_in r choices c.0.1 ≡ Some (chosen_text r c)
  name_is choices j c is = ap (λ l. name_in r l c.0.1) is.split ∙ name_behind r is.before c is.after (none_before choices j c is)

  last_there : (o : Option Choice) (xs : List Choice) (x : Choice) → last_or o (xs ++ x ∷ []) ≡ Some x
  last_there o [] x = refl
  last_there o (y ∷ xs) x = last_there (Some y) xs x

  start_on : (choices : List Choice) (s : ℕ) → r.counter_goes_on ≡ true → start r choices s ≡ past s (last_or None choices)
  start_on choices s on = cond-true r.counter_goes_on (past s (last_or None choices)) 0 on

  past_last : (choices : List Choice) (b : List Choice) (e : Choice) (s : ℕ) → choices ≡ b ++ e ∷ [] → past s (last_or None choices) ≡ (if e.0.0 == s then e.1 + 1 else 0)
  past_last choices b e s f = ap (λ l. past s (last_or None l)) f ∙ ap (past s) (last_there None b e)

  -- between two sites of one scope stand only sites of it
  abbrev pub StandTogether : Type 0
  StandTogether = (j m i : ℕ) (z w v : Site) → j ≤ m → m ≤ i → slice_get sites j ≡ Some z → slice_get sites m ≡ Some w → slice_get sites i ≡ Some v → z.0 ≡ v.0 → w.0 ≡ v.0

  module _ (together : StandTogether) (on : r.counter_goes_on ≡ true) where
    -- where the counter goes on, those of the scope are below its start
    rising : (n i : ℕ) (choices : List Choice) (v : Site) (d : Choice) → length choices ≤ n → AreChosen r (take i sites) choices → slice_get sites i ≡ Some v → Contains choices d → d.0.0 ≡ v.0 → d.1 < start r choices v.0
    rising zero i choices v d short chosen at there same = let (k, l, e) = there in absurd (omega (arith, short, l))
    rising (suc n) i choices v d short chosen at there same = by (snoc choices)
        (λ b e f j is l. (let less = snoc_length b e in let long = ap length f in rising n j b e.0 d (omega (arith, short, less, long)) is l))
      where
        by : (choices ≡ []) ⊎ ((b : List Choice) × (e : Choice) × (choices ≡ b ++ e ∷ []))
            → ((b : List Choice) (e : Choice) → choices ≡ b ++ e ∷ [] → (j : ℕ) → AreChosen r (take j sites) b → slice_get sites j ≡ Some e.0 → Contains b d → d.0.0 ≡ e.0.0 → d.1 < start r b e.0.0)
            → d.1 < start r choices v.0
        by (inl f) more = none_in (subst (λ l. Contains l d) f there)
        by (inr (b, e, f)) more =
            let (j, l, named, front, is) = front_of r sites i choices b e [] chosen f in
            subst (λ s. d.1 < s) (sym (start_on choices v.0 on ∙ past_last choices b e v.0 f)) (here b e f j l named front is more)
          where
            here : (b : List Choice) (e : Choice) → choices ≡ b ++ e ∷ [] → (j : ℕ) → j < i → NamedAt r sites j e.0 → AreChosen r (take j sites) b → IsChosen r b e
                → ((b : List Choice) (e : Choice) → choices ≡ b ++ e ∷ [] → (j : ℕ) → AreChosen r (take j sites) b → slice_get sites j ≡ Some e.0 → Contains b d → d.0.0 ≡ e.0.0 → d.1 < start r b e.0.0)
                → d.1 < (if e.0.0 == v.0 then e.1 + 1 else 0)
            here b e f j l named front is more = elim (Contains-push_cases b e d (subst (λ l. Contains l d) f there)) [
              | inl c ↦
                  let (k, m, other) = choice_of r sites j b d front c in
                  let scope : e.0.0 ≡ v.0 = together k j i d.0 e.0 v (omega (arith, m)) (omega (arith, l)) other.named.stands named.stands at same in
                  let below : d.1 < start r b e.0.0 = more b e f j front named.stands c (same ∙ sym scope) in
                  let less = is.from in
                  subst (λ s. d.1 < s) (sym (cond-true (e.0.0 == v.0) (e.1 + 1) 0 (eq-eqb e.0.0 v.0 scope))) (omega (arith, below, less))
              | inr g ↦ subst (λ s. d.1 < s) (sym (cond-true (e.0.0 == v.0) (e.1 + 1) 0 (eq-eqb e.0.0 v.0 (ap (λ c. c.0.0) g ∙ same)))) (let one = ap (λ c. c.1) g in omega (arith, one))
            ]

    pub below_start : (i : ℕ) (choices : List Choice) (v : Site) (d : Choice) → AreChosen r (take i sites) choices → slice_get sites i ≡ Some v → Contains choices d → d.0.0 ≡ v.0 → d.1 < start r choices v.0
    below_start i choices v d chosen at there same = rising (length choices) i choices v d (omega arith) chosen at there same

  -- a counter behind those of the scope is at its start or behind that
  pub start_below : (choices : List Choice) (s n : ℕ) → (r.counter_goes_on ≡ true → (d : Choice) → Contains choices d → d.0.0 ≡ s → d.1 < n) → start r choices s ≤ n
  start_below choices s n behind = by r.counter_goes_on refl
    where
      by : (b : Bool) → r.counter_goes_on ≡ b → (if b then past s (last_or None choices) else 0) ≤ n
      by false off = omega arith
      by true on = at (snoc choices)
        where
          scoped : (e : Choice) → Contains choices e → (b : Bool) → (e.0.0 == s) ≡ b → (if b then e.1 + 1 else 0) ≤ n
          scoped e there true same = let less = behind on e there (eqb-true e.0.0 s same) in omega (arith, less)
          scoped e there false same = omega arith

          at : (choices ≡ []) ⊎ ((b : List Choice) × (e : Choice) × (choices ≡ b ++ e ∷ [])) → past s (last_or None choices) ≤ n
          at (inl f) = subst (λ l. past s (last_or None l) ≤ n) (sym f) (let nothing : 0 ≤ n = omega arith in nothing)
          at (inr (b, e, f)) = subst (λ k. k ≤ n) (sym (past_last choices b e s f)) (scoped e (subst (λ l. Contains l e) (sym f) (Contains-push b e)) (e.0.0 == s) refl)
