-- Scopes that are named one in the other.
use Rattle.std.proofs.Common.{◌≡◌, ℕ, ◌+◌, ◌<◌, ◌≤◌, Bool, true, false, not, ◌&&◌, ◌||◌, List, [], ◌∷◌, ◌++◌, length, take, get_or, refl, sym, ◌∙◌, ap, inl, inr, arith, append_assoc}
use Rattle.std.specs.List.{AllByRecursion, list_any}
use Rattle.std.specs.Str.{bytes_eq}
use Rattle.std.proofs.lemmas.Bool.{false_from_ne_true}
use Rattle.std.proofs.lemmas.List.{append-nil}
use Rattle.std.proofs.lemmas.List.Folds.{list_any-append}
use Rattle.swc_base_rename_naming.specs.Chained.{IsChild, ids_of, outer_ids}
use Rattle.swc_base_rename_naming.specs.InOrder.{Choice, Site, chosen_text}
use Rattle.swc_base_rename_naming.specs.Inside.{IsInPreorder, IsOver, IsScopeDone, IsSettled, MayBegin, is_round, scope_at}
use Rattle.swc_base_rename_naming.specs.Steps.{AreHeld, Holds, IsDone, Maps, Naming, Stands, counts_with, is_held, rules}
use Rattle.swc_base_rename_naming.specs.declared.reverse_map.ReverseMap.{ReverseMap}
use Rattle.swc_base_rename_naming.specs.declared.in_order.GivenTexts.{GivenTexts}
use Rattle.swc_base_rename_naming.proofs.Stands.{held_of, next_taken}

-- what holds of how scopes lie in one another
pub record Laws (surrounds : ℕ → ℕ → Bool) : Type 0 where
  pub own : (s : ℕ) → surrounds s s ≡ true
  pub through : (s t u : ℕ) → surrounds s t ≡ true → surrounds t u ≡ true → surrounds s u ≡ true
  pub same : (s t : ℕ) → surrounds s t ≡ true → surrounds t s ≡ true → s ≡ t

all_append : {A : Type 0} (P : A → Type 0) (xs ys : List A) → AllByRecursion P xs → AllByRecursion P ys → AllByRecursion P (xs ++ ys)
all_append P [] ys p q = q
all_append P (x ∷ xs) ys p q = (p.0, all_append P xs ys p.1 q)

all_map : {A : Type 0} (P Q : A → Type 0) (xs : List A) → ((x : A) → P x → Q x) → AllByRecursion P xs → AllByRecursion Q xs
all_map P Q [] f p = tt
all_map P Q (x ∷ xs) f p = (f x p.0, all_map P Q xs f p.1)

any_same : {A : Type 0} (p q : A → Bool) (xs : List A) → AllByRecursion (λ x. p x ≡ q x) xs → list_any p xs ≡ list_any q xs
any_same p q [] h = refl
any_same p q (x ∷ xs) h = ap (λ b. b || list_any p xs) h.0 ∙ ap (λ b. q x || b) (any_same p q xs h.1)

any_none : {A : Type 0} (p : A → Bool) (xs : List A) → AllByRecursion (λ x. p x ≡ false) xs → list_any p xs ≡ false
any_none p [] h = refl
any_none p (x ∷ xs) h = ap (λ b. b || list_any p xs) h.0 ∙ any_none p xs h.1

or_false : (a b : Bool) → b ≡ false → a ≡ (a || b)
or_false true b e = refl
or_false false b e = sym e

-- what stands within a scope
pub record Half (n : Naming) (leaks : ℕ → Bool) (surrounds : ℕ → ℕ → Bool) (sites : List Site) (from at : ℕ) (choices : List Choice) (names : GivenTexts) (maps : Maps) : Type 0 where
  pub more : List Choice
  pub stands : Stands n (take at sites) (choices ++ more) names
  pub holders : Holds n (is_round leaks surrounds (scope_at sites from)) (choices ++ more) maps.0
  pub leaked : Holds n leaks (choices ++ more) maps.1
  pub settled : AllByRecursion (IsSettled surrounds sites at (scope_at sites from)) (choices ++ more)
  pub inside : AllByRecursion (λ c. surrounds (scope_at sites from) c.0.0 ≡ true) more

pub half_first : (n : Naming) (leaks : ℕ → Bool) (surrounds : ℕ → ℕ → Bool) (sites : List Site) (from : ℕ) (choices : List Choice) (names : GivenTexts) (outer child leaked : ReverseMap)
    → IsChild outer child → MayBegin n leaks surrounds sites from choices names (outer, leaked) → Half n leaks surrounds sites from from choices names (child, leaked)
half_first n leaks surrounds sites from choices names outer child leaked is_child begins =
    let none = append-nil choices in
    record {
      more = [];
      stands = rw none begins.stands;
      holders = rw none (λ x f. ap (λ own. list_any f (own ++ outer_ids child x)) (is_child.own x) ∙ ap (list_any f) (is_child.outer x) ∙ begins.holders x f);
      leaked = rw none begins.leaked;
      settled = rw none begins.settled;
      inside = tt;
    }

over_later : (surrounds : ℕ → ℕ → Bool) (sites : List Site) (at to : ℕ) (c : Choice) → at ≤ to → IsOver surrounds sites at c → IsOver surrounds sites to c
over_later surrounds sites at to c later over j from within = over j (omega arith) within

settled_later : (surrounds : ℕ → ℕ → Bool) (sites : List Site) (at to s : ℕ) (c : Choice) → at ≤ to → IsSettled surrounds sites at s c → IsSettled surrounds sites to s c
settled_later surrounds sites at to s c later settled = elim settled [ inl h ↦ inl h | inr over ↦ inr (over_later surrounds sites at to c later over) ]

not_round : (a b : Bool) → b ≡ true → (a && b) ≡ a
not_round true b e = e
not_round false b e = refl

-- a site of the scope itself
pub half_site : (n : Naming) (leaks : ℕ → Bool) (surrounds : ℕ → ℕ → Bool) (sites : List Site) (from at : ℕ) (choices : List Choice) (was is : GivenTexts) (maps_were maps_are : Maps)
    → Laws surrounds → at < length sites → scope_at sites at ≡ scope_at sites from
    → (half : Half n leaks surrounds sites from at choices was maps_were)
    → IsDone n (leaks (scope_at sites at)) (take at sites) (choices ++ half.more) (get_or sites at (0, 0)) is maps_were maps_are
    → Half n leaks surrounds sites from (at + 1) choices is maps_are
half_site n leaks surrounds sites from at choices was is maps_were maps_are laws within own half done =
    let s = scope_at sites from in
    let next = next_taken sites at within in
    let all = append_assoc choices half.more done.more in
    let itself : (c : Choice) → c.0.0 ≡ scope_at sites at → c.0.0 ≡ s = λ c e. e ∙ own in
    let around : surrounds (scope_at sites at) s ≡ true = ap (λ u. surrounds u s) own ∙ laws.own s in
    record {
      more = half.more ++ done.more;
      stands = rw (next, sym all) done.stands;
      holders = rw (sym all) (done.holders (is_round leaks surrounds s) (not_round (not (leaks (scope_at sites at))) (surrounds (scope_at sites at) s) around) half.holders);
      leaked = rw (sym all) (done.leaked leaks refl half.leaked);
      settled = rw (sym all) (all_append _ (choices ++ half.more) done.more
          (all_map _ _ (choices ++ half.more) (λ c. settled_later surrounds sites at (at + 1) s c (omega arith)) half.settled)
          (all_map _ _ done.more (λ c e. inl (ap (λ u. surrounds u s) (itself c e) ∙ laws.own s)) done.own));
      inside = all_append _ half.more done.more half.inside (all_map _ _ done.more (λ c e. ap (surrounds s) (itself c e) ∙ laws.own s) done.own);
    }

-- a scope in the scope begins
counts_alike : (surrounds : ℕ → ℕ → Bool) (sites : List Site) (at s : ℕ) (c : Choice) → Laws surrounds → at < length sites → surrounds s (scope_at sites at) ≡ true
    → IsSettled surrounds sites at s c → surrounds c.0.0 s ≡ surrounds c.0.0 (scope_at sites at)
counts_alike surrounds sites at s c laws within round settled = elim settled [
  | inl h ↦ h ∙ sym (laws.through c.0.0 s (scope_at sites at) h round)
  | inr over ↦
      let is_over : surrounds c.0.0 (scope_at sites at) ≡ false = over at (omega arith) within in
      false_from_ne_true (surrounds c.0.0 s) (λ h. let no : true ≡ false = sym (laws.through c.0.0 s (scope_at sites at) h round) ∙ is_over in absurd (cc)) ∙ sym is_over
]

pub child_begins : (n : Naming) (leaks : ℕ → Bool) (surrounds : ℕ → ℕ → Bool) (sites : List Site) (from at : ℕ) (choices : List Choice) (names : GivenTexts) (maps : Maps)
    → Laws surrounds → at < length sites → surrounds (scope_at sites from) (scope_at sites at) ≡ true
    → (half : Half n leaks surrounds sites from at choices names maps)
    → MayBegin n leaks surrounds sites at (choices ++ half.more) names maps
child_begins n leaks surrounds sites from at choices names maps laws within round half =
    let s = scope_at sites from in
    let v = scope_at sites at in
    record {
      stands = half.stands;
      holders = λ x f. half.holders x f ∙ any_same _ _ (choices ++ half.more)
          (all_map _ _ (choices ++ half.more) (λ c settled. ap (λ b. (not (leaks c.0.0) && b) && (bytes_eq (chosen_text (rules n) c) x && f c.0.1)) (counts_alike surrounds sites at s c laws within round settled)) half.settled);
      leaked = half.leaked;
      settled = all_map _ _ (choices ++ half.more) (λ c settled. elim settled [ inl h ↦ inl (laws.through c.0.0 s v h round) | inr over ↦ inr over ]) half.settled;
    }

-- where a scope ended, the choices in it are over
pub over_in : (surrounds : ℕ → ℕ → Bool) (sites : List Site) (at to : ℕ) (c : Choice) → Laws surrounds → IsInPreorder surrounds sites → at ≤ to
    → (to < length sites → surrounds (scope_at sites at) (scope_at sites to) ≡ false)
    → surrounds (scope_at sites at) c.0.0 ≡ true → IsOver surrounds sites to c
over_in surrounds sites at to c laws order later ended inside j from within =
    false_from_ne_true (surrounds c.0.0 (scope_at sites j)) (λ h.
    let round = order at to j later from within (laws.through (scope_at sites at) c.0.0 (scope_at sites j) inside h) in
    let no : true ≡ false = sym round ∙ ended (omega arith) in absurd (cc))

-- and do not count at the scope round it
not_outside : (surrounds : ℕ → ℕ → Bool) (s v : ℕ) (c : Choice) → Laws surrounds → surrounds s v ≡ true → (v ≡ s → ⊥) → surrounds v c.0.0 ≡ true → surrounds c.0.0 s ≡ false
not_outside surrounds s v c laws round other inside =
    false_from_ne_true (surrounds c.0.0 s) (λ h. other (laws.same v s (laws.through v c.0.0 s inside h) round))

neither : (a b z : Bool) → b ≡ false → ((a && b) && z) ≡ false
neither true b z e = ap (λ k. k && z) e
neither false b z e = refl

-- the scope in the scope ended
pub half_child : (n : Naming) (leaks : ℕ → Bool) (surrounds : ℕ → ℕ → Bool) (sites : List Site) (from at to : ℕ) (choices : List Choice) (was is : GivenTexts) (holders leaked_was leaked_is : ReverseMap)
    → Laws surrounds → IsInPreorder surrounds sites → at ≤ to → surrounds (scope_at sites from) (scope_at sites at) ≡ true → (scope_at sites at ≡ scope_at sites from → ⊥)
    → (half : Half n leaks surrounds sites from at choices was (holders, leaked_was))
    → IsScopeDone n leaks surrounds sites at to (choices ++ half.more) is leaked_is
    → Half n leaks surrounds sites from to choices is (holders, leaked_is)
half_child n leaks surrounds sites from at to choices was is holders leaked_was leaked_is laws order later round other half done =
    let s = scope_at sites from in
    let v = scope_at sites at in
    let all = append_assoc choices half.more done.more in
    record {
      more = half.more ++ done.more;
      stands = rw (sym all) done.stands;
      holders = rw (sym all) (λ x f. half.holders x f
          ∙ or_false (list_any _ (choices ++ half.more)) _ (any_none (is_held n (is_round leaks surrounds s) x f) done.more
          (all_map _ _ done.more (λ c inside. neither (not (leaks c.0.0)) (surrounds c.0.0 s) (bytes_eq (chosen_text (rules n) c) x && f c.0.1) (not_outside surrounds s v c laws round other inside)) done.inside))
          ∙ sym (list_any-append (is_held n (is_round leaks surrounds s) x f) (choices ++ half.more) done.more));
      leaked = rw (sym all) done.leaked;
      settled = rw (sym all) (all_append _ (choices ++ half.more) done.more
          (all_map _ _ (choices ++ half.more) (λ c. settled_later surrounds sites at to s c later) half.settled)
          (all_map _ _ done.more (λ c inside. inr (over_in surrounds sites at to c laws order later done.ended inside)) done.inside));
      inside = all_append _ half.more done.more half.inside (all_map _ _ done.more (λ c inside. laws.through s v c.0.0 round inside) done.inside);
    }

-- what stands where no scope is open
pub record NoneOpen (n : Naming) (leaks : ℕ → Bool) (surrounds : ℕ → ℕ → Bool) (sites : List Site) (at : ℕ) (names : GivenTexts) (map : ReverseMap) : Type 0 where
  pub choices : List Choice
  pub stands : Stands n (take at sites) choices names
  pub leaked : Holds n leaks choices map
  pub over : AllByRecursion (IsOver surrounds sites at) choices

pub root_begins : (n : Naming) (leaks : ℕ → Bool) (surrounds : ℕ → ℕ → Bool) (sites : List Site) (at : ℕ) (names : GivenTexts) (outer map : ReverseMap)
    → at < length sites → ((x : List ℕ) → ids_of outer x ≡ []) → (leaked : NoneOpen n leaks surrounds sites at names map) → MayBegin n leaks surrounds sites at leaked.choices names (outer, map)
root_begins n leaks surrounds sites at names outer map within empty leaked = record {
  stands = leaked.stands;
  holders = λ x f. ap (list_any f) (empty x) ∙ sym (any_none (is_held n (is_round leaks surrounds (scope_at sites at)) x f) leaked.choices
      (all_map _ _ leaked.choices (λ c over. neither (not (leaks c.0.0)) (surrounds c.0.0 (scope_at sites at)) (bytes_eq (chosen_text (rules n) c) x && f c.0.1) (over at (omega arith) within)) leaked.over));
  leaked = leaked.leaked;
  settled = all_map _ _ leaked.choices (λ c over. inr over) leaked.over;
}

pub root_done : (n : Naming) (leaks : ℕ → Bool) (surrounds : ℕ → ℕ → Bool) (sites : List Site) (at to : ℕ) (was is : GivenTexts) (map_was map_is : ReverseMap)
    → Laws surrounds → IsInPreorder surrounds sites → at ≤ to → (leaked : NoneOpen n leaks surrounds sites at was map_was) → IsScopeDone n leaks surrounds sites at to leaked.choices is map_is → NoneOpen n leaks surrounds sites to is map_is
root_done n leaks surrounds sites at to was is map_was map_is laws order later leaked done = record {
  choices = leaked.choices ++ done.more;
  stands = done.stands;
  leaked = done.leaked;
  over = all_append _ leaked.choices done.more
      (all_map _ _ leaked.choices (λ c. over_later surrounds sites at to c later) leaked.over)
      (all_map _ _ done.more (λ c inside. over_in surrounds sites at to c laws order later done.ended inside) done.inside);
}

-- names of scopes that leak, and those of scopes round one, count there
either_leaks : (l r : Bool) → ((not l && r) || l) ≡ (l || r)
either_leaks true r = refl
either_leaks false true = refl
either_leaks false false = refl

pub half_held : (naming : (ℕ → ℕ → Bool) → Naming) (leaks : ℕ → Bool) (surrounds : ℕ → ℕ → Bool) → ((u s : ℕ) → Naming.counts (naming (counts_with leaks surrounds)) u s ≡ counts_with leaks surrounds u s)
    → (sites : List Site) (from at : ℕ) (choices : List Choice) (names : GivenTexts) (maps : Maps) → scope_at sites at ≡ scope_at sites from
    → (half : Half (naming (counts_with leaks surrounds)) leaks surrounds sites from at choices names maps) → AreHeld (naming (counts_with leaks surrounds)) (scope_at sites at) (choices ++ half.more) maps
half_held naming leaks surrounds counts sites from at choices names maps own half =
    let n = naming (counts_with leaks surrounds) in
    let s = scope_at sites from in
    rw own (held_of n s (is_round leaks surrounds s) leaks (choices ++ half.more) maps (λ u. either_leaks (leaks u) (surrounds u s) ∙ sym (counts u s)) half.holders half.leaked)
