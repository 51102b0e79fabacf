-- One site more, at which an id gets its name or none does.
use Rattle.std.proofs.Common.{◌≡◌, ℕ, ◌==◌, ◌⊎◌, Bool, true, false, not, ◌||◌, Option, Some, None, List, [], ◌∷◌, ◌++◌, map, refl, sym, ◌∙◌, ap, inl, inr, arith, append_assoc}
use Rattle.std.specs.Prelude.{is_some, if◌then◌else◌}
use Rattle.std.specs.List.{list_any, last_or}
use Rattle.std.proofs.lemmas.Bool.Decides.{nat_tests}
use Rattle.std.proofs.lemmas.List.{append-nil, map-append}
use Rattle.std.proofs.lemmas.List.Folds.{list_any-append}
use Rattle.swc_base_rename_naming.specs.InOrder.{AreChosen, Choice, IsChosen, Rules, Site, chosen_text, is_named, name_in, named_sites}

-- one behind those before, where the test says so
abbrev one_if : {A : Type 0} → Bool → A → List A
one_if b a = if b then a ∷ [] else []

pick : {A : Type 0} (b : Bool) (a : A) (xs ys more : List A) → xs ≡ ys ++ more → (if b then a ∷ xs else xs) ≡ (if b then a ∷ ys else ys) ++ more
pick true a xs ys more h = ap (λ l. a ∷ l) h
pick false a xs ys more h = h

named-append : (r : Rules) (before done : List Site) (a : Site) → named_sites r before (done ++ a ∷ []) ≡ named_sites r before done ++ one_if (is_named r (before ++ done) a) a
named-append r before [] a = ap (λ l. one_if (is_named r l a) a) (sym (append-nil before))
named-append r before (b ∷ done) a = pick (is_named r before b) b _ _ _ (named-append r (before ++ b ∷ []) done a ∙ ap (λ l. named_sites r (before ++ b ∷ []) done ++ one_if (is_named r l a) a) (append_assoc before (b ∷ []) done))

-- whether a site is one of an id
abbrev is_of : ℕ → Site → Bool
is_of x a = a.1 == x

both_or : (b p n d : Bool) → ((b || (p || false)) || n) ≡ ((b || (p || false)) || d) → (b || (p || n)) ≡ (b || (p || d))
both_or true p n d h = refl
both_or false true n d h = refl
both_or false false n d h = h

passed_or : (b p n d : Bool) → (p ≡ true → b ≡ true) → ((b || (p || false)) || n) ≡ ((b || (p || false)) || d) → (b || n) ≡ (b || (p || d))
passed_or true p n d seen h = refl
passed_or false true n d seen h = let no : false ≡ true = seen refl in absurd (cc)
passed_or false false n d seen h = h

same_number : (x y : ℕ) → (x == y) ≡ true → x ≡ y
same_number x y h = grind (arith, nat_tests)

rest : (s b : Bool) → s ≡ false → not (s || b) ≡ false → b ≡ true
rest true b e h = absurd (cc)
rest false true e h = refl
rest false false e h = absurd (cc)

-- a site at which an id that changes gets no name stands behind another of that id
seen_before : (r : Rules) (before : List Site) (a : Site) (x : ℕ) → r.stays x ≡ false → is_named r before a ≡ false → is_of x a ≡ true → list_any (is_of x) before ≡ true
seen_before r before a x changes passed same =
    let e : x ≡ a.1 = sym (same_number a.1 x same) in
    rest (r.stays x) (list_any (is_of x) before) changes (ap (λ y. not (r.stays y || list_any (is_of y) before)) e ∙ passed)

step_any : (r : Rules) (before : List Site) (a : Site) (later : List Site) (x : ℕ) (b : Bool) → is_named r before a ≡ b → r.stays x ≡ false
    → ((list_any (is_of x) before || (is_of x a || false)) || list_any (is_of x) (named_sites r (before ++ a ∷ []) later)) ≡ ((list_any (is_of x) before || (is_of x a || false)) || list_any (is_of x) later)
    → (list_any (is_of x) before || list_any (is_of x) (if b then a ∷ named_sites r (before ++ a ∷ []) later else named_sites r (before ++ a ∷ []) later)) ≡ (list_any (is_of x) before || (is_of x a || list_any (is_of x) later))
step_any r before a later x true named changes h = both_or (list_any (is_of x) before) (is_of x a) _ _ h
step_any r before a later x false passed changes h = passed_or (list_any (is_of x) before) (is_of x a) _ _ (seen_before r before a x changes passed) h

-- an id that changes gets a name just where it has a site
any_named : (r : Rules) (x : ℕ) → r.stays x ≡ false → (before done : List Site) → (list_any (is_of x) before || list_any (is_of x) (named_sites r before done)) ≡ (list_any (is_of x) before || list_any (is_of x) done)
any_named r x changes before [] = refl
any_named r x changes before (a ∷ later) =
    let is_either = list_any-append (is_of x) before (a ∷ []) in
    step_any r before a later x (is_named r before a) refl changes
    (ap (λ b. b || list_any (is_of x) (named_sites r (before ++ a ∷ []) later)) (sym is_either) ∙ any_named r x changes (before ++ a ∷ []) later ∙ ap (λ b. b || list_any (is_of x) later) is_either)

some_if : {A : Type 0} (b : Bool) (a : A) (o : Option A) → is_some (if b then Some a else o) ≡ (b || is_some o)
some_if true a o = refl
some_if false a o = refl

any_chosen : (r : Rules) (x : ℕ) (choices : List Choice) → is_some (name_in r choices x) ≡ list_any (is_of x) (map (λ c. c.0) choices)
any_chosen r x [] = refl
any_chosen r x (c ∷ choices) = some_if (c.0.1 == x) (chosen_text r c) (name_in r choices x) ∙ ap (λ b. (c.0.1 == x) || b) (any_chosen r x choices)

-- an id that changes has a name just where it has a site
pub has_name : (r : Rules) (done : List Site) (choices : List Choice) (x : ℕ) → AreChosen r done choices → r.stays x ≡ false → is_some (name_in r choices x) ≡ list_any (is_of x) done
has_name r done choices x chosen changes = any_chosen r x choices ∙ ap (list_any (is_of x)) chosen.their_sites ∙ any_named r x changes [] done

not_named : (s b : Bool) → (s ≡ true) ⊎ (b ≡ true) → not (s || b) ≡ false
not_named true b h = refl
not_named false true h = refl
not_named false false h = elim h [ inl e ↦ absurd (cc) | inr e ↦ absurd (cc) ]

named_by : (s b : Bool) → s ≡ false → b ≡ false → not (s || b) ≡ true
named_by s b e f = ap (λ c. not (c || b)) e ∙ ap not f

passed_by : (r : Rules) (done : List Site) (choices : List Choice) (x : ℕ) (s : Bool) → r.stays x ≡ s → AreChosen r done choices → is_some (name_in r choices x) ≡ true → (r.stays x ≡ true) ⊎ (list_any (is_of x) done ≡ true)
passed_by r done choices x true e chosen h = inl e
passed_by r done choices x false e chosen h = inr (sym (has_name r done choices x chosen e) ∙ h)

-- at a site of an id that stays or has a name, none is given
pub is_passed : (r : Rules) (done : List Site) (choices : List Choice) (a : Site) → AreChosen r done choices → (r.stays a.1 ≡ true) ⊎ (is_some (name_in r choices a.1) ≡ true) → is_named r done a ≡ false
is_passed r done choices a chosen why = not_named (r.stays a.1) _ (elim why [ inl e ↦ inl e | inr e ↦ passed_by r done choices a.1 (r.stays a.1) refl chosen e ])

-- at a site of an id that changes and has no name, it is given one
pub is_next : (r : Rules) (done : List Site) (choices : List Choice) (a : Site) → AreChosen r done choices → r.stays a.1 ≡ false → name_in r choices a.1 ≡ None → is_named r done a ≡ true
is_next r done choices a chosen changes none = named_by (r.stays a.1) _ changes (sym (has_name r done choices a.1 chosen changes) ∙ ap is_some none)

pub one_passed : (r : Rules) (done : List Site) (choices : List Choice) (a : Site) → AreChosen r done choices → is_named r done a ≡ false → AreChosen r (done ++ a ∷ []) choices
one_passed r done choices a chosen passed = record {
  their_sites = chosen.their_sites ∙ sym (named-append r [] done a ∙ ap (λ b. named_sites r [] done ++ one_if b a) passed ∙ append-nil (named_sites r [] done));
  each = chosen.each;
}

cons_head : {A : Type 0} {x y : A} {xs ys : List A} → x ∷ xs ≡ y ∷ ys → x ≡ y
cons_head e = cc

cons_tail : {A : Type 0} {x y : A} {xs ys : List A} → x ∷ xs ≡ y ∷ ys → xs ≡ ys
cons_tail e = cc

pub no_room : {A : Type 0} (before : List A) (y : A) (after : List A) → [] ≡ before ++ y ∷ after → ⊥
no_room [] y after e = absurd (cc)
no_room (b ∷ before) y after e = absurd (cc)

-- the last of a list, or one before it
split_last : {A : Type 0} (xs : List A) (z : A) (before : List A) (y : A) (after : List A) → xs ++ z ∷ [] ≡ before ++ y ∷ after → ((before ≡ xs) × (y ≡ z)) ⊎ ((others : List A) × (xs ≡ before ++ y ∷ others))
split_last [] z [] y after e = inl (refl, sym (cons_head e))
split_last [] z (b ∷ before) y after e = absurd (no_room before y after (cons_tail e))
split_last (x ∷ xs) z [] y after e = inr (xs, ap (λ h. h ∷ xs) (cons_head e))
split_last (x ∷ xs) z (b ∷ before) y after e = elim (split_last xs z before y after (cons_tail e)) [
  | inl h ↦ inl (ap (λ h. h ∷ before) (sym (cons_head e)) ∙ ap (λ t. x ∷ t) h.0, h.1)
  | inr h ↦ inr (h.0, ap (λ h. h ∷ xs) (cons_head e) ∙ ap (λ t. b ∷ t) h.1)
]

is_chosen_as : (r : Rules) (xs before : List Choice) (z c : Choice) → before ≡ xs → c ≡ z → IsChosen r xs z → IsChosen r before c
is_chosen_as r xs before z c e f h = rw (e, f) h

pub one_chosen : (r : Rules) (done : List Site) (choices : List Choice) (a : Site) (n : ℕ) → AreChosen r done choices → is_named r done a ≡ true → IsChosen r choices (a, n) → AreChosen r (done ++ a ∷ []) (choices ++ (a, n) ∷ [])
one_chosen r done choices a n chosen named is_chosen = record {
  their_sites = map-append (λ c. c.0) choices ((a, n) ∷ []) ∙ ap (λ l. l ++ a ∷ []) chosen.their_sites ∙ sym (named-append r [] done a ∙ ap (λ b. named_sites r [] done ++ one_if b a) named);
  each = λ before after c e. elim (split_last choices (a, n) before c after e) [
    | inl h ↦ is_chosen_as r choices before (a, n) c h.0 h.1 is_chosen
    | inr h ↦ chosen.each before h.0 c h.1
  ];
}

either_name : (p q : Bool) (s t : List ℕ) (n o : Option (List ℕ)) → (p ≡ true → q ≡ true → ⊥) → o ≡ (if q then Some t else n) → (if p then Some s else o) ≡ (if q then Some t else (if p then Some s else n))
either_name true true s t n o apart e = absurd (apart refl refl)
either_name true false s t n o apart e = refl
either_name false true s t n o apart e = e
either_name false false s t n o apart e = e

not_head : (b : Bool) (s : List ℕ) (o : Option (List ℕ)) → (if b then Some s else o) ≡ None → (b ≡ false) × (o ≡ None)
not_head true s o e = absurd (cc)
not_head false s o e = (refl, e)

apart_from : (d c x : ℕ) → (d == c) ≡ false → (d == x) ≡ true → (c == x) ≡ true → ⊥
apart_from d c x other p q = grind (arith, nat_tests)

-- one more name
pub one_name : (r : Rules) (choices : List Choice) (c : Choice) → name_in r choices c.0.1 ≡ None → (x : ℕ) → name_in r (choices ++ c ∷ []) x ≡ (if c.0.1 == x then Some (chosen_text r c) else name_in r choices x)
one_name r [] c none x = refl
one_name r (d ∷ choices) c none x =
    let h = not_head (d.0.1 == c.0.1) (chosen_text r d) (name_in r choices c.0.1) none in
    either_name (d.0.1 == x) (c.0.1 == x) (chosen_text r d) (chosen_text r c) (name_in r choices x) (name_in r (choices ++ c ∷ []) x) (apart_from d.0.1 c.0.1 x h.0) (one_name r choices c h.1 x)

pub last-append : {A : Type 0} (o : Option A) (xs : List A) (x : A) → last_or o (xs ++ x ∷ []) ≡ Some x
last-append o [] x = refl
last-append o (y ∷ xs) x = last-append (Some y) xs x
