-- Which ids get names, and which: each clause met by one tree and not by another.
use Rattle.std.specs.Str.{bytes_eq}
use Rattle.std.proofs.Common.{◌≡◌, ℕ, zero, suc, ◌+◌, ◌<◌, ◌^◌, Bool, true, false, ◌&&◌, ◌||◌, ◌⊎◌, inl, inr, Option, Some, None, List, [], ◌∷◌, ◌++◌, codes, refl, sym, ap, ◌∙◌, subst, arith}
use Rattle.std.specs.Prelude.{if◌then◌else◌}
use Rattle.std.specs.declared.cmp.Ordering.TheVariants.{Less, Equal, Greater}
use Rattle.swc_tree_node.specs.declared.kind.Word.TheVariants as word
use Rattle.swc_tree_scoping.specs.declared.places.Standing.{Standing}
use Rattle.swc_tree_scoping.specs.declared.places.Standing.TheVariants as standing
use Rattle.swc_tree_scoping.specs.Places.{Path}
use Rattle.swc_tree_scoping.specs.BoundNames.{Id}
use Rattle.swc_tree_scoping_rows.proofs.Drawn.{Drawing, draw}
use Rattle.swc_tree_scoping_rows.proofs.Sites.{apart_by, declaration, module_of, two}
use Rattle.swc_base_rename_analysis.specs.declared.scopes.ScopeKind.TheVariants.{Fn}
use Rattle.swc_base_rename_analysis.specs.Analysis.{Declares, OccursIn}
use Rattle.swc_base_rename_analysis.specs.Named.{IsEarlier, IsFreeText, IsFromStart, IsLeast, IsNamedAt, IsSpent, Named, Renaming, all_count}
use Rattle.swc_base_rename_analysis.specs.Order.{IsBefore, Site}
use Rattle.swc_base_rename_analysis.specs.Preserved.{IsPreserved}
use Rattle.swc_base_rename_analysis.proofs.OneMap.{one_map}
use Rattle.swc_base_rename_analysis_rows.proofs.ScopeRows.{a1, a2, id_of, no_arguments, there}
use Rattle.swc_base_rename_analysis_rows.proofs.Seen.{cmp_is, declares, id_is}
use Rattle.swc_base_rename_analysis_rows.proofs.Tests.{both_so, declared_passes, id_is_same, one_so, passes, path_is, same}

-- the text, and behind it the counter if it is not 0
abbrev numbered_text : Id → ℕ → List ℕ
numbered_text x zero = x.0
numbered_text x (suc n) = x.0 ++ (49 + n) ∷ []

abbrev hygiene : Renaming
hygiene = record { text = numbered_text; mangles = false; resets = true; preserves = λ x. false }

-- `let a#1; let a#2;`
abbrev twice : Drawing
twice = module_of (two (declaration word.Let a1) (declaration word.Let a2))

abbrev first_path : Path
first_path = 1 ∷ 0 ∷ 2 ∷ 0 ∷ 1 ∷ []

abbrev second_path : Path
second_path = 1 ∷ 1 ∷ 2 ∷ 0 ∷ 1 ∷ []

abbrev first : Site
first = ([], first_path)

abbrev second : Site
second = ([], second_path)

-- what is declared where
abbrev declared : Path → Path → Id → Bool
declared s p x = (bytes_eq s [] && (bytes_eq p first_path && same x (id_of a1))) || (bytes_eq s [] && (bytes_eq p second_path && same x (id_of a2)))

-- a site and an id are the first or the second
abbrev IsOneOf : Site → Id → Type 0
IsOneOf a x = ((a ≡ first) × (x ≡ id_of a1)) ⊎ ((a ≡ second) × (x ≡ id_of a2))

site_is : (a : Site) (q : Path) (x y : Id) → (bytes_eq a.0 [] && (bytes_eq a.1 q && same x y)) ≡ true → (a ≡ ([], q)) × (x ≡ y)
site_is a q x y h =
    let (e, rest) = both_so (bytes_eq a.0 []) _ h in
    let (g, s) = both_so (bytes_eq a.1 q) _ rest in
    ((λ j. (path_is a.0 [] e j, path_is a.1 q g j)), id_is_same x y s)

one_of : (a : Site) (x : Id) → Declares (draw twice) a.0 a.1 x → IsOneOf a x
one_of a x d = by (one_so _ _ (declared_passes twice declared refl a.0 a.1 x d))
  where
    by : ((bytes_eq a.0 [] && (bytes_eq a.1 first_path && same x (id_of a1))) ≡ true) ⊎ ((bytes_eq a.0 [] && (bytes_eq a.1 second_path && same x (id_of a2))) ≡ true) → IsOneOf a x
    by (inl h) = inl (site_is a first_path x (id_of a1) h)
    by (inr h) = inr (site_is a second_path x (id_of a2) h)

declares_first : Declares (draw twice) [] first_path (id_of a1)
declares_first = declares twice [] first_path standing.Lexical (id_of a1) refl refl (no_arguments (codes "a") refl) refl

declares_second : Declares (draw twice) [] second_path (id_of a2)
declares_second = declares twice [] second_path standing.Lexical (id_of a2) refl refl (no_arguments (codes "a") refl) refl

first_before_second : IsBefore (draw twice) first second
first_before_second = cmp_is twice first second

not_before_first : (a : Site) (x : Id) → IsOneOf a x → ¬ IsBefore (draw twice) a first
not_before_first a x (inl (e, g)) h = let z : Equal ≡ Less = sym (cmp_is twice first first) ∙ subst (λ a. IsBefore (draw twice) a first) e h in absurd (cc)
not_before_first a x (inr (e, g)) h = let z : Greater ≡ Less = sym (cmp_is twice second first) ∙ subst (λ a. IsBefore (draw twice) a first) e h in absurd (cc)

not_eval : (x : List ℕ) → bytes_eq x (codes "eval") ≡ false → x ≡ codes "eval" → ⊥
not_eval x n e = apart_by (λ l. bytes_eq l (codes "eval")) (sym e) refl n

other_ids : id_of a1 ≡ id_of a2 → ⊥
other_ids e = apart_by (λ x. same x (id_of a1)) e refl refl

-- who gets a name, and where
pub first_is_named : IsNamedAt (draw twice) hygiene first (id_of a1)
first_is_named = record { declared = declares_first; first = λ b d. not_before_first b (id_of a1) (one_of b (id_of a1) d); not_preserved = λ h. absurd (cc); not_eval = not_eval (codes "a") refl }

pub second_is_named : IsNamedAt (draw twice) hygiene second (id_of a2)
second_is_named = record { declared = declares_second; first = λ b d. not_earlier b (one_of b (id_of a2) d); not_preserved = λ h. absurd (cc); not_eval = not_eval (codes "a") refl }
  where
    not_earlier : (b : Site) → IsOneOf b (id_of a2) → ¬ IsBefore (draw twice) b second
    not_earlier b (inl (e, g)) h = other_ids (sym g)
    not_earlier b (inr (e, g)) h = let z : Equal ≡ Less = sym (cmp_is twice second second) ∙ subst (λ b. IsBefore (draw twice) b second) e h in absurd (cc)

pub preserved_id_is_not_named : ¬ IsNamedAt (draw twice) (record hygiene { preserves = λ x. same x (id_of a1) }) first (id_of a1)
preserved_id_is_not_named h = h.not_preserved refl

pub eval_is_not_named : (d : Drawing) (r : Renaming) (a : Site) (c : List ℕ) → ¬ IsNamedAt (draw d) r a (codes "eval", c)
eval_is_not_named d r a c h = h.not_eval refl

-- `let a#1; let a#1;`: the second site names nothing
abbrev again : Drawing
again = module_of (two (declaration word.Let a1) (declaration word.Let a1))

pub second_site_of_an_id_names_nothing : ¬ IsNamedAt (draw again) hygiene second (id_of a1)
second_site_of_an_id_names_nothing h = h.first first (declares again [] first_path standing.Lexical (id_of a1) refl refl (no_arguments (codes "a") refl) refl) (cmp_is again first second)

-- no text is preserved there
abbrev bound_test : Path → Standing → Id → Bool
bound_test p r x = same x (id_of a1) || same x (id_of a2)

none_preserved : (text : List ℕ) → ¬ IsPreserved (draw twice) (λ x. false) text
none_preserved text (x, e, inr h) = absurd (cc)
none_preserved text (x, e, inl l) = by (one_so _ _ (passes twice bound_test refl l.path l.standing x l.stands))
  where
    by : (same x (id_of a1) ≡ true) ⊎ (same x (id_of a2) ≡ true) → ⊥
    by (inl s) = l.unbound (first_path, standing.Lexical, (id_is twice first_path ∙ ap (λ y. Some (standing.Lexical, y)) (sym (id_is_same x (id_of a1) s))), refl)
    by (inr s) = l.unbound (second_path, standing.Lexical, (id_is twice second_path ∙ ap (λ y. Some (standing.Lexical, y)) (sym (id_is_same x (id_of a2) s))), refl)

-- `a#1` takes the counter 0, `a#2` the counter 1
abbrev counters : Id → ℕ
counters x = if same x (id_of a2) then 1 else 0

abbrev preserved : List ℕ → Type 0
preserved = IsPreserved (draw twice) (λ x. false)

abbrev one_for_each : Id → Option (List ℕ)
one_for_each x = if same x (id_of a1) then Some (codes "a") else (if same x (id_of a2) then Some (codes "a1") else None)

earlier_is_first : (b : Site) (y : Id) → IsEarlier (draw twice) hygiene second b y → (b ≡ first) × (y ≡ id_of a1)
earlier_is_first b y e = by (one_of b y e.named.declared)
  where
    by : IsOneOf b y → (b ≡ first) × (y ≡ id_of a1)
    by (inl h) = h
    by (inr h) = let z : Equal ≡ Less = sym (cmp_is twice second second) ∙ subst (λ b. IsBefore (draw twice) b second) h.0 e.before in absurd (cc)

none_earlier : (b : Site) (y : Id) → IsEarlier (draw twice) hygiene first b y → ⊥
none_earlier b y e = not_before_first b y (one_of b y e.named.declared) e.before

a_occurs : OccursIn (draw twice) [] (id_of a1)
a_occurs = record { path = first_path; standing = standing.Lexical; stands = id_is twice first_path; names = refl; analysed = no_arguments (codes "a") refl; inside = inl (there twice [] first_path Fn (0, omega arith, refl)) }

texts_apart : (x y : List ℕ) → bytes_eq x y ≡ false → bytes_eq x x ≡ true → x ≡ y → ⊥
texts_apart x y n s e = apart_by (λ l. bytes_eq x l) e s n

-- free texts
pub held_text_is_not_free : ¬ IsFreeText (draw twice) hygiene preserved all_count counters second (codes "a")
held_text_is_not_free f = f.not_held first (id_of a1) (record { named = first_is_named; before = first_before_second }) tt a_occurs refl

pub other_text_is_free : IsFreeText (draw twice) hygiene preserved all_count counters second (codes "a1")
other_text_is_free = record { not_preserved = none_preserved (codes "a1"); not_held = λ b y e c o s. texts_apart (codes "a") (codes "a1") refl refl (sym (ap (λ y. numbered_text y (counters y)) (earlier_is_first b y e).1) ∙ s) }

pub preserved_text_is_not_free : ¬ IsFreeText (draw twice) hygiene (λ text. text ≡ codes "a1") all_count counters second (codes "a1")
preserved_text_is_not_free f = f.not_preserved refl

pub text_of_no_id_that_counts_is_free : IsFreeText (draw twice) hygiene preserved (λ u s. ⊥) counters second (codes "a")
text_of_no_id_that_counts_is_free = record { not_preserved = none_preserved (codes "a"); not_held = λ b y e c o s. absurd c }

-- counters from the start
abbrev counting : Renaming
counting = record hygiene { mangles = true }

first_counts : IsEarlier (draw twice) counting second first (id_of a1)
first_counts = record { named = record { declared = first_is_named.declared; first = first_is_named.first; not_preserved = λ h. absurd (cc); not_eval = first_is_named.not_eval }; before = first_before_second }

pub counter_of_an_earlier_id_is_no_start : ¬ IsFromStart (draw twice) counting counters second 0
counter_of_an_earlier_id_is_no_start h = let l : 0 < 0 = h refl first (id_of a1) first_counts refl in absurd (omega arith)

pub the_next_is : IsFromStart (draw twice) counting counters second 1
the_next_is on b y e s = by (one_of b y e.named.declared)
  where
    by : IsOneOf b y → counters y < 1
    by (inl h) = subst (λ y. counters y < 1) (sym h.1) (omega arith)
    by (inr h) = let z : Equal ≡ Less = sym (cmp_is twice second second) ∙ subst (λ b. IsBefore (draw twice) b second) h.0 e.before in absurd (cc)

pub with_reset_all_are : IsFromStart (draw twice) hygiene counters second 0
with_reset_all_are on = absurd (cc)

-- least counters
pub first_takes_zero : IsLeast (draw twice) hygiene preserved all_count counters first (id_of a1)
first_takes_zero = record {
  within = omega arith;
  from_start = λ on. absurd (cc);
  free = record { not_preserved = none_preserved (codes "a"); not_held = λ b y e c o s. none_earlier b y e };
  least = λ n l. absurd (omega arith);
}

pub second_takes_one : IsLeast (draw twice) hygiene preserved all_count counters second (id_of a2)
second_takes_one = record { within = omega arith; from_start = λ on. absurd (cc); free = other_text_is_free; least = λ n l s f. held_text_is_not_free (subst (λ n. IsFreeText (draw twice) hygiene preserved all_count counters second (numbered_text (id_of a2) n)) (only_zero n l) f) }
  where
    only_zero : (n : ℕ) → n < 1 → n ≡ 0
    only_zero n l = omega arith

pub two_is_not_least : ¬ IsLeast (draw twice) hygiene preserved all_count (λ x. if same x (id_of a2) then 2 else 0) second (id_of a2)
two_is_not_least h = h.least 1 (omega arith) (λ on. absurd (cc)) (record { not_preserved = none_preserved (codes "a1"); not_held = λ b y e c o s. texts_apart (codes "a") (codes "a1") refl refl (sym (ap (λ y. numbered_text y (if same y (id_of a2) then 2 else 0)) (earlier_is_first b y e).1) ∙ s) })

pub counter_past_usize_is_not_least : (m : ℕ) → ¬ IsLeast (draw twice) hygiene preserved all_count (λ x. 2 ^ 64 + m) first (id_of a1)
counter_past_usize_is_not_least m h = let within : 2 ^ 64 + m < 2 ^ 64 = h.within in absurd (omega (arith, within))

-- the map
pub is_named : Named (draw twice) hygiene preserved all_count one_for_each
is_named = record { taken = counters; each = λ a x h. each a x (one_of a x h.declared); no_other = no_other }
  where
    each : (a : Site) (x : Id) → IsOneOf a x → IsLeast (draw twice) hygiene preserved all_count counters a x × (one_for_each x ≡ Some (numbered_text x (counters x)))
    each a x (inl (e, g)) = subst (λ a. IsLeast (draw twice) hygiene preserved all_count counters a x × (one_for_each x ≡ Some (numbered_text x (counters x)))) (sym e)
        (subst (λ x. IsLeast (draw twice) hygiene preserved all_count counters first x × (one_for_each x ≡ Some (numbered_text x (counters x)))) (sym g) (first_takes_zero, refl))
    each a x (inr (e, g)) = subst (λ a. IsLeast (draw twice) hygiene preserved all_count counters a x × (one_for_each x ≡ Some (numbered_text x (counters x)))) (sym e)
        (subst (λ x. IsLeast (draw twice) hygiene preserved all_count counters second x × (one_for_each x ≡ Some (numbered_text x (counters x)))) (sym g) (second_takes_one, refl))

    no_other : (x : Id) (text : List ℕ) → one_for_each x ≡ Some text → (a : Site) × IsNamedAt (draw twice) hygiene a x
    no_other x text h = by (same x (id_of a1)) refl (same x (id_of a2)) refl h
      where
        by : (b : Bool) → same x (id_of a1) ≡ b → (c : Bool) → same x (id_of a2) ≡ c → (if b then Some (codes "a") else (if c then Some (codes "a1") else None)) ≡ Some text → (a : Site) × IsNamedAt (draw twice) hygiene a x
        by true s c t g = (first, subst (IsNamedAt (draw twice) hygiene first) (sym (id_is_same x (id_of a1) s)) first_is_named)
        by false s true t g = (second, subst (IsNamedAt (draw twice) hygiene second) (sym (id_is_same x (id_of a2) t)) second_is_named)
        by false s false t g = absurd (cc)

abbrev NamedAlike : (Id → Option (List ℕ)) → Type 0
NamedAlike m = Named (draw twice) hygiene preserved all_count m

no_other_map : (m : Id → Option (List ℕ)) → NamedAlike m → (x : Id) → one_for_each x ≡ m x
no_other_map m h = one_map (draw twice) hygiene preserved all_count one_for_each m is_named h

pub one_text_for_both_is_wrong : ¬ NamedAlike (λ x. Some (codes "a"))
one_text_for_both_is_wrong h = let z : Some (codes "a1") ≡ Some (codes "a") = no_other_map _ h (id_of a2) in absurd (cc)

pub no_name_for_one_is_wrong : ¬ NamedAlike (λ x. if same x (id_of a1) then Some (codes "a") else None)
no_name_for_one_is_wrong h = let z : Some (codes "a1") ≡ None = no_other_map _ h (id_of a2) in absurd (cc)

pub name_for_another_is_wrong : ¬ NamedAlike (λ x. if same x (codes "b", []) then Some (codes "b") else one_for_each x)
name_for_another_is_wrong h = let z : None ≡ Some (codes "b") = no_other_map _ h (codes "b", []) in absurd (cc)

-- spent counters: below 1 there is none for `a#2`; below 2 there is one for each
pub spent_below_one : IsSpent (draw twice) hygiene preserved all_count 1
spent_below_one = record {
  taken = counters;
  site = second;
  id = id_of a2;
  named = second_is_named;
  earlier = λ b y e. let (s, i) = earlier_is_first b y e in subst (λ b. IsLeast (draw twice) hygiene preserved all_count counters b y) (sym s) (subst (IsLeast (draw twice) hygiene preserved all_count counters first) (sym i) first_takes_zero);
  none_free = λ n l s f. second_takes_one.least n l (λ on. absurd (cc)) f;
}

-- below 2 they are not: each id's counter is free there
pub not_spent_below_two : ¬ IsSpent (draw twice) hygiene preserved all_count 2
not_spent_below_two s = by (one_of s.site s.id s.named.declared)
  where
    at_first : s.site ≡ first → s.id ≡ id_of a1 → ⊥
    at_first e g =
        s.none_free 0 (omega arith) (λ on. absurd (cc)) (record { not_preserved = none_preserved _; not_held = λ b y h c o t. none_earlier b y (subst (λ a. IsEarlier (draw twice) hygiene a b y) e h) })

    taken_first : s.site ≡ second → s.taken (id_of a1) ≡ 0
    taken_first e = none_below (s.taken (id_of a1)) refl
      where
        least : IsLeast (draw twice) hygiene preserved all_count s.taken first (id_of a1)
        least = s.earlier first (id_of a1) (record { named = first_is_named; before = subst (IsBefore (draw twice) first) (sym e) first_before_second })

        none_below : (n : ℕ) → s.taken (id_of a1) ≡ n → s.taken (id_of a1) ≡ 0
        none_below zero h = h
        none_below (suc n) h = absurd (least.least 0 (omega arith) (λ on. absurd (cc)) (record { not_preserved = none_preserved _; not_held = λ b y e c o t. none_earlier b y e }))

    at_second : s.site ≡ second → s.id ≡ id_of a2 → ⊥
    at_second e g =
        s.none_free 1 (omega arith) (λ on. absurd (cc)) (record {
          not_preserved = none_preserved _;
          not_held = λ b y h c o t. texts_apart (codes "a") (codes "a1") refl refl (sym (ap (λ y. numbered_text y (s.taken y)) (earlier_is_first b y (subst (λ a. IsEarlier (draw twice) hygiene a b y) e h)).1 ∙ ap (numbered_text (id_of a1)) (taken_first e)) ∙ t ∙ ap (λ x. numbered_text x 1) g);
        })

    by : IsOneOf s.site s.id → ⊥
    by (inl h) = at_first h.0 h.1
    by (inr h) = at_second h.0 h.1
