-- Names that have the text of no catch parameter meet none.
use Rattle.std.proofs.Common.{◌≡◌, ℕ, ◌+◌, ◌<◌, ◌≤◌, Bool, true, false, Some, not, ◌&&◌, IsTrue, ◌⊎◌, inr, ⊎_elim, ◌↔◌, List, [], ◌∷◌, ◌++◌, Bor, Contains, cond, map, take, length, get_or, refl, sym, ap, ◌∙◌, subst}
use Rattle.std.proofs.lemmas.List.{map-append, take_all, take_more}
use Rattle.std.proofs.lemmas.List.Elements.{Contains-push_cases}
use Rattle.std.specs.BTreeMap.{is_at}
use Rattle.std.specs.BTreeSet as set
use Rattle.std.specs.Cmp.Lexicographic.{slice_cmp}
use Rattle.std.specs.Ordering.{nat_cmp}
use Rattle.std.specs.declared.cmp.Ordering.{Ordering}
use Rattle.swc_tree_marks.specs.declared.ident.Ident.{Ident}
use Rattle.swc_tree_node.specs.declared.node.Node.{Node}
use Rattle.swc_tree_scoping.specs.declared.places.Standing.{Standing}
use Rattle.swc_tree_scoping.specs.declared.places.Standing.TheVariants as standing
use Rattle.swc_tree_scoping.specs.declared.places.Scope.TheVariants as scope
use Rattle.swc_tree_scoping.specs.Places.{Path, opened, program_place}
use Rattle.swc_tree_scoping.specs.Scopes.{Round, rounds}
use Rattle.swc_tree_scoping.specs.Declares.{Bound, PassesNone}
use Rattle.swc_tree_scoping.specs.Readings.{by_texts}
use Rattle.swc_tree_scoping.specs.WellScoped.{Stands, is_catch_parameter}
use Rattle.swc_tree_walk.specs.Sites.{site_of, sites}
use Rattle.swc_tree_walk.specs.declared.identifiers.Site.{Site}
use Rattle.swc_tree_walk.proofs.Paths.{sites_stand}
use Rattle.swc_tree_renaming.proofs.Core.{none_in}
use Rattle.swc_base_resolver_laws.proofs.Same.{clean_stays, texts_stay}
use Rattle.swc_base_scope_checks.specs.Caught.{NoCaughtName, is_asked}
use Rattle.swc_base_alpha_laws.proofs.Decided.{came}
use Rattle.swc_base_alpha.specs.CatchTexts.{AreKept, HasTexts, NoneMeet, Texts, has_text}
use Rattle.swc_base_alpha.specs.Judged.{IsOrdinary, IsOwnAnswer}
use Rattle.swc_base_alpha.specs.Side.{Seen}
use Rattle.swc_base_alpha.proofs.Words.{own_resolver}

-- ---- a text more

abbrev text_cmp : Bor (List ℕ) → Bor (List ℕ) → Ordering
text_cmp a b = slice_cmp nat_cmp a.now b.now

still_true : (b c : Bool) → IsTrue c → cond b true c ≡ true
still_true true c h = refl
still_true false c h = h

pub all_kept : (old new : Texts) (x : List ℕ) → set.UpdatesBy text_cmp (λ b. slice_cmp nat_cmp x b.now) old new true → AreKept old new
all_kept old new x updates name has =
    let q : Bor (List ℕ) = record { ref_ptr = (0, 0); now = name } in
    updates.0 q ∙ still_true (is_at (λ (b : Bor (List ℕ)). slice_cmp nat_cmp x b.now) q) (has_text old name) has

-- ---- an identifier more

more : (ss : List Site) (i : ℕ) (x : Site) → i < length ss → x ≡ get_or ss i x → map site_of (take (i + 1) ss) ≡ map site_of (take i ss) ++ site_of x ∷ []
more ss i x within is = ap (map site_of) (take_more ss i x within) ∙ map-append site_of (take i ss) (get_or ss i x ∷ []) ∙ ap (λ z. map site_of (take i ss) ++ site_of z ∷ []) (sym is)

one_or_before : (ss : List Site) (i : ℕ) (x : Site) (y : Seen) → i < length ss → x ≡ get_or ss i x → Contains (map site_of (take (i + 1) ss)) y → Contains (map site_of (take i ss)) y ⊎ (site_of x ≡ y)
one_or_before ss i x y within is there = Contains-push_cases (map site_of (take i ss)) (site_of x) y (subst (λ l. Contains l y) (more ss i x within is) there)

pub no_texts : (texts : Texts) → HasTexts [] texts
no_texts texts x there = absurd (none_in x there)

pub one_text : (ss : List Site) (i : ℕ) (x : Site) (old new : Texts) → i < length ss → x ≡ get_or ss i x → HasTexts (map site_of (take i ss)) old → AreKept old new
    → (IsTrue (is_catch_parameter x.standing) → IsTrue (has_text new x.ident.now.sym)) → HasTexts (map site_of (take (i + 1) ss)) new
one_text ss i x old new within is before kept noted y there =
    ⊎_elim (λ earlier catches. kept y.1.sym (before y earlier catches)) (λ same. subst (λ (y : Seen). IsTrue (is_catch_parameter y.0) → IsTrue (has_text new y.1.sym)) same noted) (one_or_before ss i x y within is there)

pub all_texts : (ss : List Site) (i : ℕ) (texts : Texts) → length ss ≤ i → HasTexts (map site_of (take i ss)) texts → HasTexts (map site_of ss) texts
all_texts ss i texts ended h = subst (λ l. HasTexts (map site_of l) texts) (take_all i ss ended) h

-- what may be caught has none of these texts
abbrev pub NoneHas : Texts → List Seen → Type 0
NoneHas texts xs = (y : Seen) → Contains xs y → IsTrue (is_asked true y.0) → has_text texts y.1.sym ≡ false

not_second : (a b : Bool) → (a && b) ≡ false → IsTrue a → b ≡ false
not_second true b h e = h
not_second false b h e = absurd (cc)

pub none_asked : (texts : Texts) → NoneHas texts []
none_asked texts y there = absurd (none_in y there)

pub one_none : (ss : List Site) (i : ℕ) (x : Site) (texts : Texts) → i < length ss → x ≡ get_or ss i x → NoneHas texts (map site_of (take i ss)) → (is_asked true x.standing && has_text texts x.ident.now.sym) ≡ false
    → NoneHas texts (map site_of (take (i + 1) ss))
one_none ss i x texts within is before none y there =
    ⊎_elim (λ earlier. before y earlier) (λ same. subst (λ (y : Seen). IsTrue (is_asked true y.0) → has_text texts y.1.sym ≡ false) same (not_second (is_asked true x.standing) (has_text texts x.ident.now.sym) none)) (one_or_before ss i x y within is there)

impossible : {A : Type 0} → false ≡ true → A
impossible h = absurd (cc)

pub none_meet : (ss : List Site) (i : ℕ) (texts : Texts) → length ss ≤ i → HasTexts (map site_of ss) texts → NoneHas texts (map site_of (take i ss)) → NoneMeet (map site_of ss)
none_meet ss i texts ended all none x y there too catches asked same =
    let last : has_text texts y.1.sym ≡ false = subst (λ l. NoneHas texts (map site_of l)) (take_all i ss ended) none y too asked in
    impossible (sym last ∙ ap (has_text texts) (sym same) ∙ all x there catches)

-- ---- of a program and its answer

module _ (t u : Node) (ordinary : IsOrdinary t) (own : IsOwnAnswer t u) where
  module _ (xs : List Seen) (is : xs ≡ sites program_place u) where
    -- an identifier of the program, as the list has it
    record Listed (r : Standing) (name : List ℕ) : Type 0 where
      identifier : Ident
      there : Contains xs (r, identifier)
      text : identifier.sym ≡ name

    listed : (p : Path) (r : Standing) (name : List ℕ) → Stands t p r name → Listed r name
    listed p r name s =
        let (a, f, text) = came t u (own_resolver t u ordinary own) p s.place s.kind s.identifier s.stands in
        record { identifier = a; there = (sites_stand u xs is r a).1 (p, s.place, s.kind, f, s.stands_so); text = text ∙ s.named }

    module _ (none : NoneMeet xs) where
      not_bound : (p s : Path) (r c : Standing) (name : List ℕ) → IsTrue (is_asked true r) → Stands t p r name → IsTrue (is_catch_parameter c) → Bound t s c name → ⊥
      not_bound p s r c name asked stands catches b =
          let one = listed b.path c name (record { place = b.place; kind = b.kind; identifier = b.identifier; stands = b.stands; stands_so = b.stands_so; named = b.named }) in
          let other = listed p r name stands in
          none (c, one.identifier) (r, other.identifier) one.there other.there catches asked (one.text ∙ sym other.text)

      passes : (p : Path) (r : Standing) (name : List ℕ) → IsTrue (is_asked true r) → Stands t p r name → (ss : List Round) → PassesNone is_catch_parameter t name ss
      passes p r name asked stands [] = tt
      passes p r name asked stands (s ∷ ss) = inr (λ (c, catches, b). not_bound p s.0 r c name asked stands catches b, passes p r name asked stands ss)

      pub uncaught : NoCaughtName t
      uncaught = (λ p name s. passes p standing.Variable name refl s (rounds program_place t p), λ p name s. passes p standing.SloppyFunction name refl s (rounds program_place t p))

      pub told_uncaught : IsTrue (not false) ↔ NoCaughtName t
      told_uncaught = (λ h. uncaught, λ h. refl)

  -- without its contexts the answer is the program
  texts_are : by_texts u ≡ t
  texts_are = ap by_texts own.1.only_contexts ∙ texts_stay own.1.contexts t ∙ clean_stays t program_place ordinary.clean

  pub told_of_plain : (v n : Node) (b : Bool) → v ≡ u → n ≡ by_texts v → (opened program_place n ≡ Some scope.Program → IsTrue (not b) ↔ NoCaughtName n) → IsTrue (not b) ↔ NoCaughtName t
  told_of_plain v n b copy plain told =
      let same : n ≡ t = plain ∙ ap by_texts copy ∙ texts_are in
      subst (λ n. IsTrue (not b) ↔ NoCaughtName n) same (told (ap (opened program_place) same ∙ ordinary.opens))
