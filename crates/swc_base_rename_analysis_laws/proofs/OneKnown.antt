-- What is known of an id comes from the names of that id: its positions are theirs, one of them binds it, or one stands outside.
use Rattle.std.proofs.Common.{◌≡◌, ℕ, zero, suc, ◌<◌, Bool, true, false, ◌&&◌, ◌||◌, ◌⊎◌, inl, inr, ⊎_elim, Option, Some, None, List, [], ◌∷◌, ◌++◌, cond, refl, sym, ap, ◌∙◌, subst, arith}
use Rattle.std.specs.Prelude.{not, if◌then◌else◌}
use Rattle.std.specs.List.{slice_get}
use Rattle.swc_tree_scoping.specs.Scopes.{is_binding, is_name}
use Rattle.swc_tree_scoping.specs.BoundNames.{Id}
use Rattle.swc_base_rename_analysis.specs.Numbers.{Known, fresh, id_met, is_analysed, same_id, seen}
use Rattle.swc_base_rename_analysis.specs.Walk.{Met}
use Rattle.swc_base_rename_analysis.proofs.Numbered.{itself, one_id}
use Rattle.swc_base_rename_analysis_laws.proofs.Items.{some_same, still_there}
use Rattle.swc_base_rename_analysis_laws.proofs.Known.{one_known, one_known_next, before_or_last}

next_id : (k : ℕ) (o : Option Met) (x : Id) (e : Known) → (one_known_next k o x e).id ≡ e.id
next_id k None x e = refl
next_id k (Some m) x e = by (same_id x (id_met m))
  where
    by : (b : Bool) → (cond b (seen k m e) e).id ≡ e.id
    by true = refl
    by false = refl

pub id_stays : (ms : List Met) (n : ℕ) (x : Id) → (one_known ms n x).id ≡ x
id_stays ms zero x = refl
id_stays ms (suc n) x = next_id n (slice_get ms n) x (one_known ms n x) ∙ id_stays ms n x

-- one of the first of some names has the id and is as told
pub record SomeMet (Test : ℕ → Met → Id → Type 0) (ms : List Met) (n : ℕ) (x : Id) : Type 0 where
  pub position : ℕ
  pub name : Met
  pub before : position < n
  pub there : slice_get ms position ≡ Some name
  pub of_id : id_met name ≡ x
  pub told : Test position name x

-- what is known, and what a name must be to make it known
pub record IsToldBy (Flag : Known → Type 0) (Test : ℕ → Met → Id → Type 0) : Type 0 where
  pub not_fresh : (x : Id) → Flag (fresh x) → ⊥
  pub from : (k : ℕ) (m : Met) (e : Known) → Flag (seen k m e) → Flag e ⊎ Test k m e.id
  pub stays : (k : ℕ) (m : Met) (e : Known) → Flag e → Flag (seen k m e)
  pub comes : (k : ℕ) (m : Met) (e : Known) → Test k m e.id → Flag (seen k m e)

module _ (Flag : Known → Type 0) (Test : ℕ → Met → Id → Type 0) (told : IsToldBy Flag Test) where
  one_more : (ms : List Met) (n : ℕ) (x : Id) → SomeMet Test ms n x → SomeMet Test ms (suc n) x
  one_more ms n x s = record { position = s.position; name = s.name; before = omega (arith, s.before); there = s.there; of_id = s.of_id; told = s.told }

  pub was_met : (ms : List Met) (n : ℕ) (x : Id) → Flag (one_known ms n x) → SomeMet Test ms n x
  was_met ms zero x f = absurd (told.not_fresh x f)
  was_met ms (suc n) x f = by (λ g. one_more ms n x (was_met ms n x g)) (slice_get ms n) refl f
    where
      at : (Flag (one_known ms n x) → SomeMet Test ms (suc n) x) → (m : Met) → slice_get ms n ≡ Some m → (b : Bool) → same_id x (id_met m) ≡ b → Flag (cond b (seen n m (one_known ms n x)) (one_known ms n x)) → SomeMet Test ms (suc n) x
      at before m e true s g = ⊎_elim before
          (λ (new : Test n m (one_known ms n x).id). record {
            position = n;
            name = m;
            before = omega arith;
            there = e;
            of_id = sym (one_id x (id_met m) s);
            told = subst (Test n m) (id_stays ms n x) new;
          })
          (told.from n m (one_known ms n x) g)
      at before m e false s g = before g

      by : (Flag (one_known ms n x) → SomeMet Test ms (suc n) x) → (o : Option Met) → slice_get ms n ≡ o → Flag (one_known_next n o x (one_known ms n x)) → SomeMet Test ms (suc n) x
      by before None e g = before g
      by before (Some m) e g = at before m e (same_id x (id_met m)) refl g

  flag_stays : (ms : List Met) (n : ℕ) (x : Id) → Flag (one_known ms n x) → Flag (one_known ms (suc n) x)
  flag_stays ms n x f = by (slice_get ms n)
    where
      at : (m : Met) (b : Bool) → Flag (cond b (seen n m (one_known ms n x)) (one_known ms n x))
      at m true = told.stays n m (one_known ms n x) f
      at m false = f

      by : (o : Option Met) → Flag (one_known_next n o x (one_known ms n x))
      by None = f
      by (Some m) = at m (same_id x (id_met m))

  flag_comes : (ms : List Met) (n : ℕ) (x : Id) (m : Met) → slice_get ms n ≡ Some m → id_met m ≡ x → Test n m x → Flag (one_known ms (suc n) x)
  flag_comes ms n x m e i t =
      subst (λ (o : Option Met). Flag (one_known_next n o x (one_known ms n x))) (sym e)
      (subst (λ (b : Bool). Flag (cond b (seen n m (one_known ms n x)) (one_known ms n x))) (sym (itself x) ∙ ap (same_id x) (sym i))
      (told.comes n m (one_known ms n x) (subst (Test n m) (sym (id_stays ms n x)) t)))

  pub is_known : (ms : List Met) (n : ℕ) (x : Id) → SomeMet Test ms n x → Flag (one_known ms n x)
  is_known ms zero x s = absurd (omega (arith, s.before))
  is_known ms (suc n) x s = ⊎_elim
      (λ (less : s.position < n). flag_stays ms n x (is_known ms n x (record { position = s.position; name = s.name; before = less; there = s.there; of_id = s.of_id; told = s.told })))
      (λ (same : s.position ≡ n). flag_comes ms n x s.name (ap (slice_get ms) (sym same) ∙ s.there) s.of_id (subst (λ k. Test k s.name x) same s.told))
      (before_or_last s.position n s.before)

-- positions
abbrev pub Among : List ℕ → ℕ → Type 0
Among ks k = (i : ℕ) × (slice_get ks i ≡ Some k)

last_among : (ks : List ℕ) (k : ℕ) → Among (ks ++ k ∷ []) k
last_among [] k = (0, refl)
last_among (j ∷ ks) k = let (i, e) = last_among ks k in (suc i, e)

among_or_last : (ks : List ℕ) (k : ℕ) (i j : ℕ) → slice_get (ks ++ k ∷ []) i ≡ Some j → Among ks j ⊎ (k ≡ j)
among_or_last [] k zero j h = inr (some_same h)
among_or_last [] k (suc i) j h = absurd (cc)
among_or_last (a ∷ ks) k zero j h = inl (0, h)
among_or_last (a ∷ ks) k (suc i) j h = ⊎_elim (λ (m : Among ks j). inl (suc m.0, m.1)) (λ (same : k ≡ j). inr same) (among_or_last ks k i j h)

abbrev pub HasPosition : ℕ → Known → Type 0
HasPosition j e = Among e.positions j

abbrev pub NamesAt : ℕ → ℕ → Met → Id → Type 0
NamesAt j k m x = (k ≡ j) × ((is_name m.standing && is_analysed x) ≡ true)

pub positions_told : (j : ℕ) → IsToldBy (HasPosition j) (NamesAt j)
positions_told j = record {
  not_fresh = λ x f. absurd (cc);
  from = λ k m e f. from k e.positions (is_name m.standing && is_analysed e.id) f;
  stays = λ k m e f. stays k e.positions (is_name m.standing && is_analysed e.id) f;
  comes = λ k m e t. comes k e.positions (is_name m.standing && is_analysed e.id) t.0 t.1;
}
  where
    from : (k : ℕ) (ks : List ℕ) (b : Bool) → Among (if b then ks ++ k ∷ [] else ks) j → Among ks j ⊎ ((k ≡ j) × (b ≡ true))
    from k ks true f = ⊎_elim (λ (old : Among ks j). inl old) (λ (new : k ≡ j). inr (new, refl)) (among_or_last ks k f.0 j f.1)
    from k ks false f = inl f

    stays : (k : ℕ) (ks : List ℕ) (b : Bool) → Among ks j → Among (if b then ks ++ k ∷ [] else ks) j
    stays k ks true f = (f.0, still_there ks (k ∷ []) f.0 j f.1)
    stays k ks false f = f

    comes : (k : ℕ) (ks : List ℕ) (b : Bool) → k ≡ j → b ≡ true → Among (if b then ks ++ k ∷ [] else ks) j
    comes k ks true same h = subst (λ i. Among (ks ++ k ∷ []) i) same (last_among ks k)
    comes k ks false same h = absurd (cc)

-- flags
either_so : (a b : Bool) → (a || b) ≡ true → (a ≡ true) ⊎ (b ≡ true)
either_so true b h = inl refl
either_so false b h = inr h

left_so : (a b : Bool) → a ≡ true → (a || b) ≡ true
left_so true b h = refl
left_so false b h = absurd (cc)

right_so : (a b : Bool) → b ≡ true → (a || b) ≡ true
right_so true b h = refl
right_so false b h = h

abbrev pub IsBoundIn : Known → Type 0
IsBoundIn e = e.is_bound ≡ true

abbrev pub Binds : ℕ → Met → Id → Type 0
Binds k m x = is_binding m.standing ≡ true

pub bound_told : IsToldBy IsBoundIn Binds
bound_told = record {
  not_fresh = λ x f. absurd (cc);
  from = λ k m e f. either_so e.is_bound (is_binding m.standing) f;
  stays = λ k m e f. left_so e.is_bound (is_binding m.standing) f;
  comes = λ k m e t. right_so e.is_bound (is_binding m.standing) t;
}

abbrev pub IsOutsideIn : Known → Type 0
IsOutsideIn e = e.stands_outside ≡ true

abbrev pub StandsOutside : ℕ → Met → Id → Type 0
StandsOutside k m x = not m.exported ≡ true

pub outside_told : IsToldBy IsOutsideIn StandsOutside
outside_told = record {
  not_fresh = λ x f. absurd (cc);
  from = λ k m e f. either_so e.stands_outside (not m.exported) f;
  stays = λ k m e f. left_so e.stands_outside (not m.exported) f;
  comes = λ k m e t. right_so e.stands_outside (not m.exported) t;
}
