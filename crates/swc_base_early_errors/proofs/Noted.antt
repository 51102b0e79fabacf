-- One claim more that is noted.
use Rattle.std.proofs.Common.{◌≡◌, ℕ, zero, suc, Bool, true, false, IsTrue, ◌⊎◌, ◌↔◌, inl, inr, ⊎_elim, Option, Some, None, List, [], ◌∷◌, ◌||◌, length, refl, sym, ap, ◌∙◌, subst, arith, cond}
use Rattle.std.specs.BTreeMap.{get_by_text}
use Rattle.std.specs.List.{slice_get, slice_set}
use Rattle.std.specs.Str.{bytes_eq}
use Rattle.std.proofs.lemmas.Slice.Eq.{bytes_eq-Decides}
use Rattle.swc_tree_scoping.specs.Places.{Path}
use Rattle.swc_base_early_errors.specs.declared.claims.Claim.{Claim}
use Rattle.swc_base_early_errors.specs.declared.claims.ClaimedNames.{ClaimedNames}
use Rattle.swc_base_early_errors.specs.Claims.{Clashes, GivenClaim, IsNoted, Meets, Notes, OneClaim, Twice, Walked, note_in, note_of}
use Rattle.swc_base_early_errors.proofs.Walked.{walked_none}

set_here : {A : Type 0} (xs : List A) (n : ℕ) (s y : A) → slice_get xs n ≡ Some s → slice_get (slice_set xs n y) n ≡ Some y
set_here [] n s y h = absurd (cc)
set_here (x ∷ xs) zero s y h = refl
set_here (x ∷ xs) (suc n) s y h = set_here xs n s y h

set_there : {A : Type 0} (xs : List A) (n k : ℕ) (y : A) → (k ≡ n → ⊥) → slice_get (slice_set xs n y) k ≡ slice_get xs k
set_there [] n k y ne = refl
set_there (x ∷ xs) zero zero y ne = absurd (ne refl)
set_there (x ∷ xs) zero (suc k) y ne = refl
set_there (x ∷ xs) (suc n) zero y ne = refl
set_there (x ∷ xs) (suc n) (suc k) y ne = set_there xs n k y (λ e. ne (ap suc e))

pub same_or_not : (k n : ℕ) → (k ≡ n) ⊎ (k ≡ n → ⊥)
same_or_not zero zero = inl refl
same_or_not zero (suc n) = inr (λ e. omega (arith, e))
same_or_not (suc k) zero = inr (λ e. omega (arith, e))
same_or_not (suc k) (suc n) = ⊎_elim (λ e. inl (ap suc e)) (λ ne. inr (λ e. ne (omega (arith, e)))) (same_or_not k n)

one_flag : (a b : Bool) → Some a ≡ Some b → b ≡ a
one_flag a b e = cc

one_claim : (c d : Claim) → d.scope ≡ c.scope → d.alone ≡ c.alone → d ≡ c
one_claim c d e f = ap (λ k. record { scope = k; alone = d.alone }) e ∙ ap (λ a. record { scope = c.scope; alone = a }) f

no_flag : (o : Option Bool) (a : Bool) → o ≡ None → o ≡ Some a → ⊥
no_flag o a e f = let z : None ≡ Some a = sym e ∙ f in absurd (cc)

not_false : (b : Bool) → b ≡ false → IsTrue b → ⊥
not_false b e h = let z : false ≡ true = sym e ∙ h in absurd (cc)

module _ (old new : List ClaimedNames) (c : Claim) (s y : ClaimedNames) (name : List ℕ) (here : slice_get old c.scope ≡ Some s) (is : new ≡ slice_set old c.scope y)
    (more : (x : List ℕ) → get_by_text y.names x ≡ cond (bytes_eq name x) (Some c.alone) (get_by_text s.names x)) (free : note_in old c.scope name ≡ None) where
  now_there : (k : ℕ) (x : List ℕ) → k ≡ c.scope → note_in new k x ≡ cond (bytes_eq name x) (Some c.alone) (note_in old c.scope x)
  now_there k x e =
      ap (λ k. note_in new k x) e ∙ ap (λ l. note_in l c.scope x) is ∙ ap (λ o. note_of o x) (set_here old c.scope s y here) ∙ more x
      ∙ ap (cond (bytes_eq name x) (Some c.alone)) (sym (ap (λ o. note_of o x) here))

  there : (d : Claim) (x : List ℕ) (b : Bool) → bytes_eq name x ≡ b → d.scope ≡ c.scope → IsNoted new d x ↔ (IsNoted old d x ⊎ ((p : Path) × OneClaim c name p d x))
  there d x true e at =
      let same : name ≡ x = (bytes_eq-Decides name x).0 (rw e refl) in
      let now : note_in new d.scope x ≡ Some c.alone = now_there d.scope x at ∙ ap (λ b. cond b (Some c.alone) (note_in old c.scope x)) e in (
        λ h. inr ([], (refl, one_claim c d at (one_flag c.alone d.alone (sym now ∙ h)), same)),
        λ h. ⊎_elim (λ a. absurd (no_flag (note_in old c.scope name) d.alone free (ap (note_in old c.scope) same ∙ ap (λ k. note_in old k x) (sym at) ∙ a))) (λ a. now ∙ ap (λ (z : Claim). Some z.alone) (sym a.1.1)) h,
      )
  there d x false e at =
      let now : note_in new d.scope x ≡ note_in old d.scope x = now_there d.scope x at ∙ ap (λ b. cond b (Some c.alone) (note_in old c.scope x)) e ∙ ap (λ k. note_in old k x) (sym at) in (
        λ h. inl (sym now ∙ h),
        λ h. ⊎_elim (λ a. now ∙ a) (λ a. absurd (not_false (bytes_eq name x) e ((bytes_eq-Decides name x).1 a.1.2))) h,
      )

  elsewhere : (d : Claim) (x : List ℕ) → (d.scope ≡ c.scope → ⊥) → IsNoted new d x ↔ (IsNoted old d x ⊎ ((p : Path) × OneClaim c name p d x))
  elsewhere d x ne =
      let alike : note_in new d.scope x ≡ note_in old d.scope x = ap (λ l. note_in l d.scope x) is ∙ ap (λ o. note_of o x) (set_there old c.scope d.scope y ne) in
      (λ h. inl (sym alike ∙ h), λ h. ⊎_elim (λ a. alike ∙ a) (λ a. absurd (ne (ap (λ (z : Claim). z.scope) a.1.1))) h)

  pub noted_besides : Notes old new (OneClaim c name)
  noted_besides d x = ⊎_elim (there d x (bytes_eq name x) refl) (elsewhere d x) (same_or_not d.scope c.scope)

-- what a claim that is given is: where something is noted of its name, and where nothing is
or_alone : (a b : Bool) → a ≡ true → IsTrue (a || b)
or_alone true b e = refl
or_alone false b e = absurd (cc)

or_other : (a b : Bool) → a ≡ false → b ≡ true → IsTrue (a || b)
or_other true b e f = absurd (cc)
or_other false b e f = f

neither : (a b : Bool) → a ≡ false → b ≡ false → IsTrue (a || b) → ⊥
neither true b e f h = absurd (cc)
neither false b e f h = let z : false ≡ true = sym f ∙ h in absurd (cc)

module _ (old : List ClaimedNames) (c : Claim) (name : List ℕ) where
  clash_there : (a : Bool) → note_in old c.scope name ≡ Some a → IsTrue (a || c.alone) → Clashes old (OneClaim c name)
  clash_there a noted h = inl (record { path = []; old = record { scope = c.scope; alone = a }; claim = c; name = name; noted = noted; claims = (refl, refl, refl); clash = (refl, h) })

  one_there : Twice (OneClaim c name) → ⊥
  one_there t = t.apart (t.one.0 ∙ sym t.two.0)

  clash_note : (k : Meets old (OneClaim c name)) → note_in old c.scope name ≡ Some k.old.alone
  clash_note k = ap (note_in old c.scope) k.claims.2 ∙ ap (λ z. note_in old z k.name) (sym (k.clash.0 ∙ ap (λ (d : Claim). d.scope) k.claims.1)) ∙ k.noted

  walked_beside : (a : Bool) → note_in old c.scope name ≡ Some a → a ≡ false → c.alone ≡ false → Walked false old old 0 (OneClaim c name)
  walked_beside a noted e f = (
    omega arith,
    λ d x. (
      λ h. inl h,
      λ h. ⊎_elim (λ k. k)
          (λ k.
          ap (λ (z : Claim). note_in old z.scope x) k.1.1 ∙ ap (note_in old c.scope) (sym k.1.2) ∙ noted ∙ ap (λ b. Some b) (e ∙ sym f ∙ ap (λ (z : Claim). z.alone) (sym k.1.1))) h,
    ),
    λ h. ⊎_elim
        (λ k. neither k.old.alone k.claim.alone (one_flag a k.old.alone (sym noted ∙ clash_note k) ∙ e) (ap (λ (d : Claim). d.alone) k.claims.1 ∙ f) k.clash.1) one_there h,
  )

  pub newly_walked : (new : List ClaimedNames) → note_in old c.scope name ≡ None → length new ≡ length old → Notes old new (OneClaim c name) → Walked false old new 0 (OneClaim c name)
  newly_walked new free size notes = (omega (arith, size), notes, λ h. ⊎_elim (λ k. no_flag (note_in old c.scope name) k.old.alone free (clash_note k)) one_there h)

  pub noted_alone : (a : Bool) → note_in old c.scope name ≡ Some a → a ≡ true → Walked a old old 0 (OneClaim c name)
  noted_alone a noted e = subst (λ b. Walked b old old 0 (OneClaim c name)) (sym e) (clash_there a noted (or_alone a c.alone e))

  pub noted_beside : (a : Bool) → note_in old c.scope name ≡ Some a → a ≡ false → Walked c.alone old old 0 (OneClaim c name)
  noted_beside a noted e = at c.alone refl
    where
      at : (b : Bool) → c.alone ≡ b → Walked b old old 0 (OneClaim c name)
      at true f = clash_there a noted (or_other a c.alone e f)
      at false f = walked_beside a noted e f

-- the same where a claim is given
pub given_walked : (o : Option Claim) (c : Claim) (name : List ℕ) (b : Bool) (old new : List ClaimedNames) → o ≡ Some c → Walked b old new 0 (OneClaim c name) → Walked b old new 0 (GivenClaim o name)
given_walked o c name b old new e h = subst (λ o. Walked b old new 0 (GivenClaim o name)) (sym e) h

pub none_walked : (o : Option Claim) (name : List ℕ) (old : List ClaimedNames) → o ≡ None → Walked false old old 0 (GivenClaim o name)
none_walked o name old e = subst (λ o. Walked false old old 0 (GivenClaim o name)) (sym e) (walked_none old (GivenClaim None name) (λ p d x h. h))
