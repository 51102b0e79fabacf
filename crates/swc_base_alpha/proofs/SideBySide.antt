-- Lists side by side, walked from the front.
use Rattle.std.proofs.Common.{◌≡◌, ℕ, zero, suc, ◌+◌, ◌<◌, ◌≤◌, ⊎_elim, Some, List, [], ◌∷◌, drop, length, get_or, refl, sym, ap, ◌∙◌, subst, arith}
use Rattle.std.specs.List.{slice_get}
use Rattle.std.proofs.lemmas.Option.{slice_get_read}
use Rattle.swc_tree_walk.specs.Sites.{site_of}
use Rattle.swc_tree_walk.specs.declared.identifiers.Site.{Site}
use Rattle.swc_tree_renaming.proofs.Core.{cases_in, head_in, none_in, tail_in}
use Rattle.swc_base_alpha.specs.Side.{Seen}
use Rattle.swc_base_alpha.specs.Pairs.{EachPair, pairs}

same_site : (a b : Site) → Some a ≡ Some b → a ≡ b
same_site a b e = cc

-- what is left from a place on
next_there : (ones others : List Site) (i : ℕ) (x y : Site) → slice_get ones i ≡ Some x → slice_get others i ≡ Some y → drop i (pairs ones others) ≡ (site_of x, site_of y) ∷ drop (suc i) (pairs ones others)
next_there [] others i x y h k = absurd (cc)
next_there (a ∷ ones) [] i x y h k = absurd (cc)
next_there (a ∷ ones) (b ∷ others) zero x y h k = ap (λ q. q ∷ pairs ones others) (λ j. (site_of (same_site a x h j), site_of (same_site b y k j)))
next_there (a ∷ ones) (b ∷ others) (suc i) x y h k = next_there ones others i x y h k

pub pair_at : (ones others : List Site) (i : ℕ) (x y : Site) → i < length ones → i < length others → x ≡ get_or ones i x → y ≡ get_or others i y
    → drop i (pairs ones others) ≡ (site_of x, site_of y) ∷ drop (i + 1) (pairs ones others)
pair_at ones others i x y l m e f =
    let one_more : suc i ≡ i + 1 = omega arith in
    next_there ones others i x y (slice_get_read ones (length ones) i x refl l e) (slice_get_read others (length others) i y refl m f)
    ∙ ap (λ n. (site_of x, site_of y) ∷ drop n (pairs ones others)) one_more

drop_none : (i : ℕ) → drop {A = Seen × Seen} i [] ≡ []
drop_none zero = refl
drop_none (suc i) = refl

pub none_left : (ones others : List Site) (i : ℕ) → length ones ≤ i → drop i (pairs ones others) ≡ []
none_left [] others i h = drop_none i
none_left (a ∷ ones) [] i h = drop_none i
none_left (a ∷ ones) (b ∷ others) zero h = absurd (omega arith)
none_left (a ∷ ones) (b ∷ others) (suc i) h = none_left ones others i (omega arith)

-- each pair
module _ (P : Seen → Seen → Type 0) where
  pub each_none : EachPair P []
  each_none x y h = absurd (none_in (x, y) h)

  pub each_later : (x y : Seen) (ps : List (Seen × Seen)) → EachPair P ((x, y) ∷ ps) → P x y × EachPair P ps
  each_later x y ps h = (h x y (head_in (x, y) ps), λ z w there. h z w (tail_in (x, y) (z, w) ps there))

  pub each_more : (x y : Seen) (ps : List (Seen × Seen)) → P x y → EachPair P ps → EachPair P ((x, y) ∷ ps)
  each_more x y ps here rest z w there = ⊎_elim (λ (same : ◌≡◌ {A = Seen × Seen} (x, y) (z, w)). subst (λ (q : Seen × Seen). P q.0 q.1) same here) (λ later. rest z w later) (cases_in (x, y) (z, w) ps there)

-- a walk over them: what is asked of all is asked of what is left
pub record Left (P : Seen → Seen → Type 0) (ps rest : List (Seen × Seen)) : Type 0 where
  pub forth : EachPair P ps → EachPair P rest
  pub back : EachPair P rest → EachPair P ps

pub all_left : (P : Seen → Seen → Type 0) (ps : List (Seen × Seen)) → Left P ps ps
all_left P ps = record { forth = λ h. h; back = λ h. h }

pub one_less : (P : Seen → Seen → Type 0) (ps rest later : List (Seen × Seen)) (x y : Seen) → rest ≡ (x, y) ∷ later → P x y → Left P ps rest → Left P ps later
one_less P ps rest later x y is here l = record {
  forth = λ h. (each_later P x y later (subst (EachPair P) is (l.forth h))).1;
  back = λ h. l.back (subst (EachPair P) (sym is) (each_more P x y later here h));
}

pub none_so : (P : Seen → Seen → Type 0) (ps rest later : List (Seen × Seen)) (x y : Seen) → rest ≡ (x, y) ∷ later → ¬ P x y → Left P ps rest → ¬ EachPair P ps
none_so P ps rest later x y is none l h = none (each_later P x y later (subst (EachPair P) is (l.forth h))).0

pub all_so : (P : Seen → Seen → Type 0) (ps rest : List (Seen × Seen)) → rest ≡ [] → Left P ps rest → EachPair P ps
all_so P ps rest is l = l.back (subst (EachPair P) (sym is) (each_none P))
