-- The walk over the children of a node, one after another: each is taken out, and what it became is put back.
use Rattle.std.proofs.Common.{◌≡◌, ℕ, zero, suc, ◌+◌, ◌<◌, ◌≤◌, Bool, true, false, ◌⊎◌, inl, inr, Some, Result, Ok, Err, IfOk, IfErr, List, [], ◌∷◌, length, refl, sym, ap, ◌∙◌, subst, arith}
use Rattle.std.specs.List.{slice_get, slice_set}
use Rattle.std.proofs.lemmas.Option.{slice_get_within}
use Rattle.swc_tree_marks.specs.declared.error.PassError.{PassError}
use Rattle.swc_tree_node.specs.declared.node.Node.{Node, out-Node}
use Rattle.swc_base_rename_substitution.specs.Room.{FitsAs}
use Rattle.swc_base_rename_units.specs.declared.units.Above.{Above}
use Rattle.swc_base_rename_units.specs.Eval.{HasEval}
use Rattle.swc_base_rename_units.specs.Units.{HasUnits, RefusesUnit}
use Rattle.swc_base_rename_units.specs.Walk.{AreNamedTo, EachBecomes, IsChildNamed, RefusesBefore, RefusesChild, RefusesEach, is_unit_at}

-- what stands at a number once another is put there
set_here : (ts : List Node) (i : ℕ) (t : Node) → i < length ts → slice_get (slice_set ts i t) i ≡ Some t
set_here [] i t l = absurd (omega (arith, l))
set_here (x ∷ ts) zero t l = refl
set_here (x ∷ ts) (suc i) t l = set_here ts i t (omega (arith, l))

set_elsewhere : (ts : List Node) (i k : ℕ) (t : Node) → (k ≡ i → ⊥) → slice_get (slice_set ts i t) k ≡ slice_get ts k
set_elsewhere [] i k t n = refl
set_elsewhere (x ∷ ts) zero zero t n = absurd (n refl)
set_elsewhere (x ∷ ts) zero (suc k) t n = refl
set_elsewhere (x ∷ ts) (suc i) zero t n = refl
set_elsewhere (x ∷ ts) (suc i) (suc k) t n = set_elsewhere ts i k t (λ e. n (ap suc e))

set_length : (ts : List Node) (i : ℕ) (t : Node) → length (slice_set ts i t) ≡ length ts
set_length [] i t = refl
set_length (x ∷ ts) zero t = refl
set_length (x ∷ ts) (suc i) t = ap suc (set_length ts i t)

-- those before a number are done, and the others are as they were
abbrev pub DoneTo : (Node → Node → Type 0) → Above → List Node → List Node → ℕ → Type 0
DoneTo becomes above ts us i = (k : ℕ) (c : Node) → k < i → slice_get ts k ≡ Some c → (d : Node) × (slice_get us k ≡ Some d) × IsChildNamed becomes (is_unit_at above k (out-Node c)) c d

abbrev pub SameFrom : List Node → List Node → ℕ → Type 0
SameFrom ts us i = (k : ℕ) → i ≤ k → slice_get us k ≡ slice_get ts k

pub parted : (k i : ℕ) → k ≤ i → (k < i) ⊎ (k ≡ i)
parted k i h = grind arith

module _ (ts ys zs ws : List Node) (i : ℕ) (off x y : Node) (taken : slice_get ys i ≡ Some x) (out : zs ≡ slice_set ys i off) (back : ws ≡ slice_set zs i y) where
  put : ws ≡ slice_set (slice_set ys i off) i y
  put = back ∙ ap (λ l. slice_set l i y) out

  pub put_here : slice_get ws i ≡ Some y
  put_here = ap (λ l. slice_get l i) put ∙ set_here (slice_set ys i off) i y (subst (λ n. i < n) (sym (set_length ys i off)) (slice_get_within ys i x taken))

  pub put_elsewhere : (k : ℕ) → (k ≡ i → ⊥) → slice_get ws k ≡ slice_get ys k
  put_elsewhere k n = ap (λ l. slice_get l k) put ∙ set_elsewhere (slice_set ys i off) i k y n ∙ set_elsewhere ys i k off n

  pub put_length : length ws ≡ length ys
  put_length = ap length put ∙ set_length (slice_set ys i off) i y ∙ set_length ys i off

  pub one_same : SameFrom ts ys i → SameFrom ts ws (i + 1)
  one_same same k l = put_elsewhere k (λ e. omega (arith, e, l)) ∙ same k (omega (arith, l))

  pub one_done : (becomes : Node → Node → Type 0) (above : Above) → DoneTo becomes above ts ys i → SameFrom ts ys i
      → (is_unit : Bool) → is_unit ≡ is_unit_at above i (out-Node x) → IsChildNamed becomes is_unit x y → DoneTo becomes above ts ws (i + 1)
  one_done becomes above done same is_unit test named k c l there = by (parted k i (omega (arith, l)))
    where
      by : (k < i) ⊎ (k ≡ i) → (d : Node) × (slice_get ws k ≡ Some d) × IsChildNamed becomes (is_unit_at above k (out-Node c)) c d
      by (inl before) = let d = done k c before there in (d.0, put_elsewhere k (λ e. omega (arith, e, before)) ∙ d.1, d.2)
      by (inr here) =
          let found : slice_get ts i ≡ Some c = subst (λ k. slice_get ts k ≡ Some c) here there in
          let was : Some x ≡ Some c = sym taken ∙ same i (omega arith) ∙ found in
          let one : x ≡ c = cc in
          let now : IsChildNamed becomes (is_unit_at above i (out-Node x)) x y = subst (λ b. IsChildNamed becomes b x y) test named in
          (y, ap (slice_get ws) here ∙ put_here, subst (λ k. IsChildNamed becomes (is_unit_at above k (out-Node c)) c y) (sym here) (subst (λ c. IsChildNamed becomes (is_unit_at above i (out-Node c)) c y) one now))

-- all of them
pub each_named : (becomes : Node → Node → Type 0) (above : Above) (ts us : List Node) (end : ℕ) → length ts ≤ end → AreNamedTo becomes above end ts us → EachBecomes becomes above ts us
each_named becomes above ts us end all h = record { as_many = h.as_many; each = λ k c there. h.done k c (before k c there) there }
  where
    before : (k : ℕ) (c : Node) → slice_get ts k ≡ Some c → k < end
    before k c there = let l : k < length ts = slice_get_within ts k c there in omega (arith, l, all)

-- one that is refused
pub one_refused : (refuses : Node → PassError → Type 0) (above : Above) (ts ys : List Node) (i end : ℕ) (x : Node) (e : PassError) → i < end → slice_get ys i ≡ Some x → SameFrom ts ys i
    → (is_unit : Bool) → is_unit ≡ is_unit_at above i (out-Node x) → RefusesChild refuses is_unit x e → RefusesBefore refuses above end ts e
one_refused refuses above ts ys i end x e l taken same is_unit test why = (i, x, l, sym (same i (omega arith)) ∙ taken, subst (λ b. RefusesChild refuses b x e) test why)

-- a unit that is renamed alone
pub named_alone : (becomes : Node → Node → Type 0) (is_unit : Bool) (before : Node) (r : Result Node PassError) → is_unit ≡ true → (HasEval before → ⊥) → IfOk r (becomes before) → IfOk r (FitsAs before)
    → IfOk r (IsChildNamed becomes is_unit before)
named_alone becomes is_unit before (Ok after) unit free made fits = record { alone = λ u n. made; below = λ h. absurd (free (h unit)); fits = fits }
named_alone becomes is_unit before (Err e) unit free made fits = tt

pub refused_alone : (refuses : Node → PassError → Type 0) (is_unit : Bool) (before : Node) (r : Result Node PassError) → is_unit ≡ true → (HasEval before → ⊥) → IfErr r (refuses before)
    → IfErr r (RefusesChild refuses is_unit before)
refused_alone refuses is_unit before (Ok after) unit free why = tt
refused_alone refuses is_unit before (Err e) unit free why = inl (unit, free, why)

-- a child that is none and has no reader has its units named
pub named_below : (becomes : Node → Node → Type 0) (is_unit : Bool) (before after : Node) → is_unit ≡ false → HasUnits becomes before after → FitsAs before after → IsChildNamed becomes is_unit before after
named_below becomes is_unit before after none named fits = record { alone = λ u n. absurd (cc); below = λ h. named; fits = fits }

pub refused_below : (refuses : Node → PassError → Type 0) (is_unit : Bool) (before : Node) (e : PassError) → is_unit ≡ false → RefusesUnit refuses before e → RefusesChild refuses is_unit before e
refused_below refuses is_unit before e none why = inr ((λ u. absurd (cc)), why)

-- one that is none, whole
pub whole_named : (becomes : Node → Node → Type 0) (before after : Node) → IsChildNamed becomes false before after → HasUnits becomes before after
whole_named becomes before after h = h.below (λ u. absurd (cc))

pub whole_refused : (refuses : Node → PassError → Type 0) (before : Node) (e : PassError) → RefusesChild refuses false before e → RefusesUnit refuses before e
whole_refused refuses before e (inl h) = let never : false ≡ true = h.0 in absurd (cc)
whole_refused refuses before e (inr h) = h.1

pub each_refused : (refuses : Node → PassError → Type 0) (above : Above) (ts : List Node) (end : ℕ) (e : PassError) → RefusesBefore refuses above end ts e → RefusesEach refuses above ts e
each_refused refuses above ts end e (i, c, l, there, why) = (i, c, there, why)
