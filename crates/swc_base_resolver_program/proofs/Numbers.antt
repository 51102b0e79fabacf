-- The scopes have the numbers from 0 on, one each.
use Rattle.std.proofs.Common.{◌≡◌, ℕ, zero, suc, ◌+◌, ◌-◌, ◌<◌, Bool, true, false, IsTrue, ◌⊎◌, inl, inr, ⊎_elim, Option, Some, None, List, [], ◌∷◌, take, refl, sym, ap, ◌∙◌, subst, arith}
use Rattle.std.specs.List.{slice_get}
use Rattle.std.specs.Option.{is_some}
use Rattle.std.proofs.lemmas.Bool.{cases_lt}
use Rattle.swc_tree_node.specs.declared.node.Node.{Node, out-Node}
use Rattle.swc_tree_scoping.specs.declared.places.Place.{Place}
use Rattle.swc_tree_scoping.specs.declared.places.Scope.{Scope}
use Rattle.swc_tree_scoping.specs.Places.{Path, children_in, child, given, opened, place_below}
use Rattle.swc_tree_scoping.specs.Folds.{each_in}
use Rattle.swc_tree_scoping.specs.Scopes.{scope_at, one_if, total, scope_count}
use Rattle.swc_tree_scoping.proofs.Under.{by_children, scope_under, no_scope_under}
use Rattle.swc_base_resolver_program.specs.Walks.{before, number}
use Rattle.swc_base_resolver_program.proofs.Counted.{count_out, total_part, total_more}

abbrev pub OpensAt : Place → Node → Path → Type 0
OpensAt r t s = IsTrue (is_some (scope_at r t s))

number_under : (r : Place) (t c : Node) (i : ℕ) (s : Path) → child t i ≡ Some c → number r t (i ∷ s) ≡ before r t i + number (place_below r t i) c s
number_under r t c i s h = ap (λ o. before r t i + given o 0 (λ c. number (place_below r t i) c s)) h

opens_under : (r : Place) (t c : Node) (i : ℕ) (s : Path) → child t i ≡ Some c → OpensAt r t (i ∷ s) → OpensAt (place_below r t i) c s
opens_under r t c i s h o = subst (λ z. IsTrue (is_some z)) (scope_under r t c i s h) o

none_opens : (r : Place) (t : Node) (i : ℕ) (s : Path) → child t i ≡ None → OpensAt r t (i ∷ s) → ⊥
none_opens r t i s h o = let q = subst (λ (z : Option Scope). IsTrue (is_some z)) (no_scope_under r t i s h) o in grind (arith, q)

one_at : (b : Bool) → IsTrue b → one_if b ≡ 1
one_at true h = refl
one_at false h = absurd (grind arith)

pub number_less : (s : Path) (r : Place) (t : Node) → OpensAt r t s → number r t s < scope_count r t
number_less [] r t o = let a = count_out r t in let b = one_at (is_some (opened r t)) o in omega (arith, a, b)
number_less (i ∷ s) r t o = at (child t i) refl (λ c. number_less s (place_below r t i) c)
  where
    at : (f : Option Node) → child t i ≡ f → ((c : Node) → OpensAt (place_below r t i) c s → number (place_below r t i) c s < scope_count (place_below r t i) c) → number r t (i ∷ s) < scope_count r t
    at None h below = absurd (none_opens r t i s h o)
    at (Some c) h below =
        let a = count_out r t in
        let b = below c (opens_under r t c i s h o) in
        let d = total_part (place_below r t) (children_in (out-Node t)) i c h in
        let e = number_under r t c i s h in
        omega (arith, a, b, d, e)

apart : (r : Place) (t c : Node) (i j : ℕ) (s u : Path) → i < j → child t i ≡ Some c → OpensAt (place_below r t i) c s → number r t (i ∷ s) ≡ number r t (j ∷ u) → ⊥
apart r t c i j s u l h o e =
    let a = number_less s (place_below r t i) c o in
    let b = total_more (place_below r t) (children_in (out-Node t)) i j c h l in
    let d = number_under r t c i s h in
    omega (arith, a, b, d, e)

which : (i j : ℕ) → (i < j) ⊎ ((j < i) ⊎ (i ≡ j))
which zero zero = inr (inr refl)
which zero (suc j) = inl (omega arith)
which (suc i) zero = inr (inl (omega arith))
which (suc i) (suc j) = ⊎_elim (λ a. inl (omega (arith, a))) (λ b. ⊎_elim (λ a. inr (inl (omega (arith, a)))) (λ a. inr (inr (ap suc a))) b) (which i j)

-- no two scopes have one number
pub one_number : (s u : Path) (r : Place) (t : Node) → OpensAt r t s → OpensAt r t u → number r t s ≡ number r t u → s ≡ u
one_number [] [] r t o q e = refl
one_number [] (i ∷ u) r t o q e = let b = one_at (is_some (opened r t)) o in absurd (omega (arith, b, e))
one_number (i ∷ s) [] r t o q e = let b = one_at (is_some (opened r t)) q in absurd (omega (arith, b, e))
one_number (i ∷ s) (j ∷ u) r t o q e = at (child t i) (child t j) refl refl (λ c. one_number s u (place_below r t i) c)
  where
    same : (c : Node) → child t i ≡ Some c → i ≡ j → ((c : Node) → OpensAt (place_below r t i) c s → OpensAt (place_below r t i) c u → number (place_below r t i) c s ≡ number (place_below r t i) c u → s ≡ u) → i ∷ s ≡ j ∷ u
    same c h k below =
        let q2 : OpensAt r t (i ∷ u) = subst (λ j. OpensAt r t (j ∷ u)) (sym k) q in
        let e2 : number r t (i ∷ s) ≡ number r t (i ∷ u) = e ∙ ap (λ j. number r t (j ∷ u)) (sym k) in
        let a = number_under r t c i s h in
        let b = number_under r t c i u h in
        rw (k, below c (opens_under r t c i s h o) (opens_under r t c i u h q2) (omega (arith, a, b, e2))) refl

    at : (f g : Option Node) → child t i ≡ f → child t j ≡ g → ((c : Node) → OpensAt (place_below r t i) c s → OpensAt (place_below r t i) c u → number (place_below r t i) c s ≡ number (place_below r t i) c u → s ≡ u) → i ∷ s ≡ j ∷ u
    at None g h k below = absurd (none_opens r t i s h o)
    at (Some c) None h k below = absurd (none_opens r t j u k q)
    at (Some c) (Some d) h k below =
        ⊎_elim (λ l. absurd (apart r t c i j s u l h (opens_under r t c i s h o) e))
        (λ m. ⊎_elim (λ l. absurd (apart r t d j i u s l k (opens_under r t d j u k q) (sym e))) (λ l. same c h l below) m) (which i j)

-- each number below the count is that of a scope
abbrev Within : (ℕ → Place) → List Node → ℕ → Type 0
Within places ts m = (i : ℕ) × (c : Node) × (k : ℕ) × (slice_get ts i ≡ Some c) × (k < scope_count (places i) c) × (total (each_in scope_count places (take i ts)) + k ≡ m)

within_later : (places : ℕ → Place) (t : Node) (ts : List Node) (m n : ℕ) → Within (λ i. places (suc i)) ts n → scope_count (places zero) t + n ≡ m → Within places (t ∷ ts) m
within_later places t ts m n (i, c, k, h, l, e) f = (suc i, c, k, h, l, omega (arith, e, f))

within : (places : ℕ → Place) (ts : List Node) (m : ℕ) → m < total (each_in scope_count places ts) → Within places ts m
within places [] m l = absurd (omega arith)
within places (t ∷ ts) m l =
    ⊎_elim (λ a. (zero, t, m, refl, a, omega arith))
    (λ a. let rest : ℕ = m - scope_count (places zero) t in within_later places t ts m rest (within (λ i. places (suc i)) ts rest (omega (arith, l, a))) (omega (arith, a)))
    (cases_lt m (scope_count (places zero) t))

abbrev Numbered : Place → Node → ℕ → Type 0
Numbered r t n = (s : Path) × OpensAt r t s × (number r t s ≡ n)

numbered_under : (r : Place) (t : Node) (m n : ℕ) → (w : Within (place_below r t) (children_in (out-Node t)) m) → one_if (is_some (opened r t)) + m ≡ n → Numbered (place_below r t w.0) w.1 w.2 → Numbered r t n
numbered_under r t m n (i, c, k, h, l, e) f (s, o, g) =
    (i ∷ s, subst (λ z. IsTrue (is_some z)) (sym (scope_under r t c i s h)) o, let u = number_under r t c i s h in omega (arith, u, e, f, g))

numbered_at : (r : Place) (t : Node) → ((i : ℕ) (c : Node) → child t i ≡ Some c → (r : Place) (n : ℕ) → n < scope_count r c → Numbered r c n) → (n : ℕ) → n < scope_count r t → (b : Bool) → is_some (opened r t) ≡ b → Numbered r t n
numbered_at r t below n l false e =
    let a = count_out r t in
    let f : one_if (is_some (opened r t)) ≡ 0 = ap one_if e in
    let w = within (place_below r t) (children_in (out-Node t)) n (omega (arith, a, f, l)) in
    numbered_under r t n n w (omega (arith, f)) (below w.0 w.1 w.3 (place_below r t w.0) w.2 w.4)
numbered_at r t below zero l true e = ([], e, refl)
numbered_at r t below (suc n) l true e =
    let a = count_out r t in
    let f : one_if (is_some (opened r t)) ≡ 1 = ap one_if e in
    let w = within (place_below r t) (children_in (out-Node t)) n (omega (arith, a, f, l)) in
    numbered_under r t n (suc n) w (omega (arith, f)) (below w.0 w.1 w.3 (place_below r t w.0) w.2 w.4)

pub scope_numbered : (t : Node) (r : Place) (n : ℕ) → n < scope_count r t → Numbered r t n
scope_numbered = by_children (λ t. (r : Place) (n : ℕ) → n < scope_count r t → Numbered r t n) (λ t below r n l. numbered_at r t below n l (is_some (opened r t)) refl)
