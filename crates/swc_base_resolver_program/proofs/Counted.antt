-- How many scopes a node has, by its children.
use Rattle.std.proofs.Common.{◌≡◌, ℕ, zero, suc, ◌+◌, ◌<◌, ◌≤◌, Some, List, [], ◌∷◌, take, refl, ap, arith, add-one}
use Rattle.std.specs.List.{slice_get}
use Rattle.std.specs.Option.{is_some}
use Rattle.swc_tree_node.specs.declared.node.Node.{Node, out-Node}
use Rattle.swc_tree_scoping.specs.declared.places.Place.{Place}
use Rattle.swc_tree_scoping.specs.Places.{children_in, opened, place_below}
use Rattle.swc_tree_scoping.specs.Folds.{each_in}
use Rattle.swc_tree_scoping.specs.Scopes.{one_if, total, scope_count}
use Rattle.swc_tree_scoping.proofs.Under.{fold_in_place_out}

pub count_out : (w : Place) (t : Node) → scope_count w t ≡ one_if (is_some (opened w t)) + total (each_in scope_count (place_below w t) (children_in (out-Node t)))
count_out w t = fold_in_place_out (λ w t counts. one_if (is_some (opened w t)) + total counts) w t

pub each_in-take : {X A : Type 0} (g : Place → X → A) (places : ℕ → Place) (xs : List X) (i : ℕ) → each_in g places (take i xs) ≡ take i (each_in g places xs)
each_in-take g places xs zero = refl
each_in-take g places [] (suc i) = refl
each_in-take g places (x ∷ xs) (suc i) = ap (λ l. g (places zero) x ∷ l) (each_in-take g (λ i. places (suc i)) xs i)

-- those of the children before one, and its own
pub total_next : (places : ℕ → Place) (ts : List Node) (i : ℕ) (c : Node) → slice_get ts i ≡ Some c
    → total (each_in scope_count places (take (i + 1) ts)) ≡ total (each_in scope_count places (take i ts)) + scope_count (places i) c
total_next places ts i c h = rw add-one (next places ts i h)
  where
    next : (places : ℕ → Place) (ts : List Node) (i : ℕ) → slice_get ts i ≡ Some c → total (each_in scope_count places (take (suc i) ts)) ≡ total (each_in scope_count places (take i ts)) + scope_count (places i) c
    next places [] i h = absurd (cc)
    next places (t ∷ ts) zero h = let same : t ≡ c = cc in let e = ap (scope_count (places zero)) same in omega (arith, e)
    next places (t ∷ ts) (suc i) h = let r = next (λ i. places (suc i)) ts i h in omega (arith, r)

pub total_part : (places : ℕ → Place) (ts : List Node) (i : ℕ) (c : Node) → slice_get ts i ≡ Some c
    → total (each_in scope_count places (take i ts)) + scope_count (places i) c ≤ total (each_in scope_count places ts)
total_part places [] i c h = absurd (cc)
total_part places (t ∷ ts) zero c h = let same : t ≡ c = cc in let e = ap (scope_count (places zero)) same in omega (arith, e)
total_part places (t ∷ ts) (suc i) c h = let r = total_part (λ i. places (suc i)) ts i c h in omega (arith, r)

pub total_more : (places : ℕ → Place) (ts : List Node) (i j : ℕ) (c : Node) → slice_get ts i ≡ Some c → i < j
    → total (each_in scope_count places (take i ts)) + scope_count (places i) c ≤ total (each_in scope_count places (take j ts))
total_more places [] i j c h l = absurd (cc)
total_more places (t ∷ ts) i zero c h l = absurd (omega arith)
total_more places (t ∷ ts) zero (suc j) c h l = let same : t ≡ c = cc in let e = ap (scope_count (places zero)) same in omega (arith, e)
total_more places (t ∷ ts) (suc i) (suc j) c h l = let r = total_more (λ i. places (suc i)) ts i j c h (omega arith) in omega (arith, r)
