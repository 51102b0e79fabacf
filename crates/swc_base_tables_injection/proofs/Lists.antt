-- Lists of nodes, as they are walked one after another.
use Rattle.std.proofs.Common.{◌≡◌, ℕ, zero, suc, ◌+◌, ◌<◌, Some, List, [], ◌∷◌, ◌++◌, length, map, get_or, take, drop, sym, ap, ◌∙◌, arith, add-one}
use Rattle.std.proofs.lemmas.List.{map-append, take_more}
use Rattle.std.specs.List.{slice_get, slice_set}
use Rattle.swc_tree_node.specs.declared.node.Node.{Node}
use Rattle.swc_base_tables_injection.specs.declared.members.Seat.{Seat}
use Rattle.swc_base_tables_injection.specs.Members.{membered}
use Rattle.swc_base_tables_injection.specs.Walk.{each_membered}

done_at : (m : ℕ) (ps : ℕ → Seat) (ts : List Node) (i : ℕ) (d x : Node) → i < length ts → slice_get (each_membered m ps (take i ts) ++ drop i ts) i ≡ Some x
    → slice_set (slice_set (each_membered m ps (take i ts) ++ drop i ts) i d) i (membered m (ps i) x) ≡ each_membered m ps (take (suc i) ts) ++ drop (suc i) ts
done_at m ps [] i d x h g = absurd (omega arith)
done_at m ps (t ∷ ts) zero d x h g = let same : t ≡ x = cc in ap (λ u. membered m (ps zero) u ∷ ts) (sym same)
done_at m ps (t ∷ ts) (suc i) d x h g = ap (λ l. membered m (ps zero) t ∷ l) (done_at m (λ i. ps (suc i)) ts i d x (omega arith) g)

pub one_more : (m : ℕ) (ps : ℕ → Seat) (ts ys zs ws : List Node) (i : ℕ) (d x y : Node) (p : Seat) → i < length ts
    → ys ≡ each_membered m ps (take i ts) ++ drop i ts → slice_get ys i ≡ Some x → zs ≡ slice_set ys i d → ws ≡ slice_set zs i y
    → p ≡ ps i → y ≡ membered m p x → ws ≡ each_membered m ps (take (i + 1) ts) ++ drop (i + 1) ts
one_more m ps ts ys zs ws i d x y p h was here out back at new =
    back ∙ rw (out, new, at, was, add-one) (done_at m ps ts i d x h (rw (← was) here))

-- a loop that makes one more of each
pub one_pushed : {A B : Type 0} (f : A → B) (xs : List A) (ys zs : List B) (i : ℕ) (x : A) (y : B) → i < length xs → ys ≡ map f (take i xs) → x ≡ get_or xs i x
    → y ≡ f x → zs ≡ ys ++ y ∷ [] → zs ≡ map f (take (i + 1) xs)
one_pushed f xs ys zs i x y h was here new pushed =
    let more : map f (take (i + 1) xs) ≡ map f (take i xs) ++ f (get_or xs i x) ∷ [] = ap (map f) (take_more xs i x h) ∙ map-append f (take i xs) (get_or xs i x ∷ []) in
    let same : f (get_or xs i x) ≡ y = ap f (sym here) ∙ sym new in
    pushed ∙ ap (λ l. l ++ y ∷ []) was ∙ ap (λ z. map f (take i xs) ++ z ∷ []) (sym same) ∙ sym more
