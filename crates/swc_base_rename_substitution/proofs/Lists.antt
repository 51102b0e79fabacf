-- Lists of nodes, as they are substituted one after another.
use Rattle.std.proofs.Common.{◌≡◌, ℕ, zero, suc, ◌+◌, ◌<◌, Bool, true, false, ◌||◌, Option, Some, List, [], ◌∷◌, ◌++◌, length, map, take, drop, append_assoc, refl, sym, ap, ◌∙◌, arith, add-one}
use Rattle.std.specs.List.{slice_get, slice_set, list_any}
use Rattle.swc_tree_node.specs.declared.kind.Kind.TheVariants as kind
use Rattle.swc_tree_node.specs.declared.node.Node.{Node, out-Node}
use Rattle.swc_tree_node.specs.declared.node.Node.TheOpen.{Node-F}
use Rattle.swc_base_rename_substitution.specs.declared.place.Place.{Place}
use Rattle.swc_base_rename_substitution.specs.Identifiers.{Changes}
use Rattle.swc_base_rename_substitution.specs.Exports.{exported_in, exported_ids, exports_of, with_exports}
use Rattle.swc_base_rename_substitution.specs.Substituted.{substituted}
use Rattle.swc_base_rename_substitution.specs.Walk.{is_exported_in, is_exported_declaration, each_with_exports, each_substituted, items_substituted}

done_at : (m : Changes) (keeps : Bool) (ps : ℕ → Place) (ts : List Node) (i : ℕ) (d x : Node) → i < length ts → slice_get (each_substituted m keeps ps (take i ts) ++ drop i ts) i ≡ Some x
    → slice_set (slice_set (each_substituted m keeps ps (take i ts) ++ drop i ts) i d) i (substituted m keeps (ps i) x) ≡ each_substituted m keeps ps (take (suc i) ts) ++ drop (suc i) ts
done_at m keeps ps [] i d x h g = absurd (omega arith)
done_at m keeps ps (t ∷ ts) zero d x h g = let same : t ≡ x = cc in ap (λ u. substituted m keeps (ps zero) u ∷ ts) (sym same)
done_at m keeps ps (t ∷ ts) (suc i) d x h g = ap (λ l. substituted m keeps (ps zero) t ∷ l) (done_at m keeps (λ i. ps (suc i)) ts i d x (omega arith) g)

pub one_more : (m : Changes) (keeps : Bool) (ps : ℕ → Place) (ts ys zs ws : List Node) (i : ℕ) (d x y : Node) (p : Place) → i < length ts
    → ys ≡ each_substituted m keeps ps (take i ts) ++ drop i ts → slice_get ys i ≡ Some x → zs ≡ slice_set ys i d → ws ≡ slice_set zs i y
    → p ≡ ps i → y ≡ substituted m keeps p x → ws ≡ each_substituted m keeps ps (take (i + 1) ts) ++ drop (i + 1) ts
one_more m keeps ps ts ys zs ws i d x y p h was here out back at new =
    back ∙ rw (out, new, at, was, add-one) (done_at m keeps ps ts i d x h (rw (← was) here))

got_there : (m : Changes) (keeps : Bool) (ps : ℕ → Place) (ts : List Node) (i : ℕ) → i < length ts → slice_get (each_substituted m keeps ps (take i ts) ++ drop i ts) i ≡ slice_get ts i
got_there m keeps ps [] i h = absurd (omega arith)
got_there m keeps ps (t ∷ ts) zero h = refl
got_there m keeps ps (t ∷ ts) (suc i) h = got_there m keeps (λ i. ps (suc i)) ts i (omega arith)

-- the next node is still that of the list
pub is_there : (m : Changes) (keeps : Bool) (ps : ℕ → Place) (ts ys : List Node) (i : ℕ) (x : Node) → i < length ts → ys ≡ each_substituted m keeps ps (take i ts) ++ drop i ts → slice_get ys i ≡ Some x → slice_get ts i ≡ Some x
is_there m keeps ps ts ys i x h was here = sym (got_there m keeps ps ts i h) ∙ rw (← was) here

left_there : (m : Changes) (keeps : Bool) (ps : ℕ → Place) (ts : List Node) (i : ℕ) (x : Node) → slice_get ts i ≡ Some x → substituted m keeps (ps i) x ≡ x
    → each_substituted m keeps ps (take i ts) ++ drop i ts ≡ each_substituted m keeps ps (take (suc i) ts) ++ drop (suc i) ts
left_there m keeps ps [] i x h e = absurd (cc)
left_there m keeps ps (t ∷ ts) zero x h e = let same : t ≡ x = cc in rw same (ap (λ u. u ∷ ts) (sym e))
left_there m keeps ps (t ∷ ts) (suc i) x h e = ap (λ l. substituted m keeps (ps zero) t ∷ l) (left_there m keeps (λ i. ps (suc i)) ts i x h e)

-- a node that is left where it is, since it stays as it is
pub one_left : (m : Changes) (keeps : Bool) (ps : ℕ → Place) (ts ys : List Node) (i : ℕ) (x : Node) → i < length ts → ys ≡ each_substituted m keeps ps (take i ts) ++ drop i ts → slice_get ys i ≡ Some x
    → substituted m keeps (ps i) x ≡ x → ys ≡ each_substituted m keeps ps (take (i + 1) ts) ++ drop (i + 1) ts
one_left m keeps ps ts ys i x h was here stays = was ∙ rw add-one (left_there m keeps ps ts i x (is_there m keeps ps ts ys i x h was here) stays)

none_in : (y : Node-F Node) → is_exported_in y ≡ false → exported_in y ≡ []
none_in (Node-F.Tree kind.ExportDecl ts) h = absurd (cc)
none_in (Node-F.Tree k ts) h = refl
none_in y h = refl

left_false : (a b : Bool) → (a || b) ≡ false → a ≡ false
left_false true b h = h
left_false false b h = refl

right_false : (a b : Bool) → (a || b) ≡ false → b ≡ false
right_false true b h = absurd (cc)
right_false false b h = h

pub no_exports : (m : Changes) (keeps : Bool) (p : Place) (ts : List Node) → list_any is_exported_declaration ts ≡ false → items_substituted m keeps p ts ≡ each_substituted m keeps (λ i. p) ts
no_exports m keeps p [] h = refl
no_exports m keeps p (t ∷ ts) h =
    let none : exported_ids t ≡ [] = none_in (out-Node t) (left_false (is_exported_declaration t) (list_any is_exported_declaration ts) h) in
    ap (λ xs. with_exports (substituted m keeps p t) (exports_of m xs) ++ items_substituted m keeps p ts) none
    ∙ ap (λ l. substituted m keeps p t ∷ l) (no_exports m keeps p ts (right_false (is_exported_declaration t) (list_any is_exported_declaration ts) h))

pub all_exports : (m : Changes) (keeps : Bool) (p : Place) (ts : List Node)
    → each_with_exports (each_substituted m keeps (λ i. p) ts) (map (λ t. exports_of m (exported_ids t)) ts) ≡ items_substituted m keeps p ts
all_exports m keeps p [] = refl
all_exports m keeps p (t ∷ ts) = ap (λ l. with_exports (substituted m keeps p t) (exports_of m (exported_ids t)) ++ l) (all_exports m keeps p ts)

pub each_length : (m : Changes) (keeps : Bool) (ps : ℕ → Place) (ts : List Node) → length (each_substituted m keeps ps ts) ≡ length ts
each_length m keeps ps [] = refl
each_length m keeps ps (t ∷ ts) = ap suc (each_length m keeps (λ i. ps (suc i)) ts)

-- the first of what is left of a list and the rest, where it is put aside
next_of : {X : Type 0} (xs : List X) (i : ℕ) (d x : X) → slice_get xs i ≡ Some x → drop i xs ≡ x ∷ drop (suc i) (slice_set xs i d)
next_of [] i d x h = absurd (cc)
next_of (y ∷ xs) zero d x h = let same : y ≡ x = cc in ap (λ y. y ∷ xs) same
next_of (y ∷ xs) (suc i) d x h = next_of xs i d x h

pub next_with_exports : (all now xs xs' ts : List Node) (es es' : List (Option Node)) (i : ℕ) (d x : Node) (e e' : Option Node)
    → all ++ each_with_exports (drop i xs) (drop i es) ≡ ts → slice_get xs i ≡ Some x → slice_get es i ≡ Some e → xs' ≡ slice_set xs i d → es' ≡ slice_set es i e'
    → now ≡ all ++ with_exports x e → now ++ each_with_exports (drop (i + 1) xs') (drop (i + 1) es') ≡ ts
next_with_exports all now xs xs' ts es es' i d x e e' was here there out out' new =
    rw (new, out, out', add-one) (append_assoc all (with_exports x e) (each_with_exports (drop (suc i) (slice_set xs i d)) (drop (suc i) (slice_set es i e')))
    ∙ ap (λ l. all ++ l) (sym (ap (λ l. each_with_exports l (drop i es)) (next_of xs i d x here) ∙ ap (each_with_exports (x ∷ drop (suc i) (slice_set xs i d))) (next_of es i e' e there))) ∙ was)

map_length : {X Y : Type 0} (f : X → Y) (xs : List X) → length (map f xs) ≡ length xs
map_length f [] = refl
map_length f (x ∷ xs) = ap suc (map_length f xs)

pub same_lengths : (m : Changes) (keeps : Bool) (p : Place) (ts rs us : List Node) (es : List (Option Node)) → rs ≡ each_substituted m keeps (λ i. p) ts → us ≡ ts
    → es ≡ map (λ t. exports_of m (exported_ids t)) us → length rs ≡ length es
same_lengths m keeps p ts rs us es r u e =
    ap length r ∙ each_length m keeps (λ i. p) ts ∙ sym (ap length e ∙ map_length (λ t. exports_of m (exported_ids t)) us ∙ ap length u)

pub exports_done : (m : Changes) (keeps : Bool) (p : Place) (ts rs us : List Node) (es : List (Option Node)) → rs ≡ each_substituted m keeps (λ i. p) ts → us ≡ ts
    → es ≡ map (λ t. exports_of m (exported_ids t)) us → (all : List Node) → all ≡ each_with_exports rs es → all ≡ items_substituted m keeps p ts
exports_done m keeps p ts rs us es r u e all a = a ∙ rw (r, e, u) (all_exports m keeps p ts)
