-- Lists of bindings, and fields in which the standing of the whole does not show.
use Rattle.std.proofs.Common.{◌≡◌, ℕ, zero, suc, Bool, true, false, ◌⊎◌, inl, inr, Some, List, [], ◌∷◌, refl, sym, subst, cond}
use Rattle.std.specs.List.{filter, list_all, slice_get}
use Rattle.std.specs.Prelude.{unwrap_or, option_map}
use Rattle.swc_tree_node.specs.declared.kind.Kind.{Kind}
use Rattle.swc_tree_node.specs.declared.slot.Role.{Role}
use Rattle.swc_tree_node.specs.declared.node.Node.{Node}
use Rattle.swc_tree_node.specs.Fits.{AllFit, FieldsFit}
use Rattle.swc_tree_node.proofs.Fit.{both as both_are}
use Rattle.swc_tree_scoping.specs.declared.places.Standing.{Standing}
use Rattle.swc_tree_scoping.specs.declared.places.View.{View}
use Rattle.swc_tree_scoping.specs.Places.{own_name, standing_below}
use Rattle.swc_tree_sites.specs.Sites.{Binding, Sites, joined, pending_where}
use Rattle.swc_tree_sites.specs.Smaller.{In}
use Rattle.swc_tree_sites.proofs.Leaves.{Field}
use Rattle.swc_tree_sites.proofs.Loose.{in_left, in_right}
use Rattle.swc_tree_sites_laws.proofs.Expressions.{P, is_default}
use Rattle.swc_tree_node.specs.declared.slot.Content.TheVariants as content
use Rattle.swc_tree_node.specs.declared.slot.Role.TheVariants as role
use Rattle.swc_tree_node.specs.declared.slot.Slot.TheVariants as slot
use Rattle.swc_tree_scoping.specs.declared.places.Standing.TheVariants as standing

pub filter_in : {X : Type 0} (f : X → Bool) (x : X) (xs : List X) → In x xs → f x ≡ true → In x (filter f xs)
filter_in f x [] h e = absurd h
filter_in f x (y ∷ ys) h e = next (f y) refl h (λ g. filter_in f x ys g e)
  where
    next : (b : Bool) → f y ≡ b → (y ≡ x) ⊎ In x ys → (In x ys → In x (filter f ys)) → In x (cond b (y ∷ filter f ys) (filter f ys))
    next true g (inl h) rest = inl h
    next true g (inr h) rest = inr (rest h)
    next false g (inl h) rest = let z : f x ≡ false = subst (λ z. f z ≡ false) h g in absurd (cc)
    next false g (inr h) rest = rest h

pub pending_to : (f : View → Bool) (b : Binding) (cs : List Sites) (views : ℕ → View) (j : ℕ) (c : Sites) → slice_get cs j ≡ Some c → In b c.pending → f (views j) ≡ true → In b (pending_where f views cs)
pending_to f b [] views j c h g v = absurd (cc)
pending_to f b (d ∷ cs) views zero c h g v =
    let same : d ≡ c = cc in
    in_left b (cond (f (views zero)) d.pending []) (pending_where f (λ i. views (suc i)) cs) (subst (λ z. In b (cond z d.pending [])) (sym v) (subst (λ (s : Sites). In b s.pending) (sym same) g))
pending_to f b (d ∷ cs) views (suc j) c h g v = in_right b (cond (f (views zero)) d.pending []) (pending_where f (λ i. views (suc i)) cs) (pending_to f b cs (λ i. views (suc i)) j c h g v)

pub joined_to : (b : Binding) (cs : List Sites) (j : ℕ) (c : Sites) → slice_get cs j ≡ Some c → In b c.pending → In b (joined cs).pending
joined_to b [] j c h g = absurd (cc)
joined_to b (d ∷ cs) zero c h g = let same : d ≡ c = cc in in_left b d.pending (joined cs).pending (subst (λ (s : Sites). In b s.pending) (sym same) g)
joined_to b (d ∷ cs) (suc j) c h g = in_right b d.pending (joined cs).pending (joined_to b cs j c h g)

pub texts_fit : (ts : List Node) → FieldsFit (slot.One content.Text ∷ slot.One content.Text ∷ []) ts → AllFit (slot.One content.Text) ts
texts_fit [] h = tt
texts_fit (t ∷ []) h = absurd h.1
texts_fit (t ∷ u ∷ []) h = (h.0, (h.1.0, tt))
texts_fit (t ∷ u ∷ v ∷ ts) h = absurd h.1.1

-- a node in whose fields the standing of the whole does not show
abbrev pub is_free_role : Role → Bool
is_free_role role.Inherited = false
is_free_role role.Function = false
is_free_role _ = true

pub free_at : (fs : List Field) (i : ℕ) → list_all (λ f. is_free_role f.2) fs ≡ true → is_free_role (unwrap_or (option_map (λ f. f.2) (slice_get fs i)) role.Plain) ≡ true
free_at [] i h = refl
free_at (f ∷ fs) zero h = (both_are (is_free_role f.2) (list_all (λ f. is_free_role f.2) fs) h).0
free_at (f ∷ fs) (suc i) h = free_at fs i (both_are (is_free_role f.2) (list_all (λ f. is_free_role f.2) fs) h).1

name_alike : (p q : Standing) (k : Kind) → is_default p ≡ false → is_default q ≡ false → own_name p k ≡ own_name q k
name_alike standing.DefaultExport q k d e = absurd (cc)
name_alike standing.Plain standing.DefaultExport k d e = absurd (cc)
name_alike _ standing.DefaultExport k d e = absurd (cc)
name_alike standing.Plain _ k d e = refl
name_alike _ _ k d e = refl

pub standing_alike : (k : Kind) (ts : List Node) (i : ℕ) (x : Role) (p q : Standing) (n : Bool) → is_default p ≡ false → is_default q ≡ false → is_free_role x ≡ true → standing_below (P p n) k ts i x ≡ standing_below (P q n) k ts i x
standing_alike k ts i role.Inherited p q n d e h = absurd (cc)
standing_alike k ts i role.Function p q n d e h = absurd (cc)
standing_alike k ts i role.OwnName p q n d e h = name_alike p q k d e
standing_alike k ts i role.Plain p q n d e h = refl
standing_alike k ts i _ p q n d e h = refl
