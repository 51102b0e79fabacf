-- The names of a sequence are those of its items, whatever is flattened; fewer, where idle items go.
use Rattle.std.proofs.Common.{◌≡◌, ℕ, zero, suc, Bool, true, false, ◌&&◌, not, inl, inr, Option, Some, None, List, [], ◌∷◌, ◌++◌, map, refl, sym, ap, ◌∙◌, subst, cond, append_assoc}
use Rattle.std.specs.List.{filter, slice_get}
use Rattle.std.proofs.lemmas.List.{append-nil}
use Rattle.swc_tree_node.specs.declared.kind.Kind.TheVariants as kind
use Rattle.swc_tree_node.specs.declared.node.Node.{Node, List as Many, Tree, out-Node}
use Rattle.swc_tree_node.specs.declared.node.Node.TheOpen.{Node-F}
use Rattle.swc_tree_node.specs.declared.node.Node.TheVariants.{outs-List, outs-Tree}
use Rattle.swc_tree_scoping.specs.declared.places.Standing.TheVariants as standing
use Rattle.swc_tree_scoping.specs.declared.places.Place.{Place}
use Rattle.swc_tree_scoping.specs.declared.places.Scope.{Scope}
use Rattle.swc_tree_scoping.specs.declared.places.View.{View}
use Rattle.swc_tree_scoping.specs.Places.{binds_patterns, children_in, is_identifier_expression, place_in, opened_in, is_inside}
use Rattle.swc_tree_scoping.specs.Scopes.{takes, view_in}
use Rattle.swc_tree_scoping.specs.Folds.{each_in}
use Rattle.swc_tree_scoping.proofs.Under.{fold_in_place_out}
use Rattle.swc_tree_sites.specs.Sites.{Binding, Sites, both, in_scope, joined, nothing, pending_where, pushed, seen_in, set_of, sites_in, sites_of, sites_seen, sites_step, taken_of}
use Rattle.swc_tree_sites.specs.Smaller.{Fewer, Sub}

pub sub_refl : {X : Type 0} (xs : List X) → Sub xs xs
sub_refl [] = tt
sub_refl (x ∷ xs) = inl (refl, sub_refl xs)

pub sub_more : {X : Type 0} (xs bs ys : List X) → Sub xs ys → Sub xs (bs ++ ys)
sub_more xs [] ys h = h
sub_more [] (a ∷ bs) ys h = tt
sub_more (x ∷ xs) (a ∷ bs) ys h = inr (sub_more (x ∷ xs) bs ys h)

sub_append : {X : Type 0} (xs ys zs ws : List X) → Sub xs ys → Sub zs ws → Sub (xs ++ zs) (ys ++ ws)
sub_append [] ys zs ws h g = sub_more zs ys ws g
sub_append (x ∷ xs) [] zs ws h g = absurd h
sub_append (x ∷ xs) (y ∷ ys) zs ws (inl h) g = inl (h.0, sub_append xs ys zs ws h.1 g)
sub_append (x ∷ xs) (y ∷ ys) zs ws (inr h) g = inr (sub_append (x ∷ xs) ys zs ws h g)

sub_map : {X Y : Type 0} (f : X → Y) (xs ys : List X) → Sub xs ys → Sub (map f xs) (map f ys)
sub_map f [] ys h = tt
sub_map f (x ∷ xs) [] h = absurd h
sub_map f (x ∷ xs) (y ∷ ys) (inl h) = inl (ap f h.0, sub_map f xs ys h.1)
sub_map f (x ∷ xs) (y ∷ ys) (inr h) = inr (sub_map f (x ∷ xs) ys h)

pub sub_trans : {X : Type 0} (xs ys zs : List X) → Sub xs ys → Sub ys zs → Sub xs zs
sub_trans [] ys zs h g = tt
sub_trans (x ∷ xs) [] zs h g = absurd h
sub_trans (x ∷ xs) (y ∷ ys) [] h g = absurd g
sub_trans (x ∷ xs) (y ∷ ys) (z ∷ zs) h (inr g) = inr (sub_trans (x ∷ xs) (y ∷ ys) zs h g)
sub_trans (x ∷ xs) (y ∷ ys) (z ∷ zs) (inl h) (inl g) = inl (h.0 ∙ g.0, sub_trans xs ys zs h.1 g.1)
sub_trans (x ∷ xs) (y ∷ ys) (z ∷ zs) (inr h) (inl g) = inr (sub_trans (x ∷ xs) ys zs h g.1)

pub fewer_refl : (a : Sites) → Fewer a a
fewer_refl a = record { pending = refl; sites = sub_refl a.sites; sets = sub_refl a.sets }

pub fewer_both : (a b c d : Sites) → Fewer a b → Fewer c d → Fewer (both a c) (both b d)
fewer_both a b c d h g = record {
  pending = ap (λ p. p ++ c.pending) h.pending ∙ ap (λ p. b.pending ++ p) g.pending;
  sites = sub_append a.sites b.sites c.sites d.sites h.sites g.sites;
  sets = sub_append a.sets b.sets c.sets d.sets h.sets g.sets;
}

abbrev pub AllFewer : List Sites → List Sites → Type 0
AllFewer [] [] = Unit {0}
AllFewer [] (d ∷ ds) = ⊥
AllFewer (c ∷ cs) [] = ⊥
AllFewer (c ∷ cs) (d ∷ ds) = Fewer c d × AllFewer cs ds

pub joined_fewer : (cs ds : List Sites) → AllFewer cs ds → Fewer (joined cs) (joined ds)
joined_fewer [] [] h = fewer_refl nothing
joined_fewer [] (d ∷ ds) h = absurd h
joined_fewer (c ∷ cs) [] h = absurd h
joined_fewer (c ∷ cs) (d ∷ ds) h = fewer_both c d (joined cs) (joined ds) h.0 (joined_fewer cs ds h.1)

pending_same : (f : View → Bool) (views : ℕ → View) (cs ds : List Sites) → AllFewer cs ds → pending_where f views cs ≡ pending_where f views ds
pending_same f views [] [] h = refl
pending_same f views [] (d ∷ ds) h = absurd h
pending_same f views (c ∷ cs) [] h = absurd h
pending_same f views (c ∷ cs) (d ∷ ds) h =
    ap (λ p. cond (f (views zero)) p [] ++ pending_where f (λ i. views (suc i)) cs) h.0.pending
    ∙ ap (λ p. cond (f (views zero)) d.pending [] ++ p) (pending_same f (λ i. views (suc i)) cs ds h.1)

sites_fewer : (taken : List Binding) (views : ℕ → View) (cs ds : List Sites) → AllFewer cs ds → Sub (sites_seen taken views cs) (sites_seen taken views ds)
sites_fewer taken views [] [] h = tt
sites_fewer taken views [] (d ∷ ds) h = absurd h
sites_fewer taken views (c ∷ cs) [] h = absurd h
sites_fewer taken views (c ∷ cs) (d ∷ ds) h =
    sub_append (map (pushed (seen_in taken (views zero))) c.sites) (map (pushed (seen_in taken (views zero))) d.sites) (sites_seen taken (λ i. views (suc i)) cs) (sites_seen taken (λ i. views (suc i)) ds)
    (sub_map (pushed (seen_in taken (views zero))) c.sites d.sites h.0.sites) (sites_fewer taken (λ i. views (suc i)) cs ds h.1)

-- a node whose children have fewer names has fewer
pub in_scope_fewer : (o : Option Scope) (views : ℕ → View) (cs ds : List Sites) → AllFewer cs ds → Fewer (in_scope o views cs) (in_scope o views ds)
in_scope_fewer None views cs ds h = joined_fewer cs ds h
in_scope_fewer (Some s) views cs ds h =
    let same : taken_of s views cs ≡ taken_of s views ds = ap (filter (λ b. takes b.0 s)) (pending_same is_inside views cs ds h) in record {
      pending = ap (λ p. p ++ filter (λ b. not (takes b.0 s)) (pending_where is_inside views cs)) (pending_same (λ v. not (is_inside v)) views cs ds h)
          ∙ ap (λ p. pending_where (λ v. not (is_inside v)) views ds ++ filter (λ b. not (takes b.0 s)) p) (pending_same is_inside views cs ds h);
      sites = subst (λ t. Sub (sites_seen (taken_of s views cs) views cs) (sites_seen t views ds)) same (sites_fewer (taken_of s views cs) views cs ds h);
      sets = sub_append (set_of (taken_of s views cs)) (set_of (taken_of s views ds)) (joined cs).sets (joined ds).sets
          (subst (λ t. Sub (set_of (taken_of s views cs)) (set_of t)) same (sub_refl (set_of (taken_of s views cs)))) (joined_fewer cs ds h).sets;
    }

-- lists of nodes in one place
abbrev pub S : Place → Node → Sites
S = sites_of

abbrev pub all : Place → List Node → Sites
all w ts = joined (map (S w) ts)

pub both_nothing : (a : Sites) → both a nothing ≡ a
both_nothing a = λ i. record { pending = append-nil a.pending i; sites = append-nil a.sites i; sets = append-nil a.sets i }

both_assoc : (a b c : Sites) → both (both a b) c ≡ both a (both b c)
both_assoc a b c = λ i. record { pending = append_assoc a.pending b.pending c.pending i; sites = append_assoc a.sites b.sites c.sites i; sets = append_assoc a.sets b.sets c.sets i }

pub all_append : (w : Place) (ts us : List Node) → all w (ts ++ us) ≡ both (all w ts) (all w us)
all_append w [] us = refl
all_append w (t ∷ ts) us = ap (both (S w t)) (all_append w ts us) ∙ sym (both_assoc (S w t) (all w ts) (all w us))

each_in_one : (w : Place) (places : ℕ → Place) (ts : List Node) → ((i : ℕ) → places i ≡ w) → each_in S places ts ≡ map (S w) ts
each_in_one w places [] h = refl
each_in_one w places (t ∷ ts) h = ap (λ v. S v t ∷ each_in S (λ i. places (suc i)) ts) (h zero) ∙ ap (λ l. S w t ∷ l) (each_in_one w (λ i. places (suc i)) ts (λ i. h (suc i)))

-- where no patterns bind, the items of a list stand as the list does
pub item_place : (w : Place) (ts : List Node) (i : ℕ) → binds_patterns w.standing ≡ false → place_in w (Node-F.List ts) i ≡ w
item_place w ts i h = ap (λ b. record w { standing = cond (b && is_identifier_expression (slice_get ts i)) standing.Reference w.standing }) h

pub out_step : (w : Place) (t : Node) (y : Node-F Node) → out-Node t ≡ y → S w t ≡ sites_in w y (opened_in w y) (view_in y) (each_in S (place_in w y) (children_in y))
out_step w t y o = fold_in_place_out sites_step w t ∙ ap (λ y. sites_in w y (opened_in w y) (view_in y) (each_in S (place_in w y) (children_in y))) o

pub of_list : (w : Place) (ts : List Node) → binds_patterns w.standing ≡ false → S w (Many ts) ≡ all w ts
of_list w ts h = out_step w (Many ts) _ (outs-List ts) ∙ ap joined (each_in_one w (place_in w (Node-F.List ts)) ts (λ i. item_place w ts i h))

-- a place where an expression stands, and of what else a node of expressions holds
abbrev pub E : Bool → Place
E n = record { standing = standing.Reference; strict = true; nested = n }

abbrev pub Q : Bool → Place
Q n = record { standing = standing.Plain; strict = true; nested = n }

-- no name stands there
abbrev pub IsQuiet : Bool → Node → Type 0
IsQuiet n t = S (Q n) t ≡ nothing

pub of_paren : (n : Bool) (span e : Node) → IsQuiet n span → S (E n) (Tree kind.ParenExpr (span ∷ e ∷ [])) ≡ S (E n) e
of_paren n span e q = out_step (E n) _ _ (outs-Tree kind.ParenExpr (span ∷ e ∷ [])) ∙ ap (λ a. both a (both (S (E n) e) nothing)) q ∙ both_nothing (S (E n) e)

pub of_seq : (n : Bool) (span es : Node) → IsQuiet n span → S (E n) (Tree kind.SeqExpr (span ∷ es ∷ [])) ≡ S (E n) es
of_seq n span e q = out_step (E n) _ _ (outs-Tree kind.SeqExpr (span ∷ e ∷ [])) ∙ ap (λ a. both a (both (S (E n) e) nothing)) q ∙ both_nothing (S (E n) e)

pub of_unary : (n : Bool) (span op e : Node) → IsQuiet n span → IsQuiet n op → S (E n) (Tree kind.UnaryExpr (span ∷ op ∷ e ∷ [])) ≡ S (E n) e
of_unary n span op e q p =
    out_step (E n) _ _ (outs-Tree kind.UnaryExpr (span ∷ op ∷ e ∷ [])) ∙ ap (λ a. both a (both (S (Q n) op) (both (S (E n) e) nothing))) q ∙ ap (λ a. both a (both (S (E n) e) nothing)) p ∙ both_nothing (S (E n) e)
