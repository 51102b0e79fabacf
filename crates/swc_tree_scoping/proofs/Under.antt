-- A node and its children: induction, folds, and a path from a node down by its first step.
use Rattle.std.proofs.Common.{◌≡◌, ℕ, zero, suc, Some, None, List, [], ◌∷◌, ◌++◌, map, refl, sym, ap, ◌∙◌, subst}
use Rattle.std.specs.List.{slice_get}
use Rattle.std.specs.Option.{option_and_then}
use Rattle.swc_tree_node.specs.declared.node.Node.{Node, out-Node, roll-Node, map-Node, ind-Node, fold-Node, fold_out-Node, out-roll-Node, roll-out-Node}
use Rattle.swc_tree_node.specs.declared.node.Node.TheOpen.{Node-F}
use Rattle.swc_tree_scoping.specs.declared.places.Place.{Place}
use Rattle.swc_tree_scoping.specs.Places.{Path, children_in, child, opened, place_below, given, place_at}
use Rattle.swc_tree_scoping.specs.Folds.{each_in, InPlace, place_step, fold_in_place}
use Rattle.swc_tree_scoping.specs.Scopes.{Round, scope_at, view_in, seen_as, rounds}

-- a layer under a map
children-map : {X Y : Type 0} (f : X → Y) (y : Node-F X) → children_in (map-Node X Y f y) ≡ map f (children_in y)
children-map f Node-F.Absent = refl
children-map f (Node-F.Flag x) = refl
children-map f (Node-F.Word w) = refl
children-map f (Node-F.Text x) = refl
children-map f (Node-F.Span x) = refl
children-map f (Node-F.List xs) = refl
children-map f (Node-F.Identifier k i) = refl
children-map f (Node-F.Tree k xs) = refl

-- what holds of a node if it holds of its children, holds of each
abbrev Proved : (Node → Type 0) → Type 0
Proved P = (t : Node) × P t

proved_at : (P : Node → Type 0) (es : List (Proved P)) (i : ℕ) (c : Node) → slice_get (map (λ e. e.0) es) i ≡ Some c → P c
proved_at P [] i c h = absurd (cc)
proved_at P (e ∷ es) zero c h = let same : e.0 ≡ c = cc in subst P same e.1
proved_at P (e ∷ es) (suc i) c h = proved_at P es i c h

pub by_children : (P : Node → Type 0) → ((t : Node) → ((i : ℕ) (c : Node) → child t i ≡ Some c → P c) → P t) → (t : Node) → P t
by_children P step t = ind-Node P (λ x all e. subst (λ x. P (roll-Node x)) e (step (roll-Node (map-Node (Proved P) Node (λ e. e.0) all)) (below all))) t
  where
    below : (y : Node-F (Proved P)) (i : ℕ) (c : Node) → child (roll-Node (map-Node (Proved P) Node (λ e. e.0) y)) i ≡ Some c → P c
    below y i c h =
        let same : children_in (out-Node (roll-Node (map-Node (Proved P) Node (λ e. e.0) y))) ≡ map (λ e. e.0) (children_in y)
        = ap children_in (out-roll-Node (map-Node (Proved P) Node (λ e. e.0) y)) ∙ children-map (λ e. e.0) y in
        proved_at P (children_in y) i c (ap (λ l. slice_get l i) (sym same) ∙ h)

-- a fold by places: its step at the node
each_same : (f : Node → Node) (ts : List Node) → ((i : ℕ) (c : Node) → slice_get ts i ≡ Some c → f c ≡ c) → map f ts ≡ ts
each_same f [] h = refl
each_same f (t ∷ ts) h = ap (λ c. c ∷ map f ts) (h zero t refl) ∙ ap (λ l. t ∷ l) (each_same f ts (λ i. h (suc i)))

layer_same : (f : Node → Node) (y : Node-F Node) → ((i : ℕ) (c : Node) → slice_get (children_in y) i ≡ Some c → f c ≡ c) → map-Node Node Node f y ≡ y
layer_same f Node-F.Absent h = refl
layer_same f (Node-F.Flag x) h = refl
layer_same f (Node-F.Word w) h = refl
layer_same f (Node-F.Text x) h = refl
layer_same f (Node-F.Span x) h = refl
layer_same f (Node-F.List xs) h = ap (λ l. Node-F.List l) (each_same f xs h)
layer_same f (Node-F.Identifier k i) h = refl
layer_same f (Node-F.Tree k xs) h = ap (λ l. Node-F.Tree k l) (each_same f xs h)

map_twice : {A B C : Type 0} (g : B → C) (f : A → B) (xs : List A) → map g (map f xs) ≡ map (λ x. g (f x)) xs
map_twice g f [] = refl
map_twice g f (x ∷ xs) = ap (λ l. g (f x) ∷ l) (map_twice g f xs)

layer_twice : {A B C : Type 0} (g : B → C) (f : A → B) (y : Node-F A) → map-Node B C g (map-Node A B f y) ≡ map-Node A C (λ x. g (f x)) y
layer_twice g f Node-F.Absent = refl
layer_twice g f (Node-F.Flag x) = refl
layer_twice g f (Node-F.Word w) = refl
layer_twice g f (Node-F.Text x) = refl
layer_twice g f (Node-F.Span x) = refl
layer_twice g f (Node-F.List xs) = ap (λ l. Node-F.List l) (map_twice g f xs)
layer_twice g f (Node-F.Identifier k i) = refl
layer_twice g f (Node-F.Tree k xs) = ap (λ l. Node-F.Tree k l) (map_twice g f xs)

each-map : {X Y A : Type 0} (g : Place → Y → A) (f : X → Y) (places : ℕ → Place) (xs : List X) → each_in g places (map f xs) ≡ each_in (λ w x. g w (f x)) places xs
each-map g f places [] = refl
each-map g f places (x ∷ xs) = ap (λ l. g (places zero) (f x) ∷ l) (each-map g f (λ i. places (suc i)) xs)

module _ {A : Type 0} (step : Place → Node → List A → A) where
  abbrev folded : Node → InPlace A
  folded = fold-Node (InPlace A) (place_step step)

  abbrev nodes : Node-F (InPlace A) → Node
  nodes y = roll-Node (map-Node (InPlace A) Node (λ c. c.node) y)

  nodes_out : (t : Node) → ((i : ℕ) (c : Node) → child t i ≡ Some c → (folded c).node ≡ c) → nodes (map-Node Node (InPlace A) folded (out-Node t)) ≡ t
  nodes_out t h = ap roll-Node (layer_twice (λ c. c.node) folded (out-Node t) ∙ layer_same (λ c. (folded c).node) (out-Node t) h) ∙ roll-out-Node t

  node_folded : (t : Node) → (folded t).node ≡ t
  node_folded = by_children (λ t. (folded t).node ≡ t) (λ t below. ap (λ c. c.node) (fold_out-Node (InPlace A) (place_step step) t) ∙ nodes_out t below)

  pub fold_in_place_out : (w : Place) (t : Node) → fold_in_place step w t ≡ step w t (each_in (fold_in_place step) (place_below w t) (children_in (out-Node t)))
  fold_in_place_out w t =
      ap (λ c. c.made w) (fold_out-Node (InPlace A) (place_step step) t)
      ∙ ap (λ d. step w d (each_in (λ v c. c.made v) (place_below w d) (children_in (map-Node Node (InPlace A) folded (out-Node t))))) (nodes_out t (λ i c h. node_folded c))
      ∙ ap (λ cs. step w t (each_in (λ v c. c.made v) (place_below w t) cs)) (children-map folded (out-Node t))
      ∙ ap (step w t) (each-map (λ v c. c.made v) folded (place_below w t) (children_in (out-Node t)))

pub each_in-at : {X A : Type 0} (g : Place → X → A) (places : ℕ → Place) (xs : List X) (i : ℕ) (x : X) → slice_get xs i ≡ Some x → slice_get (each_in g places xs) i ≡ Some (g (places i) x)
each_in-at g places [] i x h = absurd (cc)
each_in-at g places (y ∷ xs) zero x h = let same : y ≡ x = cc in ap (λ y. Some (g (places zero) y)) same
each_in-at g places (y ∷ xs) (suc i) x h = each_in-at g (λ i. places (suc i)) xs i x h

-- by the first step of a path
pub place_under : (w : Place) (t c : Node) (i : ℕ) (p : Path) → child t i ≡ Some c → place_at w t (i ∷ p) ≡ place_at (place_below w t i) c p
place_under w t c i p h = ap (λ o. given o None (λ c. place_at (place_below w t i) c p)) h

pub no_place_under : (w : Place) (t : Node) (i : ℕ) (p : Path) → child t i ≡ None → place_at w t (i ∷ p) ≡ None
no_place_under w t i p h = ap (λ o. given o None (λ c. place_at (place_below w t i) c p)) h

pub scope_under : (w : Place) (t c : Node) (i : ℕ) (s : Path) → child t i ≡ Some c → scope_at w t (i ∷ s) ≡ scope_at (place_below w t i) c s
scope_under w t c i s h = ap (option_and_then (λ (q : Place × Node). opened q.0 q.1)) (place_under w t c i s h)

pub no_scope_under : (w : Place) (t : Node) (i : ℕ) (s : Path) → child t i ≡ None → scope_at w t (i ∷ s) ≡ None
no_scope_under w t i s h = ap (option_and_then (λ (q : Place × Node). opened q.0 q.1)) (no_place_under w t i s h)

abbrev pub lower : ℕ → Round → Round
lower i s = (i ∷ s.0, s.1)

pub rounds_under : (w : Place) (t c : Node) (i : ℕ) (p : Path) → child t i ≡ Some c → rounds w t (i ∷ p) ≡ map (lower i) (rounds (place_below w t i) c p) ++ seen_as (opened w t) (view_in (out-Node t) i)
rounds_under w t c i p h = ap (λ o. map (lower i) (given o [] (λ c. rounds (place_below w t i) c p)) ++ seen_as (opened w t) (view_in (out-Node t) i)) h

pub no_rounds_under : (w : Place) (t : Node) (i : ℕ) (p : Path) → child t i ≡ None → rounds w t (i ∷ p) ≡ seen_as (opened w t) (view_in (out-Node t) i)
no_rounds_under w t i p h = ap (λ o. map (lower i) (given o [] (λ c. rounds (place_below w t i) c p)) ++ seen_as (opened w t) (view_in (out-Node t) i)) h
