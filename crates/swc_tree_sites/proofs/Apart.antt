-- What two scopes take stands at two places of the list.
use Rattle.std.proofs.Common.{◌≡◌, ◌≢◌, ℕ, zero, suc, true, ◌⊎◌, inl, inr, Option, Some, None, List, [], ◌∷◌, ◌++◌, map, refl, sym, ap, ◌∙◌, subst}
use Rattle.std.specs.List.{flat_map, slice_get}
use Rattle.std.proofs.lemmas.List.Folds.{flat_map-map}
use Rattle.std.proofs.lemmas.Grind.{flat_map-append}
use Rattle.swc_tree_node.specs.declared.node.Node.{Node, out-Node, map-Node, fold-Node, fold_out-Node}
use Rattle.swc_tree_node.specs.declared.node.Node.TheOpen.{Node-F}
use Rattle.swc_tree_scoping.specs.declared.places.Place.{Place}
use Rattle.swc_tree_scoping.specs.declared.places.Scope.{Scope}
use Rattle.swc_tree_scoping.specs.Places.{Path, child, children_in, place_below, opened, opened_in}
use Rattle.swc_tree_scoping.specs.Scopes.{view_in}
use Rattle.swc_tree_scoping.specs.Folds.{each_in}
use Rattle.swc_tree_scoping.proofs.Under.{by_children, no_place_under, place_under}
use Rattle.swc_tree_sites.specs.Sites.{Binding, Sites, in_scope, joined, set_of, sites_in}
use Rattle.swc_tree_sites.proofs.Loose.{S, in_left, in_right, is_no_identifier, plain_is, step_is}
use Rattle.swc_tree_sites.proofs.Found.{map_in}
use Rattle.swc_tree_sites.proofs.Round.{taken_by, taken_there}
use Rattle.swc_tree_sites.proofs.Transport.{flat_to, sub_in}
use Rattle.swc_tree_sites.specs.Smaller.{In, Sub}
use Rattle.swc_tree_sites.specs.Sites.{kids, taken_at, taken_in}

-- all pairs of a list
abbrev pub EachIn : {X : Type 0} → (X → Type 0) → List X → Type 0
EachIn P [] = Unit {0}
EachIn P (x ∷ xs) = P x × EachIn P xs

abbrev pub AllApart : {X : Type 0} → (X → X → Type 0) → List X → Type 0
AllApart Q [] = Unit {0}
AllApart Q (x ∷ xs) = EachIn (Q x) xs × AllApart Q xs

pub each_at : {X : Type 0} (P : X → Type 0) (x : X) (xs : List X) → EachIn P xs → In x xs → P x
each_at P x [] e h = absurd h
each_at P x (y ∷ ys) e (inl h) = subst P h e.0
each_at P x (y ∷ ys) e (inr h) = each_at P x ys e.1 h

pub each_of : {X : Type 0} (P : X → Type 0) (xs : List X) → ((x : X) → In x xs → P x) → EachIn P xs
each_of P [] h = tt
each_of P (x ∷ xs) h = (h x (inl refl), each_of P xs (λ y i. h y (inr i)))

each_append : {X : Type 0} (P : X → Type 0) (xs ys : List X) → EachIn P xs → EachIn P ys → EachIn P (xs ++ ys)
each_append P [] ys h g = g
each_append P (x ∷ xs) ys h g = (h.0, each_append P xs ys h.1 g)

pub apart_append : {X : Type 0} (Q : X → X → Type 0) (xs ys : List X) → AllApart Q xs → AllApart Q ys → ((x y : X) → In x xs → In y ys → Q x y) → AllApart Q (xs ++ ys)
apart_append Q [] ys h g c = g
apart_append Q (x ∷ xs) ys h g c = (each_append (Q x) xs ys h.0 (each_of (Q x) ys (λ y i. c x y (inl refl) i)), apart_append Q xs ys h.1 g (λ z y i j. c z y (inr i) j))

-- what holds of all pairs holds of those of fewer
pub sub_apart : {X : Type 0} (Q : X → X → Type 0) (xs ys : List X) → Sub xs ys → AllApart Q ys → AllApart Q xs
sub_apart Q [] ys s h = tt
sub_apart Q (x ∷ xs) [] s h = absurd s
sub_apart Q (x ∷ xs) (y ∷ ys) (inl s) h = (each_of (Q x) xs (λ z i. subst (λ x. Q x z) (sym s.0) (each_at (Q y) z ys h.0 (sub_in z xs ys s.1 i))), sub_apart Q xs ys s.1 h.1)
sub_apart Q (x ∷ xs) (y ∷ ys) (inr s) h = sub_apart Q (x ∷ xs) ys s h.1

-- of two places of a list
apart_at : {X Y : Type 0} (Q : Y → Y → Type 0) (f : X → List Y) (xs : List X) → AllApart Q (flat_map f xs) → (x z : X) → In x xs → In z xs → x ≢ z → (a b : Y) → In a (f x) → In b (f z) → Q a b ⊎ Q b a
apart_at Q f [] h x z i j ne a b p q = absurd i
apart_at Q f (y ∷ ys) h x z (inl e) (inl g) ne a b p q = absurd (ne (sym e ∙ g))
apart_at Q f (y ∷ ys) h x z (inl e) (inr j) ne a b p q = inl (first (f y) h (subst (λ x. In a (f x)) (sym e) p))
  where
    first : (l : List _) → AllApart Q (l ++ flat_map f ys) → In a l → Q a b
    first [] h i = absurd i
    first (c ∷ cs) h (inl e) = subst (λ c. Q c b) e (each_at (Q c) b (cs ++ flat_map f ys) h.0 (in_right b cs (flat_map f ys) (flat_to f b z ys j q)))
    first (c ∷ cs) h (inr i) = first cs h.1 i
apart_at Q f (y ∷ ys) h x z (inr i) (inl g) ne a b p q = inr (first (f y) h (subst (λ x. In b (f x)) (sym g) q))
  where
    first : (l : List _) → AllApart Q (l ++ flat_map f ys) → In b l → Q b a
    first [] h i = absurd i
    first (c ∷ cs) h (inl e) = subst (λ c. Q c a) e (each_at (Q c) a (cs ++ flat_map f ys) h.0 (in_right a cs (flat_map f ys) (flat_to f a x ys i p)))
    first (c ∷ cs) h (inr i) = first cs h.1 i
apart_at Q f (y ∷ ys) h x z (inr i) (inr j) ne a b p q = apart_at Q f ys (rest (f y) h) x z i j ne a b p q
  where
    rest : (l : List _) → AllApart Q (l ++ flat_map f ys) → AllApart Q (flat_map f ys)
    rest [] h = h
    rest (c ∷ cs) h = rest cs h.1

-- the paths of a tree, each node before what is below it
abbrev pub spread : (ℕ → ℕ) → List (List Path) → List Path
spread f [] = []
spread f (ps ∷ pss) = map (λ p. f zero ∷ p) ps ++ spread (λ i. f (suc i)) pss

abbrev pub paths_step : Node-F (List Path) → List Path
paths_step y = [] ∷ spread (λ i. i) (children_in y)

abbrev pub all_paths : Node → List Path
all_paths = fold-Node (List Path) paths_step

children-map : (y : Node-F Node) → children_in (map-Node Node (List Path) all_paths y) ≡ map all_paths (children_in y)
children-map (Node-F.List xs) = refl
children-map (Node-F.Tree k xs) = refl
children-map Node-F.Absent = refl
children-map _ = refl

pub all_paths_out : (t : Node) → all_paths t ≡ [] ∷ spread (λ i. i) (map all_paths (children_in (out-Node t)))
all_paths_out t = fold_out-Node (List Path) paths_step t ∙ ap (λ l. [] ∷ spread (λ i. i) l) (children-map (out-Node t))

abbrev F : Place → Node → Path → List (List Binding)
F w t s = set_of (taken_by w t s)

kids_sets : (G : Path → List (List Binding)) (f : ℕ → ℕ) (places : ℕ → Place) (ts : List Node) → ((i : ℕ) (c : Node) → slice_get ts i ≡ Some c → (S (places i) c).sets ≡ flat_map (λ s. G (f i ∷ s)) (all_paths c))
    → (joined (each_in S places ts)).sets ≡ flat_map G (spread f (map all_paths ts))
kids_sets G f places [] h = refl
kids_sets G f places (t ∷ ts) h =
    ap (λ l. l ++ (joined (each_in S (λ i. places (suc i)) ts)).sets) (h zero t refl ∙ sym (flat_map-map G (λ p. f zero ∷ p) (all_paths t)))
    ∙ ap (λ l. flat_map G (map (λ p. f zero ∷ p) (all_paths t)) ++ l) (kids_sets G (λ i. f (suc i)) (λ i. places (suc i)) ts (λ i. h (suc i)))
    ∙ sym (flat_map-append G (map (λ p. f zero ∷ p) (all_paths t)) (spread (λ i. f (suc i)) (map all_paths ts)))

flat_alike : (f g : Path → List (List Binding)) (ss : List Path) → ((s : Path) → f s ≡ g s) → flat_map f ss ≡ flat_map g ss
flat_alike f g [] h = refl
flat_alike f g (s ∷ ss) h = ap (λ l. l ++ flat_map f ss) (h s) ∙ ap (λ l. g s ++ l) (flat_alike f g ss h)

scope_sets : (w : Place) (t : Node) (o : Option Scope) → (in_scope o (view_in (out-Node t)) (kids w t)).sets ≡ set_of (taken_in w t o) ++ (joined (kids w t)).sets
scope_sets w t None = refl
scope_sets w t (Some s) = refl

identifier_sets : (w : Place) (t : Node) (y : Node-F Node) → out-Node t ≡ y → (S w t).sets ≡ set_of (taken_at w t) ++ (joined (kids w t)).sets
identifier_sets w t (Node-F.Identifier k i) o =
    ap (λ (a : Sites). a.sets) (step_is w t ∙ ap (λ y. sites_in w y (opened w t) (view_in (out-Node t)) (kids w t)) o)
    ∙ sym (ap (λ s. set_of (taken_in w t s) ++ (joined (kids w t)).sets) (ap (opened_in w) o) ∙ ap (λ l. (joined (each_in S (place_below w t) l)).sets) (ap children_in o))
identifier_sets w t Node-F.Absent o = other w t (ap is_no_identifier o)
  where
    other : (w : Place) (t : Node) → is_no_identifier (out-Node t) ≡ true → (S w t).sets ≡ set_of (taken_at w t) ++ (joined (kids w t)).sets
    other w t n = ap (λ (a : Sites). a.sets) (step_is w t ∙ plain_is w (out-Node t) (opened w t) (view_in (out-Node t)) (kids w t) n) ∙ scope_sets w t (opened w t)
identifier_sets w t _ o = other w t (ap is_no_identifier o)
  where
    other : (w : Place) (t : Node) → is_no_identifier (out-Node t) ≡ true → (S w t).sets ≡ set_of (taken_at w t) ++ (joined (kids w t)).sets
    other w t n = ap (λ (a : Sites). a.sets) (step_is w t ∙ plain_is w (out-Node t) (opened w t) (view_in (out-Node t)) (kids w t) n) ∙ scope_sets w t (opened w t)

-- the sets of a node are what the scopes below it take, in the order of their paths
pub sets_are : (t : Node) (w : Place) → (S w t).sets ≡ flat_map (F w t) (all_paths t)
sets_are = by_children (λ t. (w : Place) → (S w t).sets ≡ flat_map (F w t) (all_paths t))
    (λ t below w.
    identifier_sets w t (out-Node t) refl
    ∙ ap (λ l. set_of (taken_at w t) ++ l) (kids_sets (F w t) (λ i. i) (place_below w t) (children_in (out-Node t))
    (λ i c h. below i c h (place_below w t i) ∙ flat_alike (F (place_below w t i) c) (λ s. F w t (i ∷ s)) (all_paths c) (λ s. ap (λ o. set_of (taken_there o)) (sym (place_under w t c i s h)))))
    ∙ ap (flat_map (F w t)) (sym (all_paths_out t)))

-- each path that leads somewhere is one of them
spread_to : (f : ℕ → ℕ) (pss : List (List Path)) (i : ℕ) (ps : List Path) (p : Path) → slice_get pss i ≡ Some ps → In p ps → In (f i ∷ p) (spread f pss)
spread_to f [] i ps p h g = absurd (cc)
spread_to f (qs ∷ pss) zero ps p h g = let same : qs ≡ ps = cc in in_left (f zero ∷ p) (map (λ p. f zero ∷ p) qs) (spread (λ i. f (suc i)) pss) (map_in (λ p. f zero ∷ p) p qs (subst (In p) (sym same) g))
spread_to f (qs ∷ pss) (suc i) ps p h g = in_right (f (suc i) ∷ p) (map (λ p. f zero ∷ p) qs) (spread (λ i. f (suc i)) pss) (spread_to (λ i. f (suc i)) pss i ps p h g)

mapped_at : (ts : List Node) (i : ℕ) (c : Node) → slice_get ts i ≡ Some c → slice_get (map all_paths ts) i ≡ Some (all_paths c)
mapped_at [] i c h = absurd (cc)
mapped_at (t ∷ ts) zero c h = let same : t ≡ c = cc in ap (λ c. Some (all_paths c)) same
mapped_at (t ∷ ts) (suc i) c h = mapped_at ts i c h

pub leads_in : (s : Path) (w : Place) (t : Node) (b : Binding) → In b (taken_by w t s) → In s (all_paths t)
leads_in [] w t b h = subst (In []) (sym (all_paths_out t)) (inl refl)
leads_in (i ∷ s) w t b h = at (child t i) refl (λ c. leads_in s (place_below w t i) c b)
  where
    at : (o : Option Node) → child t i ≡ o → ((c : Node) → In b (taken_by (place_below w t i) c s) → In s (all_paths c)) → In (i ∷ s) (all_paths t)
    at None z below = absurd (subst (λ o. In b (taken_there o)) (no_place_under w t i s z) h)
    at (Some c) z below =
        subst (In (i ∷ s)) (sym (all_paths_out t)) (inr (spread_to (λ i. i) (map all_paths (children_in (out-Node t))) i (all_paths c) s (mapped_at (children_in (out-Node t)) i c z)
        (below c (subst (λ o. In b (taken_there o)) (place_under w t c i s z) h))))

set_in : (b : Binding) (bs : List Binding) → In b bs → In bs (set_of bs)
set_in b [] h = absurd h
set_in b (c ∷ bs) h = inl refl

-- sets that are apart by their places are those of two scopes
pub scopes_apart : (Q : List Binding → List Binding → Type 0) (w : Place) (t : Node) → AllApart Q (S w t).sets → (s u : Path) (b c : Binding) → s ≢ u → In b (taken_by w t s) → In c (taken_by w t u)
    → Q (taken_by w t s) (taken_by w t u) ⊎ Q (taken_by w t u) (taken_by w t s)
scopes_apart Q w t h s u b c ne i j =
    apart_at Q (F w t) (all_paths t) (subst (AllApart Q) (sets_are t w) h) s u (leads_in s w t b i) (leads_in u w t c j) ne (taken_by w t s) (taken_by w t u) (set_in b (taken_by w t s) i) (set_in c (taken_by w t u) j)
