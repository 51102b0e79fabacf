-- The names of a tree that is read by ids are those of the tree, each with its id; so what is left of a tree is left of it by ids.
use Rattle.std.proofs.Common.{◌≡◌, ℕ, zero, suc, Bool, true, false, not, ◌⊎◌, inl, inr, ⊎_elim, Option, Some, None, List, [], ◌∷◌, ◌++◌, map, refl, sym, ap, ◌∙◌, subst, cond}
use Rattle.std.specs.List.{filter, slice_get}
use Rattle.std.proofs.lemmas.List.{map-append}
use Rattle.swc_tree_marks.specs.declared.ident.Ident.{Ident}
use Rattle.swc_tree_node.specs.declared.node.Node.{Node, out-Node}
use Rattle.swc_tree_node.specs.declared.node.Node.TheOpen.{Node-F}
use Rattle.swc_tree_scoping.specs.declared.places.Standing.{Standing}
use Rattle.swc_tree_scoping.specs.declared.places.Place.{Place}
use Rattle.swc_tree_scoping.specs.declared.places.Scope.{Scope}
use Rattle.swc_tree_scoping.specs.declared.places.View.{View}
use Rattle.swc_tree_scoping.specs.declared.places.View.TheVariants as view
use Rattle.swc_tree_scoping.specs.Places.{child, children_in, is_inside, opened_in, place_in, program_place}
use Rattle.swc_tree_scoping.specs.Scopes.{is_binding, is_name, takes, view_in}
use Rattle.swc_tree_scoping.specs.Folds.{each_in}
use Rattle.swc_tree_scoping.specs.Readings.{by_ids, with_identifiers}
use Rattle.swc_tree_scoping.proofs.Under.{by_children}
use Rattle.swc_tree_renaming.proofs.Blank.{layer, opened_same, out_is, place_same, view_same}
use Rattle.swc_tree_renaming.proofs.Whole.{by_id, id_name_same}
use Rattle.swc_tree_sites.specs.Sites.{Binding, Entry, Site, Sites, both, counted, in_scope, joined, name_sites, pending_where, pushed, seen_in, set_of, sites_seen, taken_of}
use Rattle.swc_tree_sites.specs.Smaller.{AreKept, In, IsCopy, Sub}
use Rattle.swc_tree_sites.proofs.Found.{in_map, map_in}
use Rattle.swc_tree_sites.proofs.Kept.{S, out_step}
use Rattle.swc_tree_sites_laws.specs.Laws.{IdsAreLeft}

-- ---- lists

sub_map : {X Y : Type 0} (f : X → Y) (xs ys : List X) → Sub xs ys → Sub (map f xs) (map f ys)
sub_map f [] ys h = tt
sub_map f (x ∷ xs) [] h = absurd h
sub_map f (x ∷ xs) (y ∷ ys) (inl h) = inl (ap f h.0, sub_map f xs ys h.1)
sub_map f (x ∷ xs) (y ∷ ys) (inr h) = inr (sub_map f (x ∷ xs) ys h)

-- ---- names whose identifiers are changed

module _ (f : Ident → Ident) where
  abbrev B : Node → Node
  B = with_identifiers f

  abbrev pub bound_by : Binding → Binding
  bound_by b = (b.0, f b.1)

  abbrev entry_by : Entry → Entry
  entry_by e = (map bound_by e.0, e.1)

  abbrev pub site_by : Site → Site
  site_by s = (s.0, f s.1, map entry_by s.2)

  abbrev by : Sites → Sites
  by a = record { pending = map bound_by a.pending; sites = map site_by a.sites; sets = map (map bound_by) a.sets }

  both_by : (a b : Sites) → both (by a) (by b) ≡ by (both a b)
  both_by a b = λ i. record {
    pending = sym (map-append bound_by a.pending b.pending) i;
    sites = sym (map-append site_by a.sites b.sites) i;
    sets = sym (map-append (map bound_by) a.sets b.sets) i;
  }

  joined_by : (cs : List Sites) → joined (map by cs) ≡ by (joined cs)
  joined_by [] = refl
  joined_by (c ∷ cs) = ap (both (by c)) (joined_by cs) ∙ both_by c (joined cs)

  cond_by : (b : Bool) (bs : List Binding) → cond b (map bound_by bs) [] ≡ map bound_by (cond b bs [])
  cond_by true bs = refl
  cond_by false bs = refl

  pending_by : (g : View → Bool) (views : ℕ → View) (cs : List Sites) → pending_where g views (map by cs) ≡ map bound_by (pending_where g views cs)
  pending_by g views [] = refl
  pending_by g views (c ∷ cs) =
      ap (λ p. p ++ pending_where g (λ i. views (suc i)) (map by cs)) (cond_by (g (views zero)) c.pending)
      ∙ ap (λ p. map bound_by (cond (g (views zero)) c.pending []) ++ p) (pending_by g (λ i. views (suc i)) cs)
      ∙ sym (map-append bound_by (cond (g (views zero)) c.pending []) (pending_where g (λ i. views (suc i)) cs))

  filter_if : (c : Bool) (b : Binding) (bs cs : List Binding) → cs ≡ map bound_by bs → cond c (bound_by b ∷ cs) cs ≡ map bound_by (cond c (b ∷ bs) bs)
  filter_if true b bs cs e = ap (λ l. bound_by b ∷ l) e
  filter_if false b bs cs e = e

  filter_by : (p : Standing → Bool) (bs : List Binding) → filter (λ (b : Binding). p b.0) (map bound_by bs) ≡ map bound_by (filter (λ (b : Binding). p b.0) bs)
  filter_by p [] = refl
  filter_by p (b ∷ bs) = filter_if (p b.0) b (filter (λ (b : Binding). p b.0) bs) (filter (λ (b : Binding). p b.0) (map bound_by bs)) (filter_by p bs)

  seen_by : (taken : List Binding) (v : View) → seen_in (map bound_by taken) v ≡ map entry_by (seen_in taken v)
  seen_by [] view.Outside = refl
  seen_by [] view.Parameters = refl
  seen_by [] view.Whole = refl
  seen_by (b ∷ bs) view.Outside = refl
  seen_by (b ∷ bs) view.Parameters = refl
  seen_by (b ∷ bs) view.Whole = refl

  pushed_by : (e : List Entry) (ss : List Site) → map (pushed (map entry_by e)) (map site_by ss) ≡ map site_by (map (pushed e) ss)
  pushed_by e [] = refl
  pushed_by e (s ∷ ss) =
      ap (λ l. (s.0, f s.1, l) ∷ map (pushed (map entry_by e)) (map site_by ss)) (sym (map-append entry_by s.2 e)) ∙ ap (λ l. site_by (pushed e s) ∷ l) (pushed_by e ss)

  sites_seen_by : (taken : List Binding) (views : ℕ → View) (cs : List Sites) → sites_seen (map bound_by taken) views (map by cs) ≡ map site_by (sites_seen taken views cs)
  sites_seen_by taken views [] = refl
  sites_seen_by taken views (c ∷ cs) =
      ap (λ e. map (pushed e) (map site_by c.sites) ++ sites_seen (map bound_by taken) (λ i. views (suc i)) (map by cs)) (seen_by taken (views zero))
      ∙ ap (λ l. l ++ sites_seen (map bound_by taken) (λ i. views (suc i)) (map by cs)) (pushed_by (seen_in taken (views zero)) c.sites)
      ∙ ap (λ l. map site_by (map (pushed (seen_in taken (views zero))) c.sites) ++ l) (sites_seen_by taken (λ i. views (suc i)) cs)
      ∙ sym (map-append site_by (map (pushed (seen_in taken (views zero))) c.sites) (sites_seen taken (λ i. views (suc i)) cs))

  set_by : (bs : List Binding) → set_of (map bound_by bs) ≡ map (map bound_by) (set_of bs)
  set_by [] = refl
  set_by (b ∷ bs) = refl

  taken_by_same : (s : Scope) (views : ℕ → View) (cs : List Sites) → taken_of s views (map by cs) ≡ map bound_by (taken_of s views cs)
  taken_by_same s views cs = ap (filter (λ (b : Binding). takes b.0 s)) (pending_by is_inside views cs) ∙ filter_by (λ r. takes r s) (pending_where is_inside views cs)

  pending_left : (s : Scope) (views : ℕ → View) (cs : List Sites) → (in_scope (Some s) views (map by cs)).pending ≡ map bound_by (in_scope (Some s) views cs).pending
  pending_left s views cs =
      ap (λ p. p ++ filter (λ (b : Binding). not (takes b.0 s)) (pending_where is_inside views (map by cs))) (pending_by (λ v. not (is_inside v)) views cs)
      ∙ ap (λ p. map bound_by (pending_where (λ v. not (is_inside v)) views cs) ++ filter (λ (b : Binding). not (takes b.0 s)) p) (pending_by is_inside views cs)
      ∙ ap (λ p. map bound_by (pending_where (λ v. not (is_inside v)) views cs) ++ p) (filter_by (λ r. not (takes r s)) (pending_where is_inside views cs))
      ∙ sym (map-append bound_by (pending_where (λ v. not (is_inside v)) views cs) (filter (λ (b : Binding). not (takes b.0 s)) (pending_where is_inside views cs)))

  sites_left : (s : Scope) (views : ℕ → View) (cs : List Sites) → (in_scope (Some s) views (map by cs)).sites ≡ map site_by (in_scope (Some s) views cs).sites
  sites_left s views cs = ap (λ l. sites_seen l views (map by cs)) (taken_by_same s views cs) ∙ sites_seen_by (taken_of s views cs) views cs

  sets_left : (s : Scope) (views : ℕ → View) (cs : List Sites) → (in_scope (Some s) views (map by cs)).sets ≡ map (map bound_by) (in_scope (Some s) views cs).sets
  sets_left s views cs =
      ap (λ l. set_of l ++ (joined (map by cs)).sets) (taken_by_same s views cs) ∙ ap (λ l. l ++ (joined (map by cs)).sets) (set_by (taken_of s views cs))
      ∙ ap (λ (a : Sites). map (map bound_by) (set_of (taken_of s views cs)) ++ a.sets) (joined_by cs)
      ∙ sym (map-append (map bound_by) (set_of (taken_of s views cs)) (joined cs).sets)

  in_scope_by : (o : Option Scope) (views : ℕ → View) (cs : List Sites) → in_scope o views (map by cs) ≡ by (in_scope o views cs)
  in_scope_by None views cs = joined_by cs
  in_scope_by (Some s) views cs = λ i. record { pending = pending_left s views cs i; sites = sites_left s views cs i; sets = sets_left s views cs i }

  site_if : (r : Standing) (i : Ident) (b : Bool) → cond b ((counted r, f i, []) ∷ []) [] ≡ map site_by (cond b ((counted r, i, []) ∷ []) [])
  site_if r i true = refl
  site_if r i false = refl

  name_by : (r : Standing) (i : Ident) → name_sites r (f i) ≡ by (name_sites r i)
  name_by r i = λ j. record { pending = cond_by (is_binding r) ((r, i) ∷ []) j; sites = site_if r i (is_name r) j; sets = [] }

  -- ---- trees

  in_layer : (y z : Node-F Node) (t : Node) → out-Node t ≡ y → layer f y ≡ z → out-Node (B t) ≡ z
  in_layer y z t e g = out_is f t ∙ ap (layer f) e ∙ g

  -- what the layer of a node tells, that of the changed one does
  told : {A : Type 0} (g : Node-F Node → A) (y z : Node-F Node) (t : Node) → out-Node t ≡ y → out-Node (B t) ≡ z → g (out-Node (B t)) ≡ g (out-Node t) → g z ≡ g y
  told g y z t e h same = ap g (sym h) ∙ same ∙ ap g e

  abbrev Named : Node → Type 0
  Named t = (w : Place) → S w (B t) ≡ by (S w t)

  each_by : (ts : List Node) (places : ℕ → Place) → ((i : ℕ) (c : Node) → slice_get ts i ≡ Some c → Named c) → each_in S places (map B ts) ≡ map by (each_in S places ts)
  each_by [] places h = refl
  each_by (t ∷ ts) places h = ap (λ a. a ∷ each_in S (λ i. places (suc i)) (map B ts)) (h zero t refl (places zero)) ∙ ap (λ l. by (S (places zero) t) ∷ l) (each_by ts (λ i. places (suc i)) (λ i. h (suc i)))

  children_by : (t : Node) (y : Node-F Node) (ts : List Node) → out-Node t ≡ y → children_in y ≡ ts → ((i : ℕ) (c : Node) → child t i ≡ Some c → Named c) → (places : ℕ → Place) → each_in S places (map B ts) ≡ map by (each_in S places ts)
  children_by t y ts e g below places = each_by ts places (λ i c h. below i c (ap (λ y. slice_get (children_in y) i) e ∙ ap (λ l. slice_get l i) g ∙ h))

  -- a node by its children
  parts_by : (w : Place) (t : Node) (y z : Node-F Node) (ts : List Node) → out-Node t ≡ y → out-Node (B t) ≡ z → children_in y ≡ ts → children_in z ≡ map B ts → ((i : ℕ) (c : Node) → child t i ≡ Some c → Named c)
      → in_scope (opened_in w z) (view_in z) (each_in S (place_in w z) (children_in z)) ≡ by (in_scope (opened_in w y) (view_in y) (each_in S (place_in w y) (children_in y)))
  parts_by w t y z ts e h g k below =
      ap (λ l. in_scope (opened_in w z) (view_in z) (each_in S (place_in w z) l)) k
      ∙ ap (λ o. in_scope o (view_in z) (each_in S (place_in w z) (map B ts))) (told (opened_in w) y z t e h (opened_same f w t))
      ∙ ap (λ v. in_scope (opened_in w y) v (each_in S (place_in w z) (map B ts))) (λ j i. told (λ y. view_in y i) y z t e h (view_same f t i) j)
      ∙ ap (λ v. in_scope (opened_in w y) (view_in y) (each_in S v (map B ts))) (λ j i. told (λ y. place_in w y i) y z t e h (place_same f w t i) j)
      ∙ ap (in_scope (opened_in w y) (view_in y)) (children_by t y ts e g below (place_in w y))
      ∙ in_scope_by (opened_in w y) (view_in y) (each_in S (place_in w y) ts)
      ∙ ap (λ l. by (in_scope (opened_in w y) (view_in y) (each_in S (place_in w y) l))) (sym g)

  node_by : (t : Node) → ((i : ℕ) (c : Node) → child t i ≡ Some c → Named c) → (y : Node-F Node) → out-Node t ≡ y → Named t
  node_by t below (Node-F.List ts) e w =
      let h = in_layer (Node-F.List ts) (Node-F.List (map B ts)) t e refl in
      out_step w (B t) _ h ∙ parts_by w t (Node-F.List ts) (Node-F.List (map B ts)) ts e h refl refl below ∙ ap by (sym (out_step w t _ e))
  node_by t below (Node-F.Tree k ts) e w =
      let h = in_layer (Node-F.Tree k ts) (Node-F.Tree k (map B ts)) t e refl in
      out_step w (B t) _ h ∙ parts_by w t (Node-F.Tree k ts) (Node-F.Tree k (map B ts)) ts e h refl refl below ∙ ap by (sym (out_step w t _ e))
  node_by t below (Node-F.Identifier k i) e w = out_step w (B t) _ (in_layer (Node-F.Identifier k i) (Node-F.Identifier k (f i)) t e refl) ∙ name_by w.standing i ∙ ap by (sym (out_step w t _ e))
  node_by t below Node-F.Absent e w = out_step w (B t) _ (in_layer Node-F.Absent Node-F.Absent t e refl) ∙ ap by (sym (out_step w t _ e))
  node_by t below (Node-F.Flag x) e w = out_step w (B t) _ (in_layer (Node-F.Flag x) (Node-F.Flag x) t e refl) ∙ ap by (sym (out_step w t _ e))
  node_by t below (Node-F.Word x) e w = out_step w (B t) _ (in_layer (Node-F.Word x) (Node-F.Word x) t e refl) ∙ ap by (sym (out_step w t _ e))
  node_by t below (Node-F.Text x) e w = out_step w (B t) _ (in_layer (Node-F.Text x) (Node-F.Text x) t e refl) ∙ ap by (sym (out_step w t _ e))
  node_by t below (Node-F.Span x) e w = out_step w (B t) _ (in_layer (Node-F.Span x) (Node-F.Span x) t e refl) ∙ ap by (sym (out_step w t _ e))

  pub sites_by : (t : Node) → Named t
  sites_by t = by_children Named (λ t below. node_by t below (out-Node t) refl) t

-- ---- what is left

copy_by : (s : Site) → IsCopy s → IsCopy (site_by by_id s)
copy_by s c = record {
  taken = map (bound_by by_id) c.taken;
  way = c.way;
  bound = by_id c.bound;
  refers = c.refers;
  env = ap (map (λ (e : Entry). (map (bound_by by_id) e.0, e.1))) c.env;
  within = map_in (bound_by by_id) (c.way, c.bound) c.taken c.within;
  same = (id_name_same c.bound s.1 c.same, refl);
}

kept_by : (xs ys : List Site) → AreKept xs ys → AreKept (map (site_by by_id) xs) (map (site_by by_id) ys)
kept_by xs ys h s i =
    let (x, j, e) = in_map (site_by by_id) s xs i in
    subst (λ s. In s (map (site_by by_id) ys) ⊎ IsCopy s) e (⊎_elim (λ k. inl (map_in (site_by by_id) x ys k)) (λ c. inr (copy_by x c)) (h x j))

pub ids_are_left : IdsAreLeft
ids_are_left n t left = record {
  names = subst (λ (a : Sites). AreKept a.sites (S program_place (by_ids t)).sites) (sym (sites_by by_id n program_place))
      (subst (λ (a : Sites). AreKept (map (site_by by_id) (S program_place n).sites) a.sites) (sym (sites_by by_id t program_place)) (kept_by (S program_place n).sites (S program_place t).sites left.names));
  scopes = subst (λ (a : Sites). Sub a.sets (S program_place (by_ids t)).sets) (sym (sites_by by_id n program_place))
      (subst (λ (a : Sites). Sub (map (map (bound_by by_id)) (S program_place n).sets) a.sets) (sym (sites_by by_id t program_place)) (sub_map (map (bound_by by_id)) (S program_place n).sets (S program_place t).sets left.scopes));
}
