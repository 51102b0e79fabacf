-- A tree keeps the scopes of another where both are read by other names.
use Rattle.std.proofs.Common.{◌≡◌, ℕ, zero, suc, Bool, true, false, Option, Some, None, List, [], ◌∷◌, ◌++◌, map, refl, sym, ap, ◌∙◌, subst, cond}
use Rattle.std.specs.List.{filter}
use Rattle.std.proofs.lemmas.List.{map-append}
use Rattle.swc_tree_marks.specs.declared.ident.Ident.{Ident}
use Rattle.swc_tree_node.specs.declared.node.Node.{Node, out-Node}
use Rattle.swc_tree_node.specs.declared.node.Node.TheOpen.{Node-F}
use Rattle.swc_tree_scoping.specs.declared.places.Place.{Place}
use Rattle.swc_tree_scoping.specs.declared.places.Scope.{Scope}
use Rattle.swc_tree_scoping.specs.declared.places.Standing.{Standing}
use Rattle.swc_tree_scoping.specs.declared.places.Standing.TheVariants as standing
use Rattle.swc_tree_scoping.specs.declared.places.View.{View}
use Rattle.swc_tree_scoping.specs.Places.{children_in, is_inside, opened, place_below, program_place}
use Rattle.swc_tree_scoping.specs.Folds.{each_in}
use Rattle.swc_tree_scoping.specs.Readings.{with_identifiers}
use Rattle.swc_tree_scoping.specs.Scopes.{takes, view_in}
use Rattle.swc_tree_renaming.proofs.Blank.{layer, opened_same, out_is, place_same, view_same}
use Rattle.swc_tree_sites.specs.Sites.{Binding, Entry, Site, Sites, kids, pending_where, taken_at, taken_in, taken_of}
use Rattle.swc_tree_sites.specs.Smaller.{In}
use Rattle.swc_tree_sites.proofs.Found.{in_map, map_in}
use Rattle.swc_tree_sites.proofs.Kept.{S}
use Rattle.swc_tree_sites_laws.proofs.LeftByIds.{bound_by, site_by, sites_by}
use Rattle.swc_tree_sites_kept.specs.Errors.{KeepsScopes, ReadingsKeepScopes}

module _ (f : Ident → Ident) where
  abbrev B : Node → Node
  B = with_identifiers f

  abbrev bound : Binding → Binding
  bound = bound_by f

  abbrev entries : Entry → Entry
  entries e = (map bound e.0, e.1)

  abbrev renamed : Sites → Sites
  renamed a = record { pending = map bound a.pending; sites = map (site_by f) a.sites; sets = map (map bound) a.sets }

  cond_by : (b : Bool) (bs : List Binding) → cond b (map bound bs) [] ≡ map bound (cond b bs [])
  cond_by true bs = refl
  cond_by false bs = refl

  pending_by : (g : View → Bool) (views : ℕ → View) (cs : List Sites) → pending_where g views (map renamed cs) ≡ map bound (pending_where g views cs)
  pending_by g views [] = refl
  pending_by g views (c ∷ cs) =
      ap (λ p. p ++ pending_where g (λ i. views (suc i)) (map renamed cs)) (cond_by (g (views zero)) c.pending)
      ∙ ap (λ p. map bound (cond (g (views zero)) c.pending []) ++ p) (pending_by g (λ i. views (suc i)) cs)
      ∙ sym (map-append bound (cond (g (views zero)) c.pending []) (pending_where g (λ i. views (suc i)) cs))

  filter_if : (c : Bool) (b : Binding) (bs cs : List Binding) → cs ≡ map bound bs → cond c (bound b ∷ cs) cs ≡ map bound (cond c (b ∷ bs) bs)
  filter_if true b bs cs e = ap (λ l. bound b ∷ l) e
  filter_if false b bs cs e = e

  filter_by : (p : Standing → Bool) (bs : List Binding) → filter (λ (b : Binding). p b.0) (map bound bs) ≡ map bound (filter (λ (b : Binding). p b.0) bs)
  filter_by p [] = refl
  filter_by p (b ∷ bs) = filter_if (p b.0) b (filter (λ (b : Binding). p b.0) bs) (filter (λ (b : Binding). p b.0) (map bound bs)) (filter_by p bs)

  taken_of_by : (s : Scope) (views : ℕ → View) (cs : List Sites) → taken_of s views (map renamed cs) ≡ map bound (taken_of s views cs)
  taken_of_by s views cs = ap (filter (λ (b : Binding). takes b.0 s)) (pending_by is_inside views cs) ∙ filter_by (λ r. takes r s) (pending_where is_inside views cs)

  children_by : (y : Node-F Node) → children_in (layer f y) ≡ map B (children_in y)
  children_by (Node-F.List ts) = refl
  children_by (Node-F.Tree k ts) = refl
  children_by (Node-F.Identifier k i) = refl
  children_by _ = refl

  each_by : (places : ℕ → Place) (ts : List Node) → each_in S places (map B ts) ≡ map renamed (each_in S places ts)
  each_by places [] = refl
  each_by places (t ∷ ts) = ap (λ a. a ∷ each_in S (λ i. places (suc i)) (map B ts)) (sites_by f t (places zero)) ∙ ap (λ l. renamed (S (places zero) t) ∷ l) (each_by (λ i. places (suc i)) ts)

  kids_by : (w : Place) (t : Node) → kids w (B t) ≡ map renamed (kids w t)
  kids_by w t =
      ap (each_in S (place_below w (B t))) (ap children_in (out_is f t) ∙ children_by (out-Node t)) ∙ ap (λ v. each_in S v (map B (children_in (out-Node t)))) (λ j i. place_same f w t i j)
      ∙ each_by (place_below w t) (children_in (out-Node t))

  taken_by_names : (w : Place) (t : Node) → taken_at w (B t) ≡ map bound (taken_at w t)
  taken_by_names w t = ap (taken_in w (B t)) (opened_same f w t) ∙ at (opened w t)
    where
      at : (o : Option Scope) → taken_in w (B t) o ≡ map bound (taken_in w t o)
      at None = refl
      at (Some s) =
          ap (taken_of s (view_in (out-Node (B t)))) (kids_by w t) ∙ ap (λ v. taken_of s v (map renamed (kids w t))) (λ j i. view_same f t i j) ∙ taken_of_by s (view_in (out-Node t)) (kids w t)

  by_sites : (t : Node) → S program_place (B t) ≡ renamed (S program_place t)
  by_sites t = sites_by f t program_place

  so_named : (r : Standing) (s : Site) → s.0 ≡ r → s ≡ (r, s.1, s.2)
  so_named r s e = λ i. (e i, s.1, s.2)

  pub keeps_by : (t n : Node) → KeepsScopes n t → KeepsScopes (B n) (B t)
  keeps_by t n keeps = record {
    variables = λ i env h.
        let (s, j, e) = in_map (site_by f) (standing.Variable, i, env) (S program_place n).sites (subst (λ (a : Sites). In {X = Site} (standing.Variable, i, env) a.sites) (by_sites n) h) in
        let way : s.0 ≡ standing.Variable = ap (λ (s : Site). s.0) e in
        let is = so_named standing.Variable s way in
        let there = keeps.variables s.1 s.2 (subst (λ s. In s (S program_place n).sites) is j) in
        let image = subst (λ s. In s (map (site_by f) (S program_place t).sites)) (ap (site_by f) (sym is) ∙ e) (map_in (site_by f) (standing.Variable, s.1, s.2) (S program_place t).sites there) in
        subst (λ (a : Sites). In {X = Site} (standing.Variable, i, env) a.sites) (sym (by_sites t)) image;
    sets = λ bs h.
        let (cs, j, e) = in_map (map bound) bs (S program_place n).sets (subst (λ (a : Sites). In bs a.sets) (by_sites n) h) in
        subst (λ (a : Sites). In bs a.sets) (sym (by_sites t)) (subst (λ x. In x (map (map bound) (S program_place t).sets)) e (map_in (map bound) cs (S program_place t).sets (keeps.sets cs j)));
    program = taken_by_names program_place n ∙ ap (map bound) keeps.program ∙ sym (taken_by_names program_place t);
  }

pub readings_keep_scopes : ReadingsKeepScopes
readings_keep_scopes f t n keeps = keeps_by f t n keeps
