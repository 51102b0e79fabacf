-- What a module exports in lists stands at paths that a module of the same shape has too.
use Rattle.std.proofs.Common.{◌≡◌, ℕ, zero, suc, Bool, true, false, not, inl, inr, ⊎_elim, Some, List, [], ◌∷◌, map, refl, sym, ap, ◌∙◌, subst, cond}
use Rattle.std.specs.List.{flat_map, slice_get}
use Rattle.swc_tree_marks.specs.declared.ident.Ident.{Ident}
use Rattle.swc_tree_node.specs.declared.kind.Kind.{Kind}
use Rattle.swc_tree_node.specs.declared.kind.Kind.TheVariants as kind
use Rattle.swc_tree_node.specs.declared.node.Node.{Node, Identifier, out-Node}
use Rattle.swc_tree_node.specs.declared.node.Node.TheOpen.{Node-F}
use Rattle.swc_tree_scoping.specs.declared.places.Place.{Place}
use Rattle.swc_tree_scoping.specs.declared.places.Standing.TheVariants as standing
use Rattle.swc_tree_scoping.specs.Places.{Path, absent_in, children_in, place_at, place_in, program_place}
use Rattle.swc_tree_scoping.specs.WellScoped.{InExportList}
use Rattle.swc_tree_scoping.proofs.Remarked.{identifier_is, tree_is}
use Rattle.swc_tree_scoping.proofs.Under.{place_under}
use Rattle.swc_tree_grammar.specs.Levels.{is_absent, is_absent_in}
use Rattle.swc_tree_grammar.specs.Shapes.{items_in, items_of}
use Rattle.swc_tree_sites.specs.Smaller.{In}
use Rattle.swc_tree_sites.proofs.Loose.{in_cases, in_left, in_right}
use Rattle.swc_tree_sites_laws.proofs.Expressions.{P}
use Rattle.swc_tree_sites_kept.specs.Exported.{exported_locals, item_in, listed, module_in, name_in, specified, specifier_in}
use Rattle.swc_base_rename_laws.specs.NewNames.{outline}
use Rattle.swc_base_rename_laws.proofs.Outline.{layer, out_is}

abbrev Top : Place
Top = P standing.Plain false

abbrev pub Local : Place
Local = P standing.Reference false

-- ---- what is listed, step by step

from_flat : (f : Node → List Ident) (ts : List Node) (i : Ident) → In i (flat_map f ts) → (n : ℕ) × (c : Node) × (slice_get ts n ≡ Some c) × In i (f c)
from_flat f [] i h = absurd h
from_flat f (t ∷ ts) i h = ⊎_elim (λ g. (zero, t, refl, g)) (λ g. let (n, c, e, k) = from_flat f ts i g in (suc n, c, e, k)) (in_cases i (f t) (flat_map f ts) h)

to_flat : (f : Node → List Ident) (ts : List Node) (n : ℕ) (c : Node) (i : Ident) → slice_get ts n ≡ Some c → In i (f c) → In i (flat_map f ts)
to_flat f [] n c i e h = absurd (cc)
to_flat f (t ∷ ts) zero c i e h = let same : t ≡ c = cc in in_left i (f t) (flat_map f ts) (subst (λ c. In i (f c)) (sym same) h)
to_flat f (t ∷ ts) (suc n) c i e h = in_right i (f t) (flat_map f ts) (to_flat f ts n c i e h)

at_name : (y : Node-F Node) (i : Ident) → In i (name_in y) → (k : Kind) × (y ≡ Node-F.Identifier k i)
at_name (Node-F.Identifier k j) i (inl e) = (k, ap (λ i. Node-F.Identifier k i) e)
at_name (Node-F.Identifier k j) i (inr h) = absurd h
at_name Node-F.Absent i h = absurd h
at_name _ i h = absurd h

at_specifier : (y : Node-F Node) (i : Ident) → In i (specifier_in y) → (q o e : Node) × (y ≡ Node-F.Tree kind.ExportNamedSpecifier (q ∷ o ∷ e ∷ [])) × In i (name_in (out-Node o))
at_specifier (Node-F.Tree kind.ExportNamedSpecifier (q ∷ o ∷ e ∷ [])) i h = (q, o, e, refl, h)
at_specifier Node-F.Absent i h = absurd h
at_specifier _ i h = absurd h

at_item : (y : Node-F Node) (i : Ident) → In i (item_in y) → (a b s d : Node) × (y ≡ Node-F.Tree kind.NamedExport (a ∷ b ∷ s ∷ d ∷ [])) × (is_absent s ≡ true) × In i (flat_map specified (items_of b))
at_item (Node-F.Tree kind.NamedExport (a ∷ b ∷ s ∷ d ∷ [])) i h = by (is_absent s) refl h
  where
    by : (z : Bool) → is_absent s ≡ z → In i (cond z (flat_map specified (items_of b)) [])
        → (e f g l : Node) × (Node-F.Tree kind.NamedExport (a ∷ b ∷ s ∷ d ∷ []) ≡ Node-F.Tree kind.NamedExport (e ∷ f ∷ g ∷ l ∷ [])) × (is_absent g ≡ true) × In i (flat_map specified (items_of f))
    by true e h = (a, b, s, d, refl, e, h)
    by false e h = absurd h
at_item Node-F.Absent i h = absurd h
at_item _ i h = absurd h

at_module : (y : Node-F Node) (i : Ident) → In i (module_in y) → (a b c : Node) × (y ≡ Node-F.Tree kind.Module (a ∷ b ∷ c ∷ [])) × In i (flat_map listed (items_of b))
at_module (Node-F.Tree kind.Module (a ∷ b ∷ c ∷ [])) i h = (a, b, c, refl, h)
at_module Node-F.Absent i h = absurd h
at_module _ i h = absurd h

at_list : (t : Node) (y : Node-F Node) (n : ℕ) (c : Node) → out-Node t ≡ y → slice_get (items_in y) n ≡ Some c → (ts : List Node) × (out-Node t ≡ Node-F.List ts) × (slice_get ts n ≡ Some c)
at_list t (Node-F.List ts) n c o e = (ts, o, e)
at_list t Node-F.Absent n c o e = absurd (cc)
at_list t _ n c o e = absurd (cc)

-- ---- trees of one shape

module _ (t u : Node) (same : outline t ≡ outline u) where
  layers : (y : Node-F Node) → out-Node t ≡ y → layer (out-Node u) ≡ layer y
  layers y o = sym (out_is u) ∙ ap out-Node (sym same) ∙ out_is t ∙ ap layer o

  like_tree : (k : Kind) (ts : List Node) → out-Node t ≡ Node-F.Tree k ts → (us : List Node) × (out-Node u ≡ Node-F.Tree k us) × (map outline ts ≡ map outline us)
  like_tree k ts o = at (out-Node u) refl (layers _ o)
    where
      at : (y : Node-F Node) → out-Node u ≡ y → layer (out-Node u) ≡ Node-F.Tree k (map outline ts) → (us : List Node) × (out-Node u ≡ Node-F.Tree k us) × (map outline ts ≡ map outline us)
      at (Node-F.Tree l us) e h =
          let z : Node-F.Tree l (map outline us) ≡ Node-F.Tree k (map outline ts) = sym (ap layer e) ∙ h in
          let one : l ≡ k = cc in
          let rest : map outline ts ≡ map outline us = cc in
          (us, e ∙ ap (λ l. Node-F.Tree l us) one, rest)
      at Node-F.Absent e h = let z = sym (ap layer e) ∙ h in absurd (cc)
      at (Node-F.Flag x) e h = let z = sym (ap layer e) ∙ h in absurd (cc)
      at (Node-F.Word x) e h = let z = sym (ap layer e) ∙ h in absurd (cc)
      at (Node-F.Text x) e h = let z = sym (ap layer e) ∙ h in absurd (cc)
      at (Node-F.Span x) e h = let z = sym (ap layer e) ∙ h in absurd (cc)
      at (Node-F.List x) e h = let z = sym (ap layer e) ∙ h in absurd (cc)
      at (Node-F.Identifier l x) e h = let z = sym (ap layer e) ∙ h in absurd (cc)

  like_list : (ts : List Node) → out-Node t ≡ Node-F.List ts → (us : List Node) × (out-Node u ≡ Node-F.List us) × (map outline ts ≡ map outline us)
  like_list ts o = at (out-Node u) refl (layers _ o)
    where
      at : (y : Node-F Node) → out-Node u ≡ y → layer (out-Node u) ≡ Node-F.List (map outline ts) → (us : List Node) × (out-Node u ≡ Node-F.List us) × (map outline ts ≡ map outline us)
      at (Node-F.List us) e h =
          let z : Node-F.List (map outline us) ≡ Node-F.List (map outline ts) = sym (ap layer e) ∙ h in
          let rest : map outline ts ≡ map outline us = cc in
          (us, e, rest)
      at Node-F.Absent e h = let z = sym (ap layer e) ∙ h in absurd (cc)
      at (Node-F.Flag x) e h = let z = sym (ap layer e) ∙ h in absurd (cc)
      at (Node-F.Word x) e h = let z = sym (ap layer e) ∙ h in absurd (cc)
      at (Node-F.Text x) e h = let z = sym (ap layer e) ∙ h in absurd (cc)
      at (Node-F.Span x) e h = let z = sym (ap layer e) ∙ h in absurd (cc)
      at (Node-F.Tree k x) e h = let z = sym (ap layer e) ∙ h in absurd (cc)
      at (Node-F.Identifier l x) e h = let z = sym (ap layer e) ∙ h in absurd (cc)

  like_name : (k : Kind) (i : Ident) → out-Node t ≡ Node-F.Identifier k i → (j : Ident) × (out-Node u ≡ Node-F.Identifier k j)
  like_name k i o = at (out-Node u) refl (layers _ o)
    where
      at : (y : Node-F Node) → out-Node u ≡ y → layer (out-Node u) ≡ layer (Node-F.Identifier k i) → (j : Ident) × (out-Node u ≡ Node-F.Identifier k j)
      at (Node-F.Identifier l j) e h =
          let z = sym (ap layer e) ∙ h in
          let one : l ≡ k = cc in
          (j, e ∙ ap (λ l. Node-F.Identifier l j) one)
      at Node-F.Absent e h = let z = sym (ap layer e) ∙ h in absurd (cc)
      at (Node-F.Flag x) e h = let z = sym (ap layer e) ∙ h in absurd (cc)
      at (Node-F.Word x) e h = let z = sym (ap layer e) ∙ h in absurd (cc)
      at (Node-F.Text x) e h = let z = sym (ap layer e) ∙ h in absurd (cc)
      at (Node-F.Span x) e h = let z = sym (ap layer e) ∙ h in absurd (cc)
      at (Node-F.Tree l x) e h = let z = sym (ap layer e) ∙ h in absurd (cc)
      at (Node-F.List x) e h = let z = sym (ap layer e) ∙ h in absurd (cc)

  like_absent : is_absent t ≡ true → is_absent u ≡ true
  like_absent h = sym (kept (out-Node u)) ∙ ap is_absent_in (layers (out-Node t) refl) ∙ kept (out-Node t) ∙ h
    where
      kept : (y : Node-F Node) → is_absent_in (layer y) ≡ is_absent_in y
      kept Node-F.Absent = refl
      kept (Node-F.Identifier k i) = refl
      kept (Node-F.Span s) = refl
      kept _ = refl

like_three : (x y z : Node) (us : List Node) → outline x ∷ outline y ∷ outline z ∷ [] ≡ map outline us → (a b c : Node) × (us ≡ a ∷ b ∷ c ∷ []) × (outline x ≡ outline a) × (outline y ≡ outline b) × (outline z ≡ outline c)
like_three x y z [] h = absurd (cc)
like_three x y z (a ∷ []) h = absurd (cc)
like_three x y z (a ∷ b ∷ []) h = absurd (cc)
like_three x y z (a ∷ b ∷ c ∷ []) h = let e : outline x ≡ outline a = cc in let f : outline y ≡ outline b = cc in let g : outline z ≡ outline c = cc in (a, b, c, refl, e, f, g)
like_three x y z (a ∷ b ∷ c ∷ d ∷ us) h = absurd (cc)

like_four : (x y z w : Node) (us : List Node) → outline x ∷ outline y ∷ outline z ∷ outline w ∷ [] ≡ map outline us → (a b c d : Node) × (us ≡ a ∷ b ∷ c ∷ d ∷ []) × (outline y ≡ outline b) × (outline z ≡ outline c)
like_four x y z w [] h = absurd (cc)
like_four x y z w (a ∷ []) h = absurd (cc)
like_four x y z w (a ∷ b ∷ []) h = absurd (cc)
like_four x y z w (a ∷ b ∷ c ∷ []) h = absurd (cc)
like_four x y z w (a ∷ b ∷ c ∷ d ∷ []) h = let f : outline y ≡ outline b = cc in let g : outline z ≡ outline c = cc in (a, b, c, d, refl, f, g)
like_four x y z w (a ∷ b ∷ c ∷ d ∷ e ∷ us) h = absurd (cc)

like_at : (ts us : List Node) (n : ℕ) (c : Node) → map outline ts ≡ map outline us → slice_get ts n ≡ Some c → (d : Node) × (slice_get us n ≡ Some d) × (outline c ≡ outline d)
like_at [] us n c h e = absurd (cc)
like_at (t ∷ ts) [] n c h e = absurd (cc)
like_at (t ∷ ts) (u ∷ us) zero c h e = let same : t ≡ c = cc in let one : outline t ≡ outline u = cc in (u, refl, ap outline (sym same) ∙ one)
like_at (t ∷ ts) (u ∷ us) (suc n) c h e = let rest : map outline ts ≡ map outline us = cc in like_at ts us n c rest e

-- ---- where it stands

under : (w v : Place) (t c : Node) (y : Node-F Node) (j : ℕ) (p : Path) → out-Node t ≡ y → slice_get (children_in y) j ≡ Some c → place_in w y j ≡ v → place_at w t (j ∷ p) ≡ place_at v c p
under w v t c y j p o e g = place_under w t c j p (ap (λ y. slice_get (children_in y) j) o ∙ e) ∙ ap (λ v. place_at v c p) (ap (λ y. place_in w y j) o ∙ g)

absent_there : (y : Node-F Node) → is_absent_in y ≡ true → absent_in y ≡ true
absent_there Node-F.Absent h = refl
absent_there _ h = absurd (cc)

-- a name of an export list, and the one that stands there in a module of the same shape
pub record Found (t u : Node) (i : Ident) : Type 0 where
  pub path : Path
  pub kind : Kind
  pub other : Ident
  pub listed : InExportList t path
  pub stands : place_at program_place t path ≡ Some (Local, Identifier kind i)
  pub there : place_at program_place u path ≡ Some (Local, Identifier kind other)
  pub own : In other (exported_locals u)

-- the path of a specifier's name
list_place : (a b s d : Node) → is_absent s ≡ true → place_in Top (Node-F.Tree kind.NamedExport (a ∷ b ∷ s ∷ d ∷ [])) 1 ≡ Local
list_place a b s d h = ap (λ z. P (cond (not z) standing.Imported standing.Reference) false) (absent_there (out-Node s) h)

local_at : (t x y z c a b s d v q o e : Node) (ts us : List Node) (n m : ℕ) (k : Kind) (i : Ident) → out-Node t ≡ Node-F.Tree kind.Module (x ∷ y ∷ z ∷ []) → out-Node y ≡ Node-F.List ts → slice_get ts n ≡ Some c
    → out-Node c ≡ Node-F.Tree kind.NamedExport (a ∷ b ∷ s ∷ d ∷ []) → is_absent s ≡ true → out-Node b ≡ Node-F.List us → slice_get us m ≡ Some v → out-Node v ≡ Node-F.Tree kind.ExportNamedSpecifier (q ∷ o ∷ e ∷ [])
    → out-Node o ≡ Node-F.Identifier k i → place_at program_place t (1 ∷ n ∷ 1 ∷ m ∷ 1 ∷ []) ≡ Some (Local, Identifier k i)
local_at t x y z c a b s d v q o e ts us n m k i ot oy ey oc hs ob eb ov oo =
    under program_place Top t y _ 1 (n ∷ 1 ∷ m ∷ 1 ∷ []) ot refl refl ∙ under Top Top y c _ n (1 ∷ m ∷ 1 ∷ []) oy ey refl ∙ under Top Local c b _ 1 (m ∷ 1 ∷ []) oc refl (list_place a b s d hs)
    ∙ under Local Local b v _ m (1 ∷ []) ob eb refl ∙ under Local Local v o _ 1 [] ov refl refl ∙ ap (λ o. Some (Local, o)) (identifier_is o k i oo)

pub found : (t u : Node) (i : Ident) → outline t ≡ outline u → In i (exported_locals t) → Found t u i
found t u i same h =
    let (x, y, z, ot, h1) = at_module (out-Node t) i h in
    let (n, c, e1, h2) = from_flat listed (items_of y) i h1 in
    let (ts, oy, ey) = at_list y (out-Node y) n c refl e1 in
    let (a, b, s, d, oc, hs, h3) = at_item (out-Node c) i h2 in
    let (m, v, e2, h4) = from_flat specified (items_of b) i h3 in
    let (us, ob, eb) = at_list b (out-Node b) m v refl e2 in
    let (q, o, e, ov, h5) = at_specifier (out-Node v) i h4 in
    let (k, oo) = at_name (out-Node o) i h5 in
    let (ls, ou, l1) = like_tree t u same kind.Module (x ∷ y ∷ z ∷ []) ot in
    let (x', y', z', is1, sx, sy, sz) = like_three x y z ls l1 in
    let (ts', oy', l2) = like_list y y' sy ts oy in
    let (c', ey', sc) = like_at ts ts' n c l2 ey in
    let (ms, oc', l3) = like_tree c c' sc kind.NamedExport (a ∷ b ∷ s ∷ d ∷ []) oc in
    let (a', b', s', d', is2, sb, ss) = like_four a b s d ms l3 in
    let (us', ob', l4) = like_list b b' sb us ob in
    let (v', eb', sv) = like_at us us' m v l4 eb in
    let (ns, ov', l5) = like_tree v v' sv kind.ExportNamedSpecifier (q ∷ o ∷ e ∷ []) ov in
    let (q', o', e', is3, sq, so, se) = like_three q o e ns l5 in
    let (j, oo') = like_name o o' so k i oo in
    let hs' = like_absent s s' ss hs in
    let ou' = ou ∙ ap (λ l. Node-F.Tree kind.Module l) is1 in
    let oc'' = oc' ∙ ap (λ l. Node-F.Tree kind.NamedExport l) is2 in
    let ov'' = ov' ∙ ap (λ l. Node-F.Tree kind.ExportNamedSpecifier l) is3 in
    let name : In j (specified v') = subst (λ y. In j (specifier_in y)) (sym ov'') (subst (λ y. In j (name_in y)) (sym oo') (inl refl)) in
    let list : In j (listed c') = subst (λ y. In j (item_in y)) (sym oc'') (subst (λ z. In j (cond z (flat_map specified (items_of b')) [])) (sym hs')
    (subst (λ y. In j (flat_map specified (items_in y))) (sym ob') (to_flat specified us' m v' j eb' name))) in
    record {
      path = 1 ∷ n ∷ 1 ∷ m ∷ 1 ∷ [];
      kind = k;
      other = j;
      listed = (
        1 ∷ n ∷ [],
        m ∷ 1 ∷ [],
        1,
        Top,
        kind.NamedExport,
        a ∷ b ∷ s ∷ d ∷ [],
        refl,
        under program_place Top t y _ 1 (n ∷ []) ot refl refl ∙ under Top Top y c _ n [] oy ey refl ∙ ap (λ c. Some (Top, c)) (tree_is c kind.NamedExport (a ∷ b ∷ s ∷ d ∷ []) oc),
        refl,
      );
      stands = local_at t x y z c a b s d v q o e ts us n m k i ot oy ey oc hs ob eb ov oo;
      there = local_at u x' y' z' c' a' b' s' d' v' q' o' e' ts' us' n m k j ou' oy' ey' oc'' hs' ob' eb' ov'' oo';
      own = subst (λ y. In j (module_in y)) (sym ou') (subst (λ y. In j (flat_map listed (items_in y))) (sym oy') (to_flat listed ts' n c' j ey' list));
    }
