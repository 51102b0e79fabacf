-- Trees that are the same but for identifiers have the same names and scopes once the identifiers are changed, where the changed bindings and references
-- agree.
use Rattle.std.proofs.Common.{◌≡◌, ℕ, zero, suc, Bool, true, false, ◌||◌, Some, List, [], ◌∷◌, map, refl, sym, ap, ◌∙◌, cond}
use Rattle.std.specs.List.{slice_get}
use Rattle.swc_tree_marks.specs.declared.ident.Ident.{Ident}
use Rattle.swc_tree_node.specs.declared.kind.Kind.{Kind}
use Rattle.swc_tree_node.specs.declared.node.Node.{Node, Identifier, out-Node}
use Rattle.swc_tree_node.specs.declared.node.Node.TheOpen.{Node-F}
use Rattle.swc_tree_scoping.specs.declared.places.Standing.{Standing}
use Rattle.swc_tree_scoping.specs.declared.places.Place.{Place}
use Rattle.swc_tree_scoping.specs.Folds.{each_in}
use Rattle.swc_tree_scoping.specs.Places.{Path, child, children_in, opened, place_at, place_below}
use Rattle.swc_tree_scoping.specs.Readings.{with_identifiers}
use Rattle.swc_tree_scoping.specs.Scopes.{is_binding, is_name, is_reference, view_in}
use Rattle.swc_tree_scoping.proofs.Remarked.{identifier_is}
use Rattle.swc_tree_scoping.proofs.Under.{by_children, place_under}
use Rattle.swc_tree_renaming.specs.Apart.{nameless, no_name}
use Rattle.swc_tree_renaming.proofs.Blank.{layer, opened_same, out_is, place_same, view_same}
use Rattle.swc_tree_sites.specs.Sites.{Binding, Site, counted, in_scope, kids, name_sites}
use Rattle.swc_tree_sites.proofs.Kept.{out_step}
use Rattle.swc_tree_sites.proofs.Loose.{S, is_no_identifier, plain_is, step_is}

-- ---- nodes whose identifiers are changed

children_of_layer : (f : Ident → Ident) (y : Node-F Node) → children_in (layer f y) ≡ map (with_identifiers f) (children_in y)
children_of_layer f (Node-F.Tree k ts) = refl
children_of_layer f (Node-F.List ts) = refl
children_of_layer f (Node-F.Identifier k i) = refl
children_of_layer f Node-F.Absent = refl
children_of_layer f _ = refl

children_are : (f : Ident → Ident) (t : Node) → children_in (out-Node (with_identifiers f t)) ≡ map (with_identifiers f) (children_in (out-Node t))
children_are f t = ap children_in (out_is f t) ∙ children_of_layer f (out-Node t)

no_identifier_layer : (f : Ident → Ident) (y : Node-F Node) → is_no_identifier (layer f y) ≡ is_no_identifier y
no_identifier_layer f (Node-F.Identifier k i) = refl
no_identifier_layer f Node-F.Absent = refl
no_identifier_layer f _ = refl

no_identifier : (f : Ident → Ident) (t : Node) → is_no_identifier (out-Node (with_identifiers f t)) ≡ is_no_identifier (out-Node t)
no_identifier f t = ap is_no_identifier (out_is f t) ∙ no_identifier_layer f (out-Node t)

abbrev L : Node-F Node → Node-F Node
L = layer (λ i. no_name)

identifier_layer : (k : Kind) (y : Node-F Node) → L y ≡ Node-F.Identifier k no_name → (l : Kind) × (j : Ident) × (y ≡ Node-F.Identifier l j)
identifier_layer k (Node-F.Identifier l j) e = (l, j, refl)
identifier_layer k Node-F.Absent e = absurd (cc)
identifier_layer k (Node-F.Flag x) e = absurd (cc)
identifier_layer k (Node-F.Word x) e = absurd (cc)
identifier_layer k (Node-F.Text x) e = absurd (cc)
identifier_layer k (Node-F.Span x) e = absurd (cc)
identifier_layer k (Node-F.List x) e = absurd (cc)
identifier_layer k (Node-F.Tree l x) e = absurd (cc)

-- a node that is no identifier, by its children
whole : (w : Place) (t : Node) → is_no_identifier (out-Node t) ≡ true → S w t ≡ in_scope (opened w t) (view_in (out-Node t)) (each_in S (place_below w t) (children_in (out-Node t)))
whole w t n = step_is w t ∙ plain_is w (out-Node t) (opened w t) (view_in (out-Node t)) (kids w t) n

-- ---- names

or_left : (a b : Bool) → (a || b) ≡ false → a ≡ false
or_left true b h = absurd (cc)
or_left false b h = refl

unless : {X : Type 0} (b : Bool) (xs ys : List X) → b ≡ false → cond b xs [] ≡ cond b ys []
unless true xs ys h = absurd (cc)
unless false xs ys h = refl

-- what stands as no name has no sites
quiet : (r : Standing) (i j : Ident) → is_name r ≡ false → name_sites r i ≡ name_sites r j
quiet r i j e =
    let none : is_binding r ≡ false = or_left (is_binding r) (is_reference r) e in
    (λ n. record {
      pending = unless {X = Binding} (is_binding r) ((r, i) ∷ []) ((r, j) ∷ []) none n;
      sites = unless {X = Site} (is_name r) ((counted r, i, []) ∷ []) ((counted r, j, []) ∷ []) e n;
      sets = [];
    })

names_same : (r : Standing) (i j : Ident) (b : Bool) → is_name r ≡ b → (b ≡ true → i ≡ j) → name_sites r i ≡ name_sites r j
names_same r i j true e h = ap (name_sites r) (h refl)
names_same r i j false e h = quiet r i j e

-- ---- trees

module _ (f : Ident → Ident) where
  abbrev B : Node → Node
  B = with_identifiers f

  -- the bindings and references of the two
  abbrev pub Agree : Place → Node → Node → Type 0
  Agree w t u = (p : Path) (v : Place) (k l : Kind) (i j : Ident) → place_at w t p ≡ Some (v, Identifier k i) → place_at w u p ≡ Some (v, Identifier l j) → is_name v.standing ≡ true → f i ≡ f j

  abbrev Same : Node → Type 0
  Same t = (u : Node) (w : Place) → nameless t ≡ nameless u → Agree w t u → S w (B t) ≡ S w (B u)

  each_same : (ts us : List Node) (places : ℕ → Place) → map nameless ts ≡ map nameless us
      → ((i : ℕ) (c d : Node) → slice_get ts i ≡ Some c → slice_get us i ≡ Some d → nameless c ≡ nameless d → S (places i) (B c) ≡ S (places i) (B d)) → each_in S places (map B ts) ≡ each_in S places (map B us)
  each_same [] [] places e h = refl
  each_same [] (u ∷ us) places e h = let z : [] ≡ nameless u ∷ map nameless us = e in absurd (cc)
  each_same (t ∷ ts) [] places e h = let z : nameless t ∷ map nameless ts ≡ [] = e in absurd (cc)
  each_same (t ∷ ts) (u ∷ us) places e h =
      let both : nameless t ∷ map nameless ts ≡ nameless u ∷ map nameless us = e in
      let first : nameless t ≡ nameless u = cc in
      let rest : map nameless ts ≡ map nameless us = cc in
      ap (λ a. a ∷ each_in S (λ i. places (suc i)) (map B ts)) (h zero t u refl refl first)
      ∙ ap (λ l. S (places zero) (B u) ∷ l) (each_same ts us (λ i. places (suc i)) rest (λ i. h (suc i)))

  module _ (t u : Node) (w : Place) (shape : nameless t ≡ nameless u) (agree : Agree w t u) where
    -- what does not rest on identifiers is the same
    through : {A : Type 0} (g : Node → A) → ((h : Ident → Ident) (t : Node) → g (with_identifiers h t) ≡ g t) → g t ≡ g u
    through g same = sym (same (λ i. no_name) t) ∙ ap g shape ∙ same (λ i. no_name) u

    changed : {A : Type 0} (g : Node → A) → ((h : Ident → Ident) (t : Node) → g (with_identifiers h t) ≡ g t) → g (B t) ≡ g (B u)
    changed g same = same f t ∙ through g same ∙ sym (same f u)

    kids_same : map nameless (children_in (out-Node t)) ≡ map nameless (children_in (out-Node u))
    kids_same = sym (children_are (λ i. no_name) t) ∙ ap (λ t. children_in (out-Node t)) shape ∙ children_are (λ i. no_name) u

    below_t : (i : ℕ) → place_below w t i ≡ place_below w (B u) i
    below_t i = through (λ t. place_below w t i) (λ h t. place_same h w t i) ∙ sym (place_same f w u i)

    below_u : (i : ℕ) → place_below w u i ≡ place_below w (B u) i
    below_u i = sym (place_same f w u i)

    agree_below : (i : ℕ) (c d : Node) → child t i ≡ Some c → child u i ≡ Some d → Agree (place_below w (B u) i) c d
    agree_below i c d e g p v k l a b x y names =
        agree (i ∷ p) v k l a b (place_under w t c i p e ∙ ap (λ w. place_at w c p) (below_t i) ∙ x) (place_under w u d i p g ∙ ap (λ w. place_at w d p) (below_u i) ∙ y) names

    others : ((i : ℕ) (c : Node) → child t i ≡ Some c → Same c) → is_no_identifier (out-Node t) ≡ true → S w (B t) ≡ S w (B u)
    others below n =
        whole w (B t) (no_identifier f t ∙ n)
        ∙ ap (λ l. in_scope (opened w (B t)) (view_in (out-Node (B t))) (each_in S (place_below w (B t)) l)) (children_are f t)
        ∙ ap (λ o. in_scope o (view_in (out-Node (B t))) (each_in S (place_below w (B t)) (map B (children_in (out-Node t))))) (changed (opened w) (λ h t. opened_same h w t))
        ∙ ap (λ v. in_scope (opened w (B u)) v (each_in S (place_below w (B t)) (map B (children_in (out-Node t))))) (λ j i. changed (λ t. view_in (out-Node t) i) (λ h t. view_same h t i) j)
        ∙ ap (λ p. in_scope (opened w (B u)) (view_in (out-Node (B u))) (each_in S p (map B (children_in (out-Node t))))) (λ j i. changed (λ t. place_below w t i) (λ h t. place_same h w t i) j)
        ∙ ap (in_scope (opened w (B u)) (view_in (out-Node (B u))))
        (each_same (children_in (out-Node t)) (children_in (out-Node u)) (place_below w (B u)) kids_same (λ i c d e g same. below i c e d (place_below w (B u) i) same (agree_below i c d e g)))
        ∙ ap (λ l. in_scope (opened w (B u)) (view_in (out-Node (B u))) (each_in S (place_below w (B u)) l)) (sym (children_are f u))
        ∙ sym (whole w (B u) (no_identifier f u ∙ sym (through (λ t. is_no_identifier (out-Node t)) no_identifier) ∙ n))

    one : (k : Kind) (i : Ident) → out-Node t ≡ Node-F.Identifier k i → S w (B t) ≡ S w (B u)
    one k i o =
        let (l, j, e) = identifier_layer k (out-Node u) (sym (out_is (λ i. no_name) u) ∙ ap out-Node (sym shape) ∙ out_is (λ i. no_name) t ∙ ap L o) in
        out_step w (B t) (Node-F.Identifier k (f i)) (out_is f t ∙ ap (layer f) o)
        ∙ names_same w.standing (f i) (f j) (is_name w.standing) refl (agree [] w k l i j (ap (λ t. Some (w, t)) (identifier_is t k i o)) (ap (λ t. Some (w, t)) (identifier_is u l j e)))
        ∙ sym (out_step w (B u) (Node-F.Identifier l (f j)) (out_is f u ∙ ap (layer f) e))

    by_layer : ((i : ℕ) (c : Node) → child t i ≡ Some c → Same c) → (y : Node-F Node) → out-Node t ≡ y → S w (B t) ≡ S w (B u)
    by_layer below (Node-F.Identifier k i) o = one k i o
    by_layer below Node-F.Absent o = others below (ap is_no_identifier o)
    by_layer below (Node-F.Flag x) o = others below (ap is_no_identifier o)
    by_layer below (Node-F.Word x) o = others below (ap is_no_identifier o)
    by_layer below (Node-F.Text x) o = others below (ap is_no_identifier o)
    by_layer below (Node-F.Span x) o = others below (ap is_no_identifier o)
    by_layer below (Node-F.List x) o = others below (ap is_no_identifier o)
    by_layer below (Node-F.Tree k x) o = others below (ap is_no_identifier o)

  pub alike_sites : (t : Node) → Same t
  alike_sites = by_children Same (λ t below u w shape agree. by_layer t u w shape agree below (out-Node t) refl)
