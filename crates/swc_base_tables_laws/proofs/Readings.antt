-- A tree with each identifier changed: what stands in it stood there before; and nodes in which no name stands.
use Rattle.std.proofs.Common.{◌≡◌, ℕ, Bool, true, false, IsTrue, Option, Some, None, List, [], ◌∷◌, map, refl, sym, ap, ◌∙◌, subst}
use Rattle.std.specs.List.{slice_get}
use Rattle.std.specs.Option.{option_map}
use Rattle.swc_tree_marks.specs.declared.ident.Ident.{Ident}
use Rattle.swc_tree_node.specs.declared.kind.Kind.{Kind}
use Rattle.swc_tree_node.specs.declared.kind.Kind.TheVariants as kind
use Rattle.swc_tree_node.specs.declared.node.Node.{Node, List as Many, Identifier, Tree, out-Node}
use Rattle.swc_tree_node.specs.declared.node.Node.TheOpen.{Node-F}
use Rattle.swc_tree_node.specs.declared.node.Node.TheVariants.{outs-Identifier, outs-List, outs-Tree}
use Rattle.swc_tree_scoping.specs.declared.places.Place.{Place}
use Rattle.swc_tree_scoping.specs.Places.{Path, children_in, child, place_at, place_below}
use Rattle.swc_tree_scoping.specs.Readings.{with_identifiers}
use Rattle.swc_tree_scoping.specs.WellScoped.{is_module}
use Rattle.swc_tree_scoping.proofs.Remarked.{identifier_is, tree_is}
use Rattle.swc_tree_scoping.proofs.Under.{no_place_under, place_under}
use Rattle.swc_tree_renaming.proofs.Blank.{layer, out_is, place_at_same}
use Rattle.swc_tree_renaming.proofs.Whole.{ProgramLayer, module_layer}
use Rattle.swc_base_resolver_laws.proofs.Same.{one_layer}
use Rattle.swc_base_tables_laws.proofs.Declarers.{some_same}
use Rattle.swc_base_tables_laws.proofs.Programs.{HasNoNames, program_of}

module _ (f : Ident → Ident) where
  abbrev F : Node → Node
  F = with_identifiers f

  changed_tree : (k : Kind) (ts : List Node) → F (Tree k ts) ≡ Tree k (map F ts)
  changed_tree k ts = one_layer (F (Tree k ts)) (Tree k (map F ts)) (out_is f (Tree k ts) ∙ ap (layer f) (outs-Tree k ts) ∙ sym (outs-Tree k (map F ts)))

  changed_list : (ts : List Node) → F (Many ts) ≡ Many (map F ts)
  changed_list ts = one_layer (F (Many ts)) (Many (map F ts)) (out_is f (Many ts) ∙ ap (layer f) (outs-List ts) ∙ sym (outs-List (map F ts)))

  pub changed_program : (k : Kind) (a z : Node) (body : List Node) → F (program_of k a body z) ≡ program_of k (F a) (map F body) (F z)
  changed_program k a z body = changed_tree k (a ∷ Many body ∷ z ∷ []) ∙ ap (λ l. Tree k (F a ∷ l ∷ F z ∷ [])) (changed_list body)

  -- an identifier of the changed node was one
  identifier_before : (n : Node) (y : Node-F Node) (k : Kind) (i : Ident) → out-Node n ≡ y → F n ≡ Identifier k i → (l : Kind) × (j : Ident) × (n ≡ Identifier l j) × (i ≡ f j)
  identifier_before n (Node-F.Identifier l j) k i o e =
      let z : layer f (Node-F.Identifier l j) ≡ Node-F.Identifier k i = sym (out_is f n ∙ ap (layer f) o) ∙ ap out-Node e ∙ outs-Identifier k i in
      let same : i ≡ f j = cc in
      (l, j, identifier_is n l j o, same)
  identifier_before n (Node-F.List ts) k i o e = let z : layer f (Node-F.List ts) ≡ Node-F.Identifier k i = sym (out_is f n ∙ ap (layer f) o) ∙ ap out-Node e ∙ outs-Identifier k i in absurd (cc)
  identifier_before n (Node-F.Tree l ts) k i o e = let z : layer f (Node-F.Tree l ts) ≡ Node-F.Identifier k i = sym (out_is f n ∙ ap (layer f) o) ∙ ap out-Node e ∙ outs-Identifier k i in absurd (cc)
  identifier_before n Node-F.Absent k i o e = let z : layer f Node-F.Absent ≡ Node-F.Identifier k i = sym (out_is f n ∙ ap (layer f) o) ∙ ap out-Node e ∙ outs-Identifier k i in absurd (cc)
  identifier_before n (Node-F.Flag x) k i o e = let z : layer f (Node-F.Flag x) ≡ Node-F.Identifier k i = sym (out_is f n ∙ ap (layer f) o) ∙ ap out-Node e ∙ outs-Identifier k i in absurd (cc)
  identifier_before n (Node-F.Word x) k i o e = let z : layer f (Node-F.Word x) ≡ Node-F.Identifier k i = sym (out_is f n ∙ ap (layer f) o) ∙ ap out-Node e ∙ outs-Identifier k i in absurd (cc)
  identifier_before n (Node-F.Text x) k i o e = let z : layer f (Node-F.Text x) ≡ Node-F.Identifier k i = sym (out_is f n ∙ ap (layer f) o) ∙ ap out-Node e ∙ outs-Identifier k i in absurd (cc)
  identifier_before n (Node-F.Span x) k i o e = let z : layer f (Node-F.Span x) ≡ Node-F.Identifier k i = sym (out_is f n ∙ ap (layer f) o) ∙ ap out-Node e ∙ outs-Identifier k i in absurd (cc)

  pub changed_before : (o : Option (Place × Node)) (v : Place) (k : Kind) (i : Ident) → option_map {U = Place × Node} (λ (q : Place × Node). (q.0, F q.1)) o ≡ Some (v, Identifier k i)
      → (l : Kind) × (j : Ident) × (o ≡ Some (v, Identifier l j)) × (i ≡ f j)
  changed_before None v k i e = absurd (cc)
  changed_before (Some (w, n)) v k i e =
      let both = some_same (w, F n) (v, Identifier k i) e in
      let (l, j, same, is) = identifier_before n (out-Node n) k i refl (ap (λ (q : Place × Node). q.1) both) in
      (l, j, ap (λ n. Some (w, n)) same ∙ ap (λ w. Some (w, Identifier l j)) (ap (λ (q : Place × Node). q.0) both), is)

  -- and a tree of it one of its kind
  tree_before : (n : Node) (y : Node-F Node) (k : Kind) (ts : List Node) → out-Node n ≡ y → F n ≡ Tree k ts → (us : List Node) × (n ≡ Tree k us)
  tree_before n (Node-F.Tree l us) k ts o e =
      let z : layer f (Node-F.Tree l us) ≡ Node-F.Tree k ts = sym (out_is f n ∙ ap (layer f) o) ∙ ap out-Node e ∙ outs-Tree k ts in
      let same : l ≡ k = cc in
      (us, tree_is n l us o ∙ ap (λ k. Tree k us) same)
  tree_before n (Node-F.List us) k ts o e = let z : layer f (Node-F.List us) ≡ Node-F.Tree k ts = sym (out_is f n ∙ ap (layer f) o) ∙ ap out-Node e ∙ outs-Tree k ts in absurd (cc)
  tree_before n (Node-F.Identifier l j) k ts o e = let z : layer f (Node-F.Identifier l j) ≡ Node-F.Tree k ts = sym (out_is f n ∙ ap (layer f) o) ∙ ap out-Node e ∙ outs-Tree k ts in absurd (cc)
  tree_before n Node-F.Absent k ts o e = let z : layer f Node-F.Absent ≡ Node-F.Tree k ts = sym (out_is f n ∙ ap (layer f) o) ∙ ap out-Node e ∙ outs-Tree k ts in absurd (cc)
  tree_before n (Node-F.Flag x) k ts o e = let z : layer f (Node-F.Flag x) ≡ Node-F.Tree k ts = sym (out_is f n ∙ ap (layer f) o) ∙ ap out-Node e ∙ outs-Tree k ts in absurd (cc)
  tree_before n (Node-F.Word x) k ts o e = let z : layer f (Node-F.Word x) ≡ Node-F.Tree k ts = sym (out_is f n ∙ ap (layer f) o) ∙ ap out-Node e ∙ outs-Tree k ts in absurd (cc)
  tree_before n (Node-F.Text x) k ts o e = let z : layer f (Node-F.Text x) ≡ Node-F.Tree k ts = sym (out_is f n ∙ ap (layer f) o) ∙ ap out-Node e ∙ outs-Tree k ts in absurd (cc)
  tree_before n (Node-F.Span x) k ts o e = let z : layer f (Node-F.Span x) ≡ Node-F.Tree k ts = sym (out_is f n ∙ ap (layer f) o) ∙ ap out-Node e ∙ outs-Tree k ts in absurd (cc)

  mapped_before : (o : Option (Place × Node)) (v : Place) (k : Kind) (ts : List Node) → option_map {U = Place × Node} (λ (q : Place × Node). (q.0, F q.1)) o ≡ Some (v, Tree k ts) → (us : List Node) × (o ≡ Some (v, Tree k us))
  mapped_before None v k ts e = absurd (cc)
  mapped_before (Some (w, n)) v k ts e =
      let both = some_same (w, F n) (v, Tree k ts) e in
      let (us, same) = tree_before n (out-Node n) k ts refl (ap (λ (q : Place × Node). q.1) both) in
      (us, ap (λ n. Some (w, n)) same ∙ ap (λ w. Some (w, Tree k us)) (ap (λ (q : Place × Node). q.0) both))

  pub tree_stood : (w v : Place) (t : Node) (p : Path) (k : Kind) (ts : List Node) → place_at w (F t) p ≡ Some (v, Tree k ts) → (us : List Node) × (place_at w t p ≡ Some (v, Tree k us))
  tree_stood w v t p k ts e = mapped_before (place_at w t p) v k ts (sym (place_at_same f p w t) ∙ e)

  pub tree_stands : (w v : Place) (t : Node) (p : Path) (k : Kind) (us : List Node) → place_at w t p ≡ Some (v, Tree k us) → place_at w (F t) p ≡ Some (v, Tree k (map F us))
  tree_stands w v t p k us e = place_at_same f p w t ∙ ap (option_map {U = Place × Node} (λ (q : Place × Node). (q.0, F q.1))) e ∙ ap (λ c. Some (v, c)) (changed_tree k us)

  -- a program is one of its goal
  pub layer_too : (t : Node) → ProgramLayer t → ProgramLayer (F t)
  layer_too t (k, ts, o, h) = (k, map F ts, out_is f t ∙ ap (layer f) o, h)

  pub was_module : (t : Node) → IsTrue (is_module (F t)) → IsTrue (is_module t)
  was_module t h =
      let (ts, o) = module_layer (F t) h in
      let (us, same) = tree_before t (out-Node t) kind.Module ts refl (tree_is (F t) kind.Module ts o) in
      subst (λ t. IsTrue (is_module t)) (sym same) (rw (outs-Tree kind.Module us) refl)

  pub is_module_too : (t : Node) → IsTrue (is_module t) → IsTrue (is_module (F t))
  is_module_too t h =
      let (us, o) = module_layer t h in
      subst (λ t. IsTrue (is_module t)) (sym (ap F (tree_is t kind.Module us o) ∙ changed_tree kind.Module us)) (rw (outs-Tree kind.Module (map F us)) refl)

-- a node that is no identifier and in whose children none stands
abbrev pub is_no_identifier : Node-F Node → Bool
is_no_identifier (Node-F.Identifier k i) = false
is_no_identifier _ = true

no_identifier_is : {A : Type 0} (y : Node-F Node) (k : Kind) (i : Ident) → is_no_identifier y ≡ true → y ≡ Node-F.Identifier k i → A
no_identifier_is y k i h e = let z : false ≡ true = sym (ap is_no_identifier e) ∙ h in absurd (cc)

pub no_names : (t : Node) (y : Node-F Node) → out-Node t ≡ y → is_no_identifier y ≡ true → ((i : ℕ) (c : Node) → slice_get (children_in y) i ≡ Some c → HasNoNames c) → HasNoNames t
no_names t y o h below [] w v k i e = no_identifier_is y k i h (sym o ∙ ap (λ (q : Place × Node). out-Node q.1) (some_same (w, t) (v, Identifier k i) e) ∙ outs-Identifier k i)
no_names t y o h below (n ∷ p) w v k i e = at (child t n) refl
  where
    at : (z : Option Node) → child t n ≡ z → ⊥
    at None z = let r : ◌≡◌ {A = Option (Place × Node)} (Some (v, Identifier k i)) None = sym e ∙ no_place_under w t n p z in absurd (cc)
    at (Some c) z = below n c (sym (ap (λ y. slice_get (children_in y) n) o) ∙ z) p (place_below w t n) v k i (sym (place_under w t c n p z) ∙ e)

pub no_names_leaf : (t : Node) (y : Node-F Node) → out-Node t ≡ y → is_no_identifier y ≡ true → children_in y ≡ [] → HasNoNames t
no_names_leaf t y o h none = no_names t y o h (λ i c e. let z : ◌≡◌ {A = Option Node} (Some c) None = sym e ∙ ap (λ l. slice_get l i) none in absurd (cc))
