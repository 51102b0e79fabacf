-- An outermost unit that got its names is seen as it was, and lengths, leaves and names stay in it.
use Rattle.std.proofs.Common.{◌≡◌, ℕ, zero, suc, Bool, IsTrue, Option, Some, None, List, [], ◌∷◌, ◌++◌, eqb-true, refl, sym, ap, ◌∙◌, subst}
use Rattle.std.specs.Prelude.{slice_get}
use Rattle.std.specs.List.{list_any}
use Rattle.swc_tree_node.specs.declared.kind.Kind.{Kind}
use Rattle.swc_tree_node.specs.declared.kind.Kind.TheVariants as kind
use Rattle.swc_tree_node.specs.declared.kind.Class.TheVariants as class
use Rattle.swc_tree_node.specs.declared.fields.statements.class_decl.TheConstants as class_decl
use Rattle.swc_tree_node.specs.declared.fields.statements.fn_decl.TheConstants as fn_decl
use Rattle.swc_tree_node.specs.declared.slot.Content.{Content}
use Rattle.swc_tree_node.specs.declared.slot.Content.TheVariants as content
use Rattle.swc_tree_node.specs.declared.slot.Slot.{Slot}
use Rattle.swc_tree_node.specs.declared.slot.Slot.TheVariants as slot
use Rattle.swc_tree_node.specs.declared.node.Node.{Node, Identifier, out-Node}
use Rattle.swc_tree_node.specs.declared.node.Node.TheOpen.{Node-F}
use Rattle.swc_tree_node.specs.Table.{slots_of}
use Rattle.swc_tree_node.specs.Fits.{FieldsFit, Fits, fits}
use Rattle.swc_tree_node.proofs.Fit.{fits-List}
use Rattle.swc_tree_scoping.specs.BoundNames.{Id}
use Rattle.swc_tree_scoping.specs.Places.{Path, child, children_in, given}
use Rattle.swc_tree_scoping.proofs.Remarked.{list_is, tree_is}
use Rattle.swc_tree_walk.specs.Nodes.{node_at as walked}
use Rattle.swc_tree_grammar.specs.Shapes.{items_in, items_of}
use Rattle.swc_base_rename_substitution.specs.declared.place.Place.TheVariants as place
use Rattle.swc_base_rename_substitution.specs.Identifiers.{Changes}
use Rattle.swc_base_rename_substitution.specs.Substituted.{Substituted, substituted}
use Rattle.swc_base_rename_substitution.specs.Walk.{each_substituted, is_exported_declaration}
use Rattle.swc_base_rename_substitution.proofs.KeptFits.{substituted_fits}
use Rattle.swc_base_rename_analysis.specs.Named.{Renaming}
use Rattle.swc_base_rename_program.specs.Renamed.{HasNames, new_id_by}
use Rattle.swc_base_rename_units.specs.Eval.{node_at}
use Rattle.swc_base_rename_units.specs.Units.{IsOutermost, is_unit_below}
use Rattle.text_checks.specs.Spelled.{is_amiss_specifier}
use Rattle.text_kept_laws.proofs.Fitting.{Fitting, tree_fields}
use Rattle.text_kept_laws.proofs.Free.{some_same}
use Rattle.text_kept_laws.proofs.RenamesSeen.{items_are, keyed, kind_of, leaf_of, parts_of}
use Rattle.text_kept_laws.proofs.Shape.{stays as shape_stays}
use Rattle.text_kept_laws.specs.Spelling.{GivesWords}
use Rattle.text_kept_laws.proofs.SpellingRows.{calm, specifier_calm, value_same}
use Rattle.text_kept_laws.proofs.Spelling.{stays as spelling_stays}
use Rattle.text_kept_laws.specs.Namings.{GivesNewWords}
use Rattle.text_kept_laws.proofs.Found.{gives_words}
use Rattle.text_kept_laws.proofs.PairsSeen.{no_items, seen_never}
use Rattle.text_kept_laws.proofs.Kept.{kept_same}
use Rattle.text_kept_laws.proofs.Paths.{May, fits_at}
use Rattle.text_kept_laws.proofs.Units.{Both}

-- ---- a node with new names

module _ (m : Changes) (gives : GivesWords m) (keeps : Bool) (s : Slot) (t : Node) (f : Fits t s) (none : items_of t ≡ []) where
  abbrev new : Node
  new = substituted m keeps place.Other t

  new_items : items_of new ≡ []
  new_items = items_are m keeps place.Other t (ap (list_any is_exported_declaration) none) ∙ ap (each_substituted m keeps (λ i. place.Other)) none

  pub new_kept : Both s t new
  new_kept = (
    record {
      seen = record { leaf = leaf_of m keeps place.Other t; kind = kind_of m keeps place.Other t; parts = parts_of m keeps place.Other t; value = value_same m keeps place.Other t };
      listed = no_items t new none new_items;
      key = λ h. keyed m keeps place.Other t;
      calm = λ g c. calm m gives keeps place.Other t (s, f) c;
      specifier = λ g n. specifier_calm m gives keeps place.Other t (s, f) n;
      specifiers = λ g h. ap (list_any (λ t. is_amiss_specifier (out-Node t))) new_items;
      shaped = λ g. shape_stays m keeps t place.Other (s, f) g;
      spelled = λ g. spelling_stays m gives keeps t place.Other (s, f) g;
    },
    substituted_fits m keeps t new refl,
  )

-- ---- a unit is no list

no_list : (u : Node) (us : List Node) (c : Content) → out-Node u ≡ Node-F.List us → Fits u (slot.One c) → ⊥
no_list u us c o f = seen_never (sym (sym (ap (λ t. fits t (slot.One c)) (list_is u us o) ∙ fits-List us (slot.One c)) ∙ f))

field_fits : (ss : List Slot) (ts : List Node) (i : ℕ) (s : Slot) (u : Node) → FieldsFit ss ts → slice_get ss i ≡ Some s → slice_get ts i ≡ Some u → Fits u s
field_fits [] [] i s u f e g = absurd (cc)
field_fits [] (t ∷ ts) i s u f e g = absurd f
field_fits (r ∷ ss) [] i s u f e g = absurd f
field_fits (r ∷ ss) (t ∷ ts) zero s u f e g = subst (Fits u) (some_same e) (subst (λ t. Fits t r) (some_same g) f.0)
field_fits (r ∷ ss) (t ∷ ts) (suc i) s u f e g = field_fits ss ts i s u f.1 e g

-- one that fits the field of a unit is no list
no_list_below : (v u : Node) (k : Kind) (n : ℕ) (c : Content) (us ts : List Node) → out-Node v ≡ Node-F.Tree k ts → Fitting v → slice_get (slots_of k) n ≡ Some (slot.One c) → slice_get ts n ≡ Some u → out-Node u ≡ Node-F.List us → ⊥
no_list_below v u k n c us ts o f e g l = no_list u us c l (field_fits (slots_of k) ts n (slot.One c) u (tree_fields k ts (subst Fitting (tree_is v k ts o) f)) e g)

unit_below : (v u : Node) (i : ℕ) (us : List Node) (y : Node-F Node) → out-Node v ≡ y → Fitting v → slice_get (children_in y) i ≡ Some u → out-Node u ≡ Node-F.List us → IsTrue (is_unit_below y i (Node-F.List us)) → ⊥
unit_below v u i us (Node-F.Tree kind.FnDecl ts) o f e l h =
    no_list_below v u kind.FnDecl fn_decl.FUNCTION (content.Node class.Function) us ts o f refl (subst (λ i. slice_get ts i ≡ Some u) (eqb-true i fn_decl.FUNCTION h) e) l
unit_below v u i us (Node-F.Tree kind.ClassDecl ts) o f e l h =
    no_list_below v u kind.ClassDecl class_decl.CLASS (content.Node class.Class) us ts o f refl (subst (λ i. slice_get ts i ≡ Some u) (eqb-true i class_decl.CLASS h) e) l
unit_below v u i us (Node-F.Tree k ts) o f e l h = seen_never (sym h)
unit_below v u i us (Node-F.List ts) o f e l h = seen_never (sym h)
unit_below v u i us (Node-F.Identifier k x) o f e l h = seen_never (sym h)
unit_below v u i us Node-F.Absent o f e l h = seen_never (sym h)
unit_below v u i us (Node-F.Flag x) o f e l h = seen_never (sym h)
unit_below v u i us (Node-F.Word x) o f e l h = seen_never (sym h)
unit_below v u i us (Node-F.Text x) o f e l h = seen_never (sym h)
unit_below v u i us (Node-F.Span x) o f e l h = seen_never (sym h)

unit_items : (before : Node) (p : Path) (u : Node) → Fitting before → IsOutermost before p u → items_of u ≡ []
unit_items before p u f o = by (out-Node u) refl
  where
    parent : Fitting o.unit.parent
    parent = fits_at o.unit.above before o.unit.parent f o.unit.parent_there

    by : (y : Node-F Node) → out-Node u ≡ y → items_in y ≡ []
    by (Node-F.List us) l = absurd (unit_below o.unit.parent u o.unit.index us (out-Node o.unit.parent) refl parent o.unit.there l (subst (λ y. IsTrue (is_unit_below (out-Node o.unit.parent) o.unit.index y)) l o.unit.is_unit))
    by (Node-F.Tree k us) l = refl
    by (Node-F.Identifier k i) l = refl
    by Node-F.Absent l = refl
    by (Node-F.Flag x) l = refl
    by (Node-F.Word x) l = refl
    by (Node-F.Text x) l = refl
    by (Node-F.Span x) l = refl

-- ---- names in a unit are names of the tree

walked_same : (p : Path) (t n : Node) → node_at t p ≡ Some n → walked t p ≡ Some n
walked_same [] t n e = e
walked_same (i ∷ p) t n e = by (λ c. walked_same p c n) (child t i) e
  where
    by : ((c : Node) → node_at c p ≡ Some n → walked c p ≡ Some n) → (o : Option Node) → given o None (λ c. node_at c p) ≡ Some n → given o None (λ c. walked c p) ≡ Some n
    by further None e = absurd (cc)
    by further (Some c) e = further c e

walked_on : (p q : Path) (t u n : Node) → walked t p ≡ Some u → walked u q ≡ Some n → walked t (p ++ q) ≡ Some n
walked_on [] q t u n e f = subst (λ t. walked t q ≡ Some n) (sym (some_same e)) f
walked_on (i ∷ p) q t u n e f = by (λ c g. walked_on p q c u n g f) (child t i) e
  where
    by : ((c : Node) → walked c p ≡ Some u → walked c (p ++ q) ≡ Some n) → (o : Option Node) → given o None (λ c. walked c p) ≡ Some u → given o None (λ c. walked c (p ++ q)) ≡ Some n
    by further None e = absurd (cc)
    by further (Some c) e = further c e

words_below : (r : Renaming) (t u : Node) (p : Path) → node_at t p ≡ Some u → GivesNewWords r t → GivesNewWords r u
words_below r t u p at g q k i n there within other = g (p ++ q) k i n (walked_on p q t u (Identifier k i) (walked_same p t u at) there) within other

-- ---- a unit with its names

pub unit_kept : (r : Renaming) (preserved : List ℕ → Type 0) (keeps : Bool) (before : Node) (s : Slot) (p : Path) (u v : Node) → Fitting before → GivesNewWords r before → node_at before p ≡ Some u → Fits u s → IsOutermost before p u
    → HasNames r preserved keeps u v → May (Both s u v)
unit_kept r preserved keeps before s p u v whole gives at f o names refute = refute (subst (Both s u) (sym (names.given.none none)) (kept_same s u, λ s r g. g))
  where
    words : GivesWords (new_id_by names.new_texts)
    words = gives_words u r preserved _ names.new_texts names.named (words_below r before u p at gives)

    renewed : Substituted (new_id_by names.new_texts) keeps u v → Both s u v
    renewed e = subst (Both s u) (sym e) (new_kept (new_id_by names.new_texts) words keeps s u f (unit_items before p u whole o))

    none_at : (x : Id) (o : Option (List ℕ)) → names.new_texts x ≡ o → names.new_texts x ≡ None
    none_at x None e = e
    none_at x (Some text) e = absurd (refute (renewed (names.given.some x text e)))

    none : (x : Id) → names.new_texts x ≡ None
    none x = none_at x (names.new_texts x) refl
