-- Contexts are no part of an outline.
use Rattle.std.proofs.Common.{◌≡◌, ℕ, zero, suc, Some, List, [], ◌∷◌, map, refl, sym, ap, ◌∙◌}
use Rattle.std.specs.List.{slice_get}
use Rattle.swc_tree_marks.specs.declared.ident.Ident.{Ident}
use Rattle.swc_tree_node.specs.declared.node.Node.{Node, out-Node, roll-Node, roll-out-Node}
use Rattle.swc_tree_node.specs.declared.node.Node.TheOpen.{Node-F}
use Rattle.swc_tree_scoping.specs.Places.{children_in}
use Rattle.swc_tree_scoping.specs.Resolved.{Contexts, remarked}
use Rattle.swc_tree_scoping.proofs.Under.{by_children}
use Rattle.swc_tree_renaming.specs.Apart.{nameless, no_name}
use Rattle.swc_tree_renaming.proofs.Blank as blank
use Rattle.swc_tree_renaming.proofs.Shape.{nameless_remarked}
use Rattle.swc_base_rename_laws.specs.NewNames.{outline}
use Rattle.swc_base_rename_laws.proofs.Outline.{layer, out_is}

abbrev unnamed : Ident → Ident
unnamed i = no_name

abbrev Same : Node → Type 0
Same t = outline (nameless t) ≡ outline t

each_same : (ts : List Node) → ((i : ℕ) (c : Node) → slice_get ts i ≡ Some c → Same c) → map outline (map nameless ts) ≡ map outline ts
each_same [] h = refl
each_same (t ∷ ts) h = ap (λ c. c ∷ map outline (map nameless ts)) (h zero t refl) ∙ ap (λ l. outline t ∷ l) (each_same ts (λ i. h (suc i)))

layers_same : (y : Node-F Node) → ((i : ℕ) (c : Node) → slice_get (children_in y) i ≡ Some c → Same c) → layer (blank.layer unnamed y) ≡ layer y
layers_same (Node-F.Identifier k i) h = refl
layers_same Node-F.Absent h = refl
layers_same (Node-F.Flag x) h = refl
layers_same (Node-F.Word x) h = refl
layers_same (Node-F.Text x) h = refl
layers_same (Node-F.Span x) h = refl
layers_same (Node-F.List ts) h = ap (λ l. Node-F.List l) (each_same ts h)
layers_same (Node-F.Tree k ts) h = ap (λ l. Node-F.Tree k l) (each_same ts h)

one_layer : (t u : Node) → out-Node t ≡ out-Node u → t ≡ u
one_layer t u e = sym (roll-out-Node t) ∙ ap roll-Node e ∙ roll-out-Node u

outline_nameless : (t : Node) → Same t
outline_nameless t = by_children Same (λ t below. one_layer (outline (nameless t)) (outline t) (out_is (nameless t) ∙ ap layer (blank.out_is unnamed t) ∙ layers_same (out-Node t) below ∙ sym (out_is t))) t

pub outline_remarked : (c : Contexts) (t : Node) → outline (remarked c t) ≡ outline t
outline_remarked c t = sym (outline_nameless (remarked c t)) ∙ ap outline (nameless_remarked c t) ∙ outline_nameless t
