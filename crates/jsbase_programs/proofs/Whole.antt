-- A tree of the class of a program is a program.
use Rattle.std.proofs.Common.{◌≡◌, List, [], ◌∷◌, ℕ, Bool, true, false, not, ◌==◌, IsTrue, Some, refl, ap, subst, sym, map, arith}
use Rattle.std.specs.List.{list_any}
use Rattle.swc_tree_marks.specs.declared.ident.Ident.{Ident}
use Rattle.swc_tree_marks.specs.declared.span.Span.{Span as Span'}
use Rattle.swc_tree_node.specs.declared.kind.Class.{Class}
use Rattle.swc_tree_node.specs.declared.kind.Class.TheVariants as class
use Rattle.swc_tree_node.specs.declared.kind.Kind.{Kind}
use Rattle.swc_tree_node.specs.declared.kind.Kind.TheVariants as kind
use Rattle.swc_tree_node.specs.declared.kind.Word.{Word as Word'}
use Rattle.swc_tree_node.specs.declared.node.Node.{Node, Absent, Flag, Word, Text, Span, List as Many, Identifier, Tree, ind-Node, roll-Node, map-Node}
use Rattle.swc_tree_node.specs.declared.node.Node.TheOpen.{Node-F}
use Rattle.swc_tree_node.specs.declared.node.Node.TheVariants.{outs-Tree, rolls-Absent, rolls-Flag, rolls-Word, rolls-Text, rolls-Span, rolls-List, rolls-Identifier, rolls-Tree}
use Rattle.swc_tree_node.specs.declared.slot.Content.TheVariants as content
use Rattle.swc_tree_node.specs.declared.slot.Slot.TheVariants as slot
use Rattle.swc_tree_node.specs.Fits.{Fits, belongs}
use Rattle.swc_tree_node.specs.Table.{kinds_of, kind_number, is_identifier}
use Rattle.swc_tree_node.proofs.Fit.{both, tree_opens, fits-Absent, fits-Flag, fits-Word, fits-Text, fits-Span, fits-List, fits-Identifier}
use Rattle.jsbase_form.proofs.Numbers.{same_kind}
use Rattle.swc_tree_scoping.specs.declared.places.Scope.TheVariants as scope
use Rattle.swc_tree_scoping.specs.Places.{opened, program_place}
use Rattle.jsbase_programs.specs.declared.programs.Goal.{Goal}
use Rattle.jsbase_programs.specs.declared.programs.Goal.TheVariants as goal
use Rattle.jsbase_programs.specs.Goals.{class_of}

no : {X : Type 0} → IsTrue false → X
no h = absurd (grind arith)

nothing : {X : Type 0} → ⊥ → X
nothing h = absurd h

-- what holds of each form of a node holds of every node
by_form : (P : Node → Type 0) → P Absent → ((x : Bool) → P (Flag x)) → ((w : Word') → P (Word w)) → ((x : List ℕ) → P (Text x)) → ((x : Span') → P (Span x)) → ((ts : List Node) → P (Many ts)) → ((k : Kind) (i : Ident) → P (Identifier k i)) → ((k : Kind) (ts : List Node) → P (Tree k ts)) → (t : Node) → P t
by_form P absent flag word text span list identifier tree t = ind-Node P (λ x all e. subst (λ x. P (roll-Node x)) e (layer all)) t
  where
    layer : (y : Node-F ((t : Node) × P t)) → P (roll-Node (map-Node ((t : Node) × P t) Node (λ e. e.0) y))
    layer Node-F.Absent = subst P (sym rolls-Absent) absent
    layer (Node-F.Flag x) = subst P (sym (rolls-Flag x)) (flag x)
    layer (Node-F.Word w) = subst P (sym (rolls-Word w)) (word w)
    layer (Node-F.Text x) = subst P (sym (rolls-Text x)) (text x)
    layer (Node-F.Span x) = subst P (sym (rolls-Span x)) (span x)
    layer (Node-F.List es) = subst P (sym (rolls-List (map (λ e. e.0) es))) (list (map (λ e. e.0) es))
    layer (Node-F.Identifier k i) = subst P (sym (rolls-Identifier k i)) (identifier k i)
    layer (Node-F.Tree k es) = subst P (sym (rolls-Tree k (map (λ e. e.0) es))) (tree k (map (λ e. e.0) es))

only : (k l : Kind) → IsTrue (list_any (λ x. kind_number k == kind_number x) (l ∷ [])) → k ≡ l
only k l h = same_kind k l (grind arith)

-- a class of one kind
sole : (k l : Kind) (c : Class) → kinds_of c ≡ l ∷ [] → IsTrue (belongs k c) → k ≡ l
sole k l c e h = only k l (subst (λ ks. IsTrue (list_any (λ x. kind_number k == kind_number x) ks)) e h)

clash : (b : Bool) → IsTrue b → IsTrue (not b) → ⊥
clash true h g = absurd (grind arith)
clash false h g = absurd (grind arith)

no_identifier : (k : Kind) (i : Ident) (c : Class) (l : Kind) → Fits (Identifier k i) (slot.One (content.Node c)) → kinds_of c ≡ l ∷ [] → IsTrue (not (is_identifier l)) → ⊥
no_identifier k i c l h e n =
    let parts = both (is_identifier k) (belongs k c) (rw (← fits-Identifier k i (slot.One (content.Node c))) h) in
    clash (is_identifier l) (subst (λ x. IsTrue (is_identifier x)) (sole k l c e parts.1) parts.0) n

-- a node whose class takes one kind, and that no identifier's, is of that kind
sole_fields : (t : Node) (c : Class) (l : Kind) → Fits t (slot.One (content.Node c)) → kinds_of c ≡ l ∷ [] → IsTrue (not (is_identifier l)) → (ts : List Node) × (t ≡ Tree l ts)
sole_fields t c l h e n = by_form P
    (λ g. no (rw (← fits-Absent (slot.One (content.Node c))) g))
    (λ x g. no (rw (← fits-Flag x (slot.One (content.Node c))) g))
    (λ w g. no (rw (← fits-Word w (slot.One (content.Node c))) g))
    (λ x g. no (rw (← fits-Text x (slot.One (content.Node c))) g))
    (λ x g. no (rw (← fits-Span x (slot.One (content.Node c))) g))
    (λ ts g. no (rw (← fits-List ts (slot.One (content.Node c))) g))
    (λ k i g. nothing (no_identifier k i c l g e n))
    (λ k ts g. (ts, ap (λ x. Tree x ts) (sole k l c e (tree_opens k ts c g).1)))
    t h
  where
    P : Node → Type 0
    P t = Fits t (slot.One (content.Node c)) → (ts : List Node) × (t ≡ Tree l ts)

IsProgram : Node → Type 0
IsProgram t = opened program_place t ≡ Some scope.Program

pub is_program : (k : Goal) (t : Node) → Fits t (slot.One (content.Node (class_of k))) → opened program_place t ≡ Some scope.Program
unfolding IsProgram
is_program goal.Module t h = let f = sole_fields t class.Module kind.Module h refl refl in subst IsProgram (sym f.1) (simp outs-Tree refl)
is_program goal.Script t h = let f = sole_fields t class.Script kind.Script h refl refl in subst IsProgram (sym f.1) (simp outs-Tree refl)
