-- What holds of a node if it holds of what is below it.
use Rattle.std.proofs.Common.{ℕ, List, [], ◌∷◌, Bool, map, sym, subst}
use Rattle.swc_tree_marks.specs.declared.span.Span.{Span as Span'}
use Rattle.swc_tree_marks.specs.declared.ident.Ident.{Ident}
use Rattle.swc_tree_node.specs.declared.kind.Kind.{Kind}
use Rattle.swc_tree_node.specs.declared.kind.Word.{Word as Word'}
use Rattle.swc_tree_node.specs.declared.node.Node.{Node, Absent, Flag, Word, Text, Span, List as Many, Identifier, Tree, roll-Node, map-Node, ind-Node}
use Rattle.swc_tree_node.specs.declared.node.Node.TheVariants.{rolls-Absent, rolls-Flag, rolls-Word, rolls-Text, rolls-Span, rolls-List, rolls-Identifier, rolls-Tree}
use Rattle.swc_tree_node.specs.declared.node.Node.TheOpen.{Node-F}

abbrev pub AllOf : (Node → Type 0) → List Node → Type 0
AllOf P [] = Unit {0}
AllOf P (t ∷ ts) = P t × AllOf P ts

abbrev Each : (Node → Type 0) → Type 0
Each P = (t : Node) × P t

all_each : (P : Node → Type 0) (es : List (Each P)) → AllOf P (map (λ e. e.0) es)
all_each P [] = tt
all_each P (e ∷ es) = (e.1, all_each P es)

-- the cases of an induction
pub record Steps (P : Node → Type 0) : Type 0 where
  pub absent : P Absent
  pub flag : (b : Bool) → P (Flag b)
  pub word : (w : Word') → P (Word w)
  pub text : (x : List ℕ) → P (Text x)
  pub span : (s : Span') → P (Span s)
  pub many : (ts : List Node) → AllOf P ts → P (Many ts)
  pub identifier : (k : Kind) (i : Ident) → P (Identifier k i)
  pub tree : (k : Kind) (ts : List Node) → AllOf P ts → P (Tree k ts)

pub by_parts : (P : Node → Type 0) → Steps P → (t : Node) → P t
by_parts P steps t = ind-Node P (λ x all e. subst (λ x. P (roll-Node x)) e (layer all)) t
  where
    layer : (y : Node-F (Each P)) → P (roll-Node (map-Node (Each P) Node (λ e. e.0) y))
    layer Node-F.Absent = subst P (sym rolls-Absent) steps.absent
    layer (Node-F.Flag b) = subst P (sym (rolls-Flag b)) (steps.flag b)
    layer (Node-F.Word w) = subst P (sym (rolls-Word w)) (steps.word w)
    layer (Node-F.Text x) = subst P (sym (rolls-Text x)) (steps.text x)
    layer (Node-F.Span s) = subst P (sym (rolls-Span s)) (steps.span s)
    layer (Node-F.List es) = subst P (sym (rolls-List (map (λ e. e.0) es))) (steps.many (map (λ e. e.0) es) (all_each P es))
    layer (Node-F.Identifier k i) = subst P (sym (rolls-Identifier k i)) (steps.identifier k i)
    layer (Node-F.Tree k es) = subst P (sym (rolls-Tree k (map (λ e. e.0) es))) (steps.tree k (map (λ e. e.0) es) (all_each P es))
