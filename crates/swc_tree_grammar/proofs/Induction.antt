-- What holds of a node if it holds of all that stands directly below it, holds of every node.
use Rattle.std.proofs.Common.{ℕ, Bool, List, [], ◌∷◌, map, sym, subst}
use Rattle.swc_tree_node.specs.Lower.swc_tree_marks.specs.declared.span.Span.{Span as Range}
use Rattle.swc_tree_node.specs.Lower.swc_tree_marks.specs.declared.ident.Ident.{Ident}
use Rattle.swc_tree_node.specs.declared.kind.Kind.{Kind}
use Rattle.swc_tree_node.specs.declared.kind.Word.{Word as Word'}
use Rattle.swc_tree_node.specs.declared.node.Node.{Node, Absent, Flag, Word, Text, Span, List as Many, Identifier, Tree, ind-Node, roll-Node, map-Node}
use Rattle.swc_tree_node.specs.declared.node.Node.TheVariants.{rolls-Absent, rolls-Flag, rolls-Word, rolls-Text, rolls-Span, rolls-List, rolls-Identifier, rolls-Tree}
use Rattle.swc_tree_node.specs.declared.node.Node.TheOpen.{Node-F}

abbrev pub Each : (Node → Type 0) → List Node → Type 0
Each P [] = Unit {0}
Each P (t ∷ ts) = P t × Each P ts

-- a node that stands alone, with nothing below it
abbrev pub Leaves : (Node → Type 0) → Type 0
Leaves P = P Absent × ((x : Bool) → P (Flag x)) × ((w : Word') → P (Word w)) × ((x : List ℕ) → P (Text x)) × ((s : Range) → P (Span s)) × ((k : Kind) (i : Ident) → P (Identifier k i))

abbrev Held : (Node → Type 0) → Type 0
Held P = (t : Node) × P t

abbrev nodes : (P : Node → Type 0) → List (Held P) → List Node
nodes P es = map (λ e. e.0) es

each : (P : Node → Type 0) (es : List (Held P)) → Each P (nodes P es)
each P [] = tt
each P (e ∷ es) = (e.1, each P es)

layer : (P : Node → Type 0) → Leaves P → ((ts : List Node) → Each P ts → P (Many ts)) → ((k : Kind) (ts : List Node) → Each P ts → P (Tree k ts))
    → (y : Node-F (Held P)) → P (roll-Node (map-Node (Held P) Node (λ e. e.0) y))
layer P l many tree Node-F.Absent = subst P (sym rolls-Absent) l.0
layer P l many tree (Node-F.Flag x) = subst P (sym (rolls-Flag x)) (l.1 x)
layer P l many tree (Node-F.Word w) = subst P (sym (rolls-Word w)) (l.2 w)
layer P l many tree (Node-F.Text x) = subst P (sym (rolls-Text x)) (l.3 x)
layer P l many tree (Node-F.Span s) = subst P (sym (rolls-Span s)) (l.4 s)
layer P l many tree (Node-F.List es) = subst P (sym (rolls-List (nodes P es))) (many (nodes P es) (each P es))
layer P l many tree (Node-F.Identifier k i) = subst P (sym (rolls-Identifier k i)) (l.5 k i)
layer P l many tree (Node-F.Tree k es) = subst P (sym (rolls-Tree k (nodes P es))) (tree k (nodes P es) (each P es))

pub by_children : (P : Node → Type 0) → Leaves P → ((ts : List Node) → Each P ts → P (Many ts)) → ((k : Kind) (ts : List Node) → Each P ts → P (Tree k ts)) → (t : Node) → P t
by_children P l many tree t = ind-Node P (λ x all e. subst (λ x. P (roll-Node x)) e (layer P l many tree all)) t
