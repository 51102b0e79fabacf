-- When a pair of parentheses is needed, and when it stands there for a reader.
use Rattle.std.specs.Prelude.{zero, suc, ℕ, List, [], ◌∷◌, Bool, false, IsTrue, Option, Some, None, is_some, ◌⊎◌}
use Rattle.swc_tree_node.specs.declared.node.Node.{Node, List as Many, Tree, out-Node}
use Rattle.swc_tree_node.specs.declared.node.Node.TheOpen.{Node-F}
use Rattle.swc_tree_scoping.specs.Places.{Path, child, given}
use Rattle.swc_tree_grammar.specs.Shapes.{Paren}
use Rattle.swc_tree_grammar.specs.Grammar.{FitsGrammar}
use Rattle.swc_tree_grammar.specs.Readers.{names}

abbrev pub content_in : Node-F Node → Option Node
content_in (Paren span expr) = Some expr
content_in _ = None

-- the content of the pair that stands at a path
abbrev pub content_at : Node → Path → Option Node
content_at t [] = content_in (out-Node t)
content_at t (i ∷ p) = given (child t i) None (λ u. content_at u p)

abbrev pub is_pair : Node → Path → Bool
is_pair t p = is_some (content_at t p)

abbrev pub changed : (Node → Node) → ℕ → List Node → List Node
changed f i [] = []
changed f zero (t ∷ ts) = f t ∷ ts
changed f (suc i) (t ∷ ts) = t ∷ changed f i ts

abbrev pub changed_in : Node → (Node → Node) → ℕ → Node-F Node → Node
changed_in t f i (Node-F.List ts) = Many (changed f i ts)
changed_in t f i (Node-F.Tree k ts) = Tree k (changed f i ts)
changed_in t f i _ = t

-- the tree with the pair at a path taken off, and no other
abbrev pub without_pair : Node → Path → Node
without_pair t [] = given (content_in (out-Node t)) t (λ e. e)
without_pair t (i ∷ p) = changed_in t (λ u. without_pair u p) i (out-Node t)

-- a pair stands at the path, and without it alone the grammar does not derive the tree
abbrev pub IsNeeded : Node → Path → Type 0
IsNeeded t p = IsTrue (is_pair t p) × ¬ FitsGrammar (without_pair t p)

abbrev pub is_for_reader : Node → Path → Bool
is_for_reader t p = given (content_at t p) false (names t p)

-- a pair stands at the path, and the reader's table names its content there
abbrev pub IsForReader : Node → Path → Type 0
IsForReader t p = IsTrue (is_for_reader t p)

-- each pair is needed or stands there for a reader
abbrev pub NoIdlePair : Node → Type 0
NoIdlePair t = (p : Path) → IsTrue (is_pair t p) → IsNeeded t p ⊎ IsForReader t p
