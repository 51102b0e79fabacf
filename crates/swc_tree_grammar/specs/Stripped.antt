-- A tree without parentheses, nested sequences, and expressions whose value is dropped and that do nothing else.
--
-- None of it bears on what the program does: parentheses have no meaning of their own (ECMA-262, 13.2.9.2),
-- a sequence evaluates its items in order and takes the last one's value (13.16.2), `void` drops a value
-- (13.5.2.1), a function, an arrow or a literal is evaluated with no effect, an empty class member defines
-- nothing (15.7.14).
use Rattle.std.specs.Prelude.{List, [], ◌∷◌, ◌++◌, Bool, true, false, not, take, if◌then◌else◌}
use Rattle.std.specs.List.{flat_map, filter, list_all}
use Rattle.swc_tree_node.specs.declared.kind.Kind.{Kind}
use Rattle.swc_tree_node.specs.declared.kind.Kind.TheVariants as kind
use Rattle.swc_tree_node.specs.declared.kind.Word.TheVariants as word
use Rattle.swc_tree_node.specs.declared.node.Node.{Node, List as Many, Identifier, Tree, roll-Node, out-Node, fold-Node, map-Node}
use Rattle.swc_tree_node.specs.declared.node.Node.TheOpen.{Node-F}
use Rattle.swc_tree_grammar.specs.Shapes.{Paren, Seq, Unary, Assign, Class, items_of}

abbrev pub is_void_in : Node-F Node → Bool
is_void_in (Node-F.Word word.Void) = true
is_void_in _ = false

abbrev pub is_void : Node → Bool
is_void op = is_void_in (out-Node op)

-- an expression, with what is left of it where its value is dropped
pub record Dropped : Type 0 where
  pub whole : Node
  pub effects : List Node

abbrev pub effects_in : Node → Node-F Dropped → List Node
effects_in t (Node-F.List es) = flat_map (λ e. e.effects) es
effects_in t (Seq span exprs) = exprs.effects
effects_in t (Unary span op arg) = if is_void op.whole then arg.effects else t ∷ []
effects_in t _ = t ∷ []

abbrev pub whole_in : Node-F Dropped → Node
whole_in x = roll-Node (map-Node Dropped Node (λ e. e.whole) x)

abbrev pub dropped_step : Node-F Dropped → Dropped
dropped_step x = record { whole = whole_in x; effects = effects_in (whole_in x) x }

-- what an expression adds to a sequence before its last item: a sequence what its items add, `void` what
-- its operand adds, any other itself
abbrev pub effects : Node → List Node
effects t = (fold-Node Dropped dropped_step t).effects

-- functions, arrows and literals
abbrev pub is_idle_kind : Kind → Bool
is_idle_kind kind.FnExpr = true
is_idle_kind kind.ArrowExpr = true
is_idle_kind kind.Str = true
is_idle_kind kind.Bool = true
is_idle_kind kind.Null = true
is_idle_kind kind.Number = true
is_idle_kind kind.BigInt = true
is_idle_kind kind.Regex = true
is_idle_kind _ = false

abbrev pub is_idle_in : Node-F Node → Bool
is_idle_in (Node-F.Tree k ts) = is_idle_kind k
is_idle_in _ = false

abbrev pub is_idle : Node → Bool
is_idle t = is_idle_in (out-Node t)

-- the items before the last without the idle ones, of which the first stays where there is no other
abbrev pub busy : List Node → List Node
busy es = if list_all is_idle es then take 1 es else filter (λ e. not (is_idle e)) es

-- what an expression adds to a sequence as an item: a sequence its items, any other itself
abbrev pub parts_in : Node → Node-F Node → List Node
parts_in t (Seq span exprs) = items_of exprs
parts_in t _ = t ∷ []

abbrev pub parts : Node → List Node
parts t = parts_in t (out-Node t)

-- the items before the last, and the last
abbrev pub front : List Node → List Node
front [] = []
front (e ∷ []) = []
front (e ∷ d ∷ es) = e ∷ front (d ∷ es)

abbrev pub end : List Node → List Node
end [] = []
end (e ∷ []) = e ∷ []
end (e ∷ d ∷ es) = end (d ∷ es)

abbrev pub settled : List Node → List Node
settled es = busy (flat_map effects (front es)) ++ end es

-- a sequence of one item is that item
abbrev pub sequence : Node → List Node → Node
sequence span (e ∷ []) = e
sequence span es = Tree kind.SeqExpr (span ∷ Many es ∷ [])

-- a parenthesised target becomes its content: a name there is bound, and no expression
abbrev pub target_in : Node → Node-F Node → Node
target_in t (Node-F.Identifier kind.Ident i) = Identifier kind.BindingIdent i
target_in t _ = t

abbrev pub target : Node → Node
target t = target_in t (out-Node t)

abbrev pub is_empty_in : Node-F Node → Bool
is_empty_in (Node-F.Tree kind.EmptyStmt ts) = true
is_empty_in _ = false

abbrev pub is_member : Node → Bool
is_member t = not (is_empty_in (out-Node t))

abbrev pub strip_step : Node-F Node → Node
strip_step (Paren span expr) = expr
strip_step (Seq span exprs) = sequence span (settled (flat_map parts (items_of exprs)))
strip_step (Assign span op left right) = Tree kind.AssignExpr (span ∷ op ∷ target left ∷ right ∷ [])
strip_step (Class span super_class body) = Tree kind.Class (span ∷ super_class ∷ Many (filter is_member (items_of body)) ∷ [])
strip_step t = roll-Node t

-- the tree without pairs of parentheses, sequences in sequences or of one item, `void` and idle items before
-- the last of a sequence, and empty class members
abbrev pub stripped : Node → Node
stripped = fold-Node Node strip_step

-- a tree that has no pair of parentheses
abbrev pub pairless_step : Node-F Bool → Bool
pairless_step (Node-F.Tree kind.ParenExpr bs) = false
pairless_step (Node-F.Tree k bs) = list_all (λ b. b) bs
pairless_step (Node-F.List bs) = list_all (λ b. b) bs
pairless_step _ = true

abbrev pub is_pairless : Node → Bool
is_pairless = fold-Node Bool pairless_step
