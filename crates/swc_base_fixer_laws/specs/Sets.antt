-- A tree with some more pairs of parentheses round expressions in it, each where the table takes one. The slot is the
-- place of the tree.
use Rattle.std.specs.Prelude.{List, [], ◌∷◌, Bool, true, false, IsTrue, ◌≡◌}
use Rattle.swc_tree_marks.specs.declared.span.Span.{Span as Range}
use Rattle.swc_tree_marks.specs.declared.ident.Ident.{Ident}
use Rattle.swc_tree_node.specs.declared.kind.Kind.{Kind}
use Rattle.swc_tree_node.specs.declared.kind.Kind.TheVariants as kind
use Rattle.swc_tree_node.specs.declared.kind.Class.TheVariants as class
use Rattle.swc_tree_node.specs.declared.slot.Content.TheVariants as content
use Rattle.swc_tree_node.specs.declared.slot.Slot.{Slot}
use Rattle.swc_tree_node.specs.declared.slot.Slot.TheVariants as slot
use Rattle.swc_tree_node.specs.declared.node.Node.{Node, Span, List as Many, Identifier, Tree, out-Node}
use Rattle.swc_tree_node.specs.declared.node.Node.TheOpen.{Node-F}
use Rattle.swc_tree_node.specs.Table.{slots_of}
use Rattle.swc_tree_node.specs.Fits.{belongs}
use Rattle.swc_tree_grammar.specs.Shapes.{Statement}
use Rattle.swc_tree_grammar.specs.Grammar.{is_async_name}
use Rattle.swc_tree_grammar.specs.Writable.{is_string}

-- the kinds that may get a pair
abbrev pub can_pair : Kind → Bool
can_pair kind.BinExpr = true
can_pair kind.AssignExpr = true
can_pair kind.MemberExpr = true
can_pair kind.ObjectLit = true
can_pair kind.FnExpr = true
can_pair kind.ClassExpr = true
can_pair kind.SeqExpr = true
can_pair kind.ArrowExpr = true
can_pair kind.YieldExpr = true
can_pair kind.CondExpr = true
can_pair kind.UnaryExpr = true
can_pair kind.AwaitExpr = true
can_pair kind.UpdateExpr = true
can_pair kind.CallExpr = true
can_pair kind.OptChainExpr = true
can_pair kind.SuperPropExpr = true
can_pair kind.MetaPropExpr = true
can_pair kind.TaggedTpl = true
can_pair kind.NewExpr = true
can_pair kind.Str = true
can_pair kind.Bool = true
can_pair kind.Null = true
can_pair kind.Number = true
can_pair kind.BigInt = true
can_pair kind.Regex = true
can_pair _ = false

abbrev pub pairable_in : Node-F Node → Bool
pairable_in (Node-F.Tree k ts) = can_pair k
pairable_in _ = false

abbrev pub pairable : Node → Bool
pairable t = pairable_in (out-Node t)

-- a place that takes a pair
abbrev pub takes_pair : Slot → Bool
takes_pair (slot.One (content.Node c)) = belongs kind.ParenExpr c
takes_pair (slot.Optional (content.Node c)) = belongs kind.ParenExpr c
takes_pair _ = false

-- the place of each item of a list
abbrev pub item : Slot → Slot
item (slot.List c) = slot.One c
item (slot.OptionalList c) = slot.One c
item (slot.Holes c) = slot.Optional c
item slot.Pairs = slot.Pair
item _ = slot.One content.Text

-- a string that is a statement
abbrev pub is_directive_in : Node-F Node → Bool
is_directive_in (Statement span expr) = is_string expr
is_directive_in _ = false

mutual
  pub data Sets : Slot → Node → Node → Type 0 where
    same : {s : Slot} (t : Node) → Sets s t t
    after : {s : Slot} {t u v : Node} → Sets s t u → Sets s u v → Sets s t v
    around : {s : Slot} (r : Range) (t u : Node) → IsTrue (takes_pair s) → IsTrue (pairable t) → Sets (slot.One (content.Node class.Expr)) t u → Sets s t (Tree kind.ParenExpr (Span r ∷ u ∷ []))
    -- the name `async` before `of`, which becomes an expression
    named : (r : Range) (k : Kind) (i : Ident) → IsTrue (is_async_name (Identifier kind.Ident i)) → Sets (slot.One (content.Node class.ForHead)) (Identifier k i) (Tree kind.ParenExpr (Span r ∷ Identifier kind.Ident i ∷ []))
    items : {s : Slot} (ts us : List Node) → AllSet (item s) ts us → Sets s (Many ts) (Many us)
    -- a directive stays one
    tree : {s : Slot} (k : Kind) (ts us : List Node) → is_directive_in (Node-F.Tree k us) ≡ is_directive_in (Node-F.Tree k ts) → FieldsSet (slots_of k) ts us → Sets s (Tree k ts) (Tree k us)

  -- each of a list with its pairs
  pub data AllSet : Slot → List Node → List Node → Type 0 where
    none : {s : Slot} → AllSet s [] []
    more : {s : Slot} {t u : Node} {ts us : List Node} → Sets s t u → AllSet s ts us → AllSet s (t ∷ ts) (u ∷ us)

  -- the fields, each in its place
  pub data FieldsSet : List Slot → List Node → List Node → Type 0 where
    nil : FieldsSet [] [] []
    field : {s : Slot} {ss : List Slot} {t u : Node} {ts us : List Node} → Sets s t u → FieldsSet ss ts us → FieldsSet (s ∷ ss) (t ∷ ts) (u ∷ us)
