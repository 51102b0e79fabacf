-- Small trees under short names, and what due pairs they get.
use Rattle.std.proofs.Common.{◌≡◌, ℕ, List, [], ◌∷◌, Bool, true, false, codes}
use Rattle.std.specs.Prelude.{not, ◌&&◌}
use Rattle.swc_tree_node.specs.declared.kind.Kind.TheVariants as kind
use Rattle.swc_tree_node.specs.declared.kind.Word.{Word as Word'}
use Rattle.swc_tree_node.specs.declared.kind.Word.TheVariants as word
use Rattle.swc_tree_node.specs.declared.node.Node.{Node, Absent, Flag, Word, Text, List as Many, Tree, out-Node}
use Rattle.swc_tree_grammar.specs.Lower.swc_tree_scoping.specs.Places.{Path}
use Rattle.swc_tree_grammar.specs.Blocks.{no_span}
use Rattle.swc_tree_grammar.specs.Grammar.{Context, derives}
use Rattle.swc_tree_grammar.specs.Due.{Places, paired_in}
use Rattle.swc_tree_grammar.specs.Needed.{is_pair, without_pair, is_for_reader}
use Rattle.swc_tree_grammar_laws.proofs.Rows.{at, name}

-- where the pairs stand is left aside
abbrev pub here : Places
here s = no_span

abbrev sloppy : Context
sloppy = record { with_in = true; strict = false }

-- the first step, at the root alone
abbrev settled_root : Node → Node
settled_root t = paired_in here false (out-Node t)

-- no pair is due in the fields of the root, and the tree fits the grammar
abbrev pub Bare : Node → Type 0
Bare t = (settled_root t ≡ t) × (derives t sloppy ≡ true)

-- the first tree gets the pair of the second in a field of its root; with it, it fits the grammar, and without it not
abbrev pub Needs : Node → Node → Path → Type 0
Needs t u p = (settled_root t ≡ u) × (derives u sloppy ≡ true) × ((is_pair u p && not (derives (without_pair u p) sloppy)) ≡ true)

-- the tree fits the grammar, and the pair at the path is needed
abbrev pub NeedsPair : Node → Path → Type 0
NeedsPair u p = (derives u sloppy ≡ true) × ((is_pair u p && not (derives (without_pair u p) sloppy)) ≡ true)

-- a step gives the first tree the pair of the second and no other, and that one is needed
abbrev pub NeedsAfter : (Places → Node → Node) → Node → Node → Path → Type 0
NeedsAfter step t u p = (step here t ≡ u) × (derives u sloppy ≡ true) × ((is_pair u p && not (derives (without_pair u p) sloppy)) ≡ true)

-- a step leaves the tree as it is, and the tree fits the grammar
abbrev pub BareAfter : (Places → Node → Node) → Node → Type 0
BareAfter step t = (step here t ≡ t) × (derives t sloppy ≡ true)

-- as `Needs`, of a pair for a reader: with it and without it, the tree fits the grammar
abbrev pub Shows : Node → Node → Path → Type 0
Shows t u p = (settled_root t ≡ u) × (derives u sloppy ≡ true) × ((is_for_reader u p && derives (without_pair u p) sloppy) ≡ true)

abbrev pub a : Node
a = name (codes "a")

abbrev pub b : Node
b = name (codes "b")

abbrev pub c : Node
c = name (codes "c")

abbrev pub d : Node
d = name (codes "d")

abbrev pub f : Node
f = name (codes "f")

abbrev pub x : Node
x = name (codes "x")

abbrev pub number : List ℕ → Node
number text = Tree kind.Number (at 0 0 ∷ Text text ∷ [])

abbrev pub bin : Word' → Node → Node → Node
bin op left right = Tree kind.BinExpr (at 0 0 ∷ Word op ∷ left ∷ right ∷ [])

abbrev pub unary : Word' → Node → Node
unary op e = Tree kind.UnaryExpr (at 0 0 ∷ Word op ∷ e ∷ [])

abbrev pub assign : Node → Node → Node
assign left right = Tree kind.AssignExpr (at 0 0 ∷ Word word.Assign ∷ left ∷ right ∷ [])

abbrev pub cond : Node → Node → Node → Node
cond test cons alt = Tree kind.CondExpr (at 0 0 ∷ test ∷ cons ∷ alt ∷ [])

abbrev pub paren : Node → Node
paren e = Tree kind.ParenExpr (at 0 0 ∷ e ∷ [])

abbrev pub statement : Node → Node
statement e = Tree kind.ExprStmt (at 0 0 ∷ e ∷ [])

abbrev pub seq : List Node → Node
seq es = Tree kind.SeqExpr (at 0 0 ∷ Many es ∷ [])

abbrev pub call : Node → List Node → Node
call callee args = Tree kind.CallExpr (at 0 0 ∷ callee ∷ Many args ∷ [])

abbrev pub optional_call : Node → List Node → Node
optional_call callee args = Tree kind.OptCall (at 0 0 ∷ callee ∷ Many args ∷ [])

abbrev pub item : Node → Node
item e = Tree kind.ExprOrSpread (Absent ∷ e ∷ [])

abbrev pub bare_new : Node → Node
bare_new callee = Tree kind.NewExpr (at 0 0 ∷ callee ∷ Absent ∷ [])

abbrev pub new : Node → List Node → Node
new callee args = Tree kind.NewExpr (at 0 0 ∷ callee ∷ Many args ∷ [])

abbrev pub member : Node → Node
member e = Tree kind.MemberExpr (at 0 0 ∷ e ∷ Tree kind.IdentName (at 0 0 ∷ Text (codes "b") ∷ []) ∷ [])

abbrev pub element : Node → Node → Node
element e key = Tree kind.MemberExpr (at 0 0 ∷ e ∷ Tree kind.ComputedPropName (at 0 0 ∷ key ∷ []) ∷ [])

abbrev pub chain : Bool → Node → Node
chain optional base = Tree kind.OptChainExpr (at 0 0 ∷ Flag optional ∷ base ∷ [])

abbrev pub object : List Node → Node
object props = Tree kind.ObjectLit (at 0 0 ∷ Many props ∷ [])

abbrev pub array : List Node → Node
array items = Tree kind.ArrayLit (at 0 0 ∷ Many items ∷ [])

abbrev pub yields : Node → Node
yields e = Tree kind.YieldExpr (at 0 0 ∷ e ∷ Flag false ∷ [])

abbrev pub awaits : Node → Node
awaits e = Tree kind.AwaitExpr (at 0 0 ∷ e ∷ [])

abbrev pub arrow : Node → Node
arrow body = Tree kind.ArrowExpr (at 0 0 ∷ Many [] ∷ body ∷ Flag false ∷ [])

abbrev pub block : List Node → Node
block stmts = Tree kind.BlockStmt (at 0 0 ∷ Many stmts ∷ [])

abbrev pub function : Node
function = Tree kind.FnExpr (Absent ∷ Tree kind.Function (at 0 0 ∷ Many [] ∷ block [] ∷ Flag false ∷ Flag false ∷ []) ∷ [])

abbrev pub class : Node
class = Tree kind.ClassExpr (Absent ∷ Tree kind.Class (at 0 0 ∷ Absent ∷ Many [] ∷ []) ∷ [])

abbrev pub empty : Node
empty = Tree kind.EmptyStmt (at 0 0 ∷ [])

abbrev pub loop : Node → Node
loop init = Tree kind.ForStmt (at 0 0 ∷ init ∷ Absent ∷ Absent ∷ empty ∷ [])

abbrev pub loop_of : Bool → Node → Node → Node
loop_of with_await left right = Tree kind.ForOfStmt (at 0 0 ∷ Flag with_await ∷ left ∷ right ∷ empty ∷ [])

abbrev pub var : Node → Node → Node
var name init = Tree kind.VarDecl (at 0 0 ∷ Word word.Var ∷ Many (Tree kind.VarDeclarator (at 0 0 ∷ name ∷ init ∷ []) ∷ []) ∷ [])

abbrev pub default : Node → Node
default e = Tree kind.ExportDefaultExpr (at 0 0 ∷ e ∷ [])
