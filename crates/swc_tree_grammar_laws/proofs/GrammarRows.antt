-- The grammar on small trees.
use Rattle.std.proofs.Common.{◌≡◌, List, [], ◌∷◌, true, false, codes, rules}
use Rattle.swc_tree_node.specs.declared.kind.Kind.TheVariants as kind
use Rattle.swc_tree_node.specs.declared.kind.Word.{Word as Word'}
use Rattle.swc_tree_node.specs.declared.kind.Word.TheVariants as word
use Rattle.swc_tree_node.specs.declared.node.Node.{Node, Absent, Flag, Word, Text, List as Many, Tree, the_lemmas}
use Rattle.swc_tree_grammar.specs.Levels.{level}
use Rattle.swc_tree_grammar.specs.Grammar.{Context, derives}
use Rattle.swc_tree_grammar_laws.proofs.Rows.{at, a, x, name, number, paren, call, chain, statement, choice, while}

abbrev sloppy : Context
sloppy = record { with_in = true; strict = false }

abbrev pub bin : Word' → Node → Node → Node
bin op left right = Tree kind.BinExpr (at 0 0 ∷ Word op ∷ left ∷ right ∷ [])

abbrev unary : Word' → Node → Node
unary op arg = Tree kind.UnaryExpr (at 0 0 ∷ Word op ∷ arg ∷ [])

abbrev pub member : Node → Node
member e = Tree kind.MemberExpr (at 0 0 ∷ e ∷ Tree kind.IdentName (at 0 0 ∷ Text (codes "b") ∷ []) ∷ [])

abbrev object : Node
object = Tree kind.ObjectLit (at 0 0 ∷ Many [] ∷ [])

-- `a.b` binds tighter than `f().b`
member_level : level (member a) ≡ 18
member_level = search (rules, the_lemmas)

called_level : level (member (call (codes "f"))) ≡ 17
called_level = search (rules, the_lemmas)

-- `a * (b + c)`, and without the pair
product : derives (bin word.Mul a (paren (bin word.Plus a x))) sloppy ≡ true
product = search (rules, the_lemmas)

no_product : derives (bin word.Mul a (bin word.Plus a x)) sloppy ≡ false
no_product = search (rules, the_lemmas)

-- `-(2 * 3)` needs its pair
negated : derives (unary word.Minus (bin word.Mul (number (codes "2")) (number (codes "3")))) sloppy ≡ false
negated = search (rules, the_lemmas)

-- `(a?.b).b` needs its pair
chained : derives (member chain) sloppy ≡ false
chained = search (rules, the_lemmas)

chained_pair : derives (member (paren chain)) sloppy ≡ true
chained_pair = search (rules, the_lemmas)

-- `({}) + a` as a statement, and without the pair
object_first : derives (statement (bin word.Plus object a)) sloppy ≡ false
object_first = search (rules, the_lemmas)

object_in_pair : derives (statement (bin word.Plus (paren object) a)) sloppy ≡ true
object_in_pair = search (rules, the_lemmas)

-- `a ?? b || c` mixes what does not mix
mixed : derives (bin word.NullishCoalescing a (bin word.LogicalOr a x)) sloppy ≡ false
mixed = search (rules, the_lemmas)

-- an `else` that would go to the inner `if`
dangling : derives (choice (while (choice (statement x) Absent)) (statement x)) sloppy ≡ false
dangling = search (rules, the_lemmas)

-- `for (a in x;;) ;`
in_head : derives (Tree kind.ForStmt (at 0 0 ∷ bin word.In a x ∷ Absent ∷ Absent ∷ Tree kind.EmptyStmt (at 0 0 ∷ []) ∷ [])) sloppy ≡ false
in_head = search (rules, the_lemmas)

in_head_pair : derives (Tree kind.ForStmt (at 0 0 ∷ paren (bin word.In a x) ∷ Absent ∷ Absent ∷ Tree kind.EmptyStmt (at 0 0 ∷ []) ∷ [])) sloppy ≡ true
in_head_pair = search (rules, the_lemmas)

-- `for (f(a in x);;) ;`: `in` may stand in parentheses
abbrev argument : Node → Node
argument e = Tree kind.CallExpr (at 0 0 ∷ a ∷ Many (Tree kind.ExprOrSpread (Absent ∷ e ∷ []) ∷ []) ∷ [])

in_argument : derives (Tree kind.ForStmt (at 0 0 ∷ argument (bin word.In a x) ∷ Absent ∷ Absent ∷ Tree kind.EmptyStmt (at 0 0 ∷ []) ∷ [])) sloppy ≡ true
in_argument = search (rules, the_lemmas)

abbrev property : Node → Node
property e = Tree kind.ObjectLit (at 0 0 ∷ Many (Tree kind.KeyValueProp (Tree kind.IdentName (at 0 0 ∷ Text (codes "b") ∷ []) ∷ e ∷ []) ∷ []) ∷ [])

-- `for ({ b: a in x };;) ;`: and in braces
in_property : derives (Tree kind.ForStmt (at 0 0 ∷ property (bin word.In a x) ∷ Absent ∷ Absent ∷ Tree kind.EmptyStmt (at 0 0 ∷ []) ∷ [])) sloppy ≡ true
in_property = search (rules, the_lemmas)

abbrev chained_call : Node → Node
chained_call callee = Tree kind.OptChainExpr (at 0 0 ∷ Flag true ∷ Tree kind.OptCall (at 0 0 ∷ callee ∷ Many [] ∷ []) ∷ [])

abbrev new : Node
new = Tree kind.NewExpr (at 0 0 ∷ a ∷ Absent ∷ [])

-- `(new a)?.()` needs its pair, also as the call alone
new_chained : derives (chained_call new) sloppy ≡ false
new_chained = search (rules, the_lemmas)

new_called : derives (Tree kind.OptCall (at 0 0 ∷ new ∷ Many [] ∷ [])) sloppy ≡ false
new_called = search (rules, the_lemmas)

new_chained_pair : derives (chained_call (paren new)) sloppy ≡ true
new_chained_pair = search (rules, the_lemmas)

abbrev block : List Node → Node
block stmts = Tree kind.BlockStmt (at 0 0 ∷ Many stmts ∷ [])

abbrev function : Node → Node
function body = Tree kind.Function (at 0 0 ∷ Many [] ∷ body ∷ Flag false ∷ Flag false ∷ [])

-- `if (a) function f() {}`, a plain function as a branch
abbrev branch : Node
branch = choice (Tree kind.FnDecl (name (codes "f") ∷ function (block []) ∷ [])) Absent

abbrev script : List Node → Node
script stmts = Tree kind.Script (at 0 0 ∷ Many stmts ∷ Absent ∷ [])

sloppy_branch : derives (script (branch ∷ [])) sloppy ≡ true
sloppy_branch = search (rules, the_lemmas)

-- not below `use strict`, nor in what a class extends
strict_branch : derives (script (statement (Tree kind.Str (at 0 0 ∷ Text (codes "use strict") ∷ Absent ∷ [])) ∷ branch ∷ [])) sloppy ≡ false
strict_branch = search (rules, the_lemmas)

heritage_branch : derives (Tree kind.Class (at 0 0 ∷ Tree kind.FnExpr (Absent ∷ function (block (branch ∷ [])) ∷ []) ∷ Many [] ∷ [])) sloppy ≡ false
heritage_branch = search (rules, the_lemmas)

-- no pair is asked for where nothing stands: `return`
nothing_returned : derives (Tree kind.ReturnStmt (at 0 0 ∷ Absent ∷ [])) sloppy ≡ true
nothing_returned = search (rules, the_lemmas)
