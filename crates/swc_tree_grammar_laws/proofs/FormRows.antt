-- Normal forms, needed pairs and due pairs on small trees.
use Rattle.std.proofs.Common.{◌≡◌, ℕ, List, [], ◌∷◌, Bool, true, false, codes, rules}
use Rattle.swc_tree_node.specs.declared.kind.Kind.{Kind}
use Rattle.swc_tree_node.specs.declared.kind.Kind.TheVariants as kind
use Rattle.swc_tree_node.specs.declared.kind.Word.TheVariants as word
use Rattle.swc_tree_node.specs.declared.node.Node.{Node, Absent, Flag, Word, Text, List as Many, Identifier, Tree, the_lemmas}
use Rattle.swc_tree_grammar.specs.Blocks.{no_span}
use Rattle.swc_tree_grammar.specs.Normal.{written_out}
use Rattle.swc_tree_grammar.specs.Needed.{without_pair}
use Rattle.swc_tree_grammar.specs.Due.{Places, paired_by_level, call_paired, paired_in_heads, paired_at_starts}
use Rattle.swc_tree_grammar_laws.proofs.Rows.{at, a, x, name, bound, paren, call, choice, statement}
use Rattle.swc_tree_grammar_laws.proofs.GrammarRows.{bin, member}

abbrev object : List Node → Node
object props = Tree kind.ObjectLit (at 0 0 ∷ Many props ∷ [])

abbrev key : List ℕ → Node
key text = Tree kind.IdentName (at 0 0 ∷ Text text ∷ [])

-- `({ a })` is `({ a: a })`
shorthand : written_out (object (a ∷ [])) ≡ object (Tree kind.KeyValueProp (key (codes "a") ∷ a ∷ []) ∷ [])
shorthand = search (rules, the_lemmas)

proto : written_out (object (name (codes "__proto__") ∷ []))
    ≡ object (Tree kind.KeyValueProp (Tree kind.ComputedPropName (at 0 0 ∷ Tree kind.Str (at 0 0 ∷ Text (codes "__proto__") ∷ Absent ∷ []) ∷ []) ∷ name (codes "__proto__") ∷ []) ∷ [])
proto = search (rules, the_lemmas)

-- a block that only keeps an `else` out is none
block : written_out (choice (Tree kind.BlockStmt (at 0 0 ∷ Many (choice (statement x) Absent ∷ []) ∷ [])) (statement x)) ≡ choice (choice (statement x) Absent) (statement x)
block = search (rules, the_lemmas)

abbrev exported : Node
exported = Tree kind.ExportDecl (at 0 0 ∷ Tree kind.VarDecl (at 0 0 ∷ Word word.Var ∷ Many (Tree kind.VarDeclarator (at 0 0 ∷ bound (codes "a") ∷ Absent ∷ []) ∷ []) ∷ []) ∷ [])

-- `export var a` is `var a; export { a as a }`
split : written_out (Tree kind.Module (at 0 0 ∷ Many (exported ∷ []) ∷ Absent ∷ []))
    ≡ Tree kind.Module (at 0 0 ∷ Many (Tree kind.VarDecl (at 0 0 ∷ Word word.Var ∷ Many (Tree kind.VarDeclarator (at 0 0 ∷ bound (codes "a") ∷ Absent ∷ []) ∷ []) ∷ [])
    ∷ Tree kind.NamedExport (at 0 0 ∷ Many (Tree kind.ExportNamedSpecifier (at 0 0 ∷ a ∷ a ∷ []) ∷ []) ∷ Absent ∷ Absent ∷ []) ∷ []) ∷ Absent ∷ [])
split = search (rules, the_lemmas)

abbrev marked : Kind → List ℕ → Node
marked k context = Identifier k (record { span = no_span; ctxt = context; sym = codes "a" })

abbrev declarator : Node → Node
declarator name = Tree kind.VarDeclarator (at 0 0 ∷ name ∷ Absent ∷ [])

abbrev var : List Node → Node
var declarators = Tree kind.VarDecl (at 0 0 ∷ Word word.Var ∷ Many declarators ∷ [])

abbrev two_names : Node
two_names = var (declarator (marked kind.BindingIdent (1 ∷ [])) ∷ declarator (marked kind.BindingIdent (2 ∷ [])) ∷ [])

abbrev specifier : List ℕ → Node
specifier context = Tree kind.ExportNamedSpecifier (at 0 0 ∷ marked kind.Ident context ∷ a ∷ [])

-- `export var a#1, a#2` is `var a#1, a#2; export { a#1 as a, a#2 as a }`
split_by_id : written_out (Tree kind.Module (at 0 0 ∷ Many (Tree kind.ExportDecl (at 0 0 ∷ two_names ∷ []) ∷ []) ∷ Absent ∷ []))
    ≡ Tree kind.Module (at 0 0 ∷ Many (two_names ∷ Tree kind.NamedExport (at 0 0 ∷ Many (specifier (1 ∷ []) ∷ specifier (2 ∷ []) ∷ []) ∷ Absent ∷ Absent ∷ []) ∷ []) ∷ Absent ∷ [])
split_by_id = search (rules, the_lemmas)

-- an expression that is a name, as a declared name, a parameter and a catch parameter
declared_pattern : written_out (var (declarator a ∷ [])) ≡ var (declarator (bound (codes "a")) ∷ [])
declared_pattern = search (rules, the_lemmas)

parameter_pattern : written_out (Tree kind.Param (at 0 0 ∷ a ∷ [])) ≡ Tree kind.Param (at 0 0 ∷ bound (codes "a") ∷ [])
parameter_pattern = search (rules, the_lemmas)

abbrev arrow : Node → Node
arrow parameter = Tree kind.ArrowExpr (at 0 0 ∷ Many (parameter ∷ []) ∷ x ∷ Flag false ∷ [])

arrow_pattern : written_out (arrow a) ≡ arrow (bound (codes "a"))
arrow_pattern = search (rules, the_lemmas)

abbrev empty : Node
empty = Tree kind.BlockStmt (at 0 0 ∷ Many [] ∷ [])

abbrev setter : Node → Node
setter parameter = Tree kind.SetterProp (at 0 0 ∷ key (codes "b") ∷ parameter ∷ empty ∷ [])

setter_pattern : written_out (setter a) ≡ setter (bound (codes "a"))
setter_pattern = search (rules, the_lemmas)

abbrev catch : Node → Node
catch parameter = Tree kind.CatchClause (at 0 0 ∷ parameter ∷ empty ∷ [])

catch_pattern : written_out (catch a) ≡ catch (bound (codes "a"))
catch_pattern = search (rules, the_lemmas)

-- the pair of `a * (b + c)` taken off
taken_off : without_pair (bin word.Mul a (paren (bin word.Plus a x))) (3 ∷ []) ≡ bin word.Mul a (bin word.Plus a x)
taken_off = search (rules, the_lemmas)

abbrev same_place : Places
same_place s = s

-- `a * b + c` with the sum as a factor gets its pair, and the product as a term none
factor : paired_by_level same_place (bin word.Mul a (bin word.Plus a x)) ≡ bin word.Mul a (paren (bin word.Plus a x))
factor = search (rules, the_lemmas)

term : paired_by_level same_place (bin word.Plus (bin word.Mul a x) a) ≡ bin word.Plus (bin word.Mul a x) a
term = search (rules, the_lemmas)

-- of a callee of `new` the call on its left gets the pair
new_spine : call_paired same_place (member (call (codes "a"))) ≡ member (paren (call (codes "a")))
new_spine = search (rules, the_lemmas)

-- `for (x = (a in x);;) ;`
abbrev assigned : Node → Node
assigned right = Tree kind.AssignExpr (at 0 0 ∷ Word word.Assign ∷ bound (codes "x") ∷ right ∷ [])

abbrev loop : Node → Node
loop init = Tree kind.ForStmt (at 0 0 ∷ init ∷ Absent ∷ Absent ∷ Tree kind.EmptyStmt (at 0 0 ∷ []) ∷ [])

in_head : paired_in_heads same_place (loop (assigned (bin word.In a x))) ≡ loop (assigned (paren (bin word.In a x)))
in_head = search (rules, the_lemmas)

-- `({}) + a`
object_first : paired_at_starts same_place (statement (bin word.Plus (object []) a)) ≡ statement (bin word.Plus (paren (object [])) a)
object_first = search (rules, the_lemmas)

abbrev let_bracket : Node
let_bracket = Tree kind.MemberExpr (at 0 0 ∷ name (codes "let") ∷ Tree kind.ComputedPropName (at 0 0 ∷ x ∷ []) ∷ [])

-- `(let[x])`, but `let?.[x]`
let_first : paired_at_starts same_place (statement let_bracket) ≡ statement (paren let_bracket)
let_first = search (rules, the_lemmas)

abbrev let_part : Bool → Node
let_part optional = Tree kind.OptChainExpr (at 0 0 ∷ Flag optional ∷ let_bracket ∷ [])

let_chain : paired_at_starts same_place (statement (let_part true)) ≡ statement (let_part true)
let_chain = search (rules, the_lemmas)

-- of a part of a chain that is not optional the whole gets the pair, and not its base
let_in_chain : paired_at_starts same_place (statement (let_part false)) ≡ statement (paren (let_part false))
let_in_chain = search (rules, the_lemmas)
