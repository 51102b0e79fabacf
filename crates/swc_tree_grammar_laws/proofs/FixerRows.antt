-- Which pairs small trees get by levels and operands, and that they are needed.
use Rattle.std.proofs.Common.{[], ◌∷◌, true, false, codes, rules}
use Rattle.swc_tree_node.specs.declared.kind.Kind.TheVariants as kind
use Rattle.swc_tree_node.specs.declared.kind.Word.TheVariants as word
use Rattle.swc_tree_node.specs.declared.node.Node.{Absent, Flag, Text, Tree, List as Many, the_lemmas}
use Rattle.swc_tree_grammar_laws.proofs.Rows.{at, name, bound}
use Rattle.swc_tree_grammar_laws.proofs.Trees.{Bare, Needs, a, b, c, d, f, x, number, bin, unary, assign, cond, paren, seq, call, item, bare_new, new, member, element, chain, object, awaits, arrow, block, loop, loop_of, default}

-- `a * (b + c)`
factor : Needs (bin word.Mul a (bin word.Plus b c)) (bin word.Mul a (paren (bin word.Plus b c))) (3 ∷ [])
factor = (search (rules, the_lemmas), search (rules, the_lemmas), search (rules, the_lemmas))

-- `-(2 * 3)`
negated : Needs (unary word.Minus (bin word.Mul (number (codes "2")) (number (codes "3")))) (unary word.Minus (paren (bin word.Mul (number (codes "2")) (number (codes "3"))))) (2 ∷ [])
negated = (search (rules, the_lemmas), search (rules, the_lemmas), search (rules, the_lemmas))

-- `(0, a.b)()`
dropped_callee : Needs (call (seq (number (codes "0") ∷ member a ∷ [])) []) (call (paren (seq (number (codes "0") ∷ member a ∷ []))) []) (1 ∷ [])
dropped_callee = (search (rules, the_lemmas), search (rules, the_lemmas), search (rules, the_lemmas))

-- `new (a()).b()`
new_spine : Needs (new (member (call a [])) []) (new (member (paren (call a []))) []) (1 ∷ 1 ∷ [])
new_spine = (search (rules, the_lemmas), search (rules, the_lemmas), search (rules, the_lemmas))

-- `(a?.b).b`
after_chain : Needs (member (chain true (member a))) (member (paren (chain true (member a)))) (1 ∷ [])
after_chain = (search (rules, the_lemmas), search (rules, the_lemmas), search (rules, the_lemmas))

-- a conditional in a pair, as the test of a conditional
test_choice : Needs (cond (cond a b c) d f) (cond (paren (cond a b c)) d f) (1 ∷ [])
test_choice = (search (rules, the_lemmas), search (rules, the_lemmas), search (rules, the_lemmas))

-- a sequence in a pair, as the last part of a conditional
choice_list : Needs (cond a b (seq (c ∷ d ∷ []))) (cond a b (paren (seq (c ∷ d ∷ [])))) (3 ∷ [])
choice_list = (search (rules, the_lemmas), search (rules, the_lemmas), search (rules, the_lemmas))

-- `(-a) ** b`
power_base : Needs (bin word.Exp (unary word.Minus a) b) (bin word.Exp (paren (unary word.Minus a)) b) (2 ∷ [])
power_base = (search (rules, the_lemmas), search (rules, the_lemmas), search (rules, the_lemmas))

-- `(await a) ** b`
power_await : Needs (bin word.Exp (awaits a) b) (bin word.Exp (paren (awaits a)) b) (2 ∷ [])
power_await = (search (rules, the_lemmas), search (rules, the_lemmas), search (rules, the_lemmas))

-- `(a ** b) ** c`
power_left : Needs (bin word.Exp (bin word.Exp a b) c) (bin word.Exp (paren (bin word.Exp a b)) c) (2 ∷ [])
power_left = (search (rules, the_lemmas), search (rules, the_lemmas), search (rules, the_lemmas))

-- `a ** b ** c`
power_right : Bare (bin word.Exp a (bin word.Exp b c))
power_right = (search (rules, the_lemmas), search (rules, the_lemmas))

-- `(a || b) ?? c`
mixed_left : Needs (bin word.NullishCoalescing (bin word.LogicalOr a b) c) (bin word.NullishCoalescing (paren (bin word.LogicalOr a b)) c) (2 ∷ [])
mixed_left = (search (rules, the_lemmas), search (rules, the_lemmas), search (rules, the_lemmas))

-- `a || (b ?? c)`
mixed_right : Needs (bin word.LogicalOr a (bin word.NullishCoalescing b c)) (bin word.LogicalOr a (paren (bin word.NullishCoalescing b c))) (3 ∷ [])
mixed_right = (search (rules, the_lemmas), search (rules, the_lemmas), search (rules, the_lemmas))

-- `a || « b || c »`
same_or : Bare (bin word.LogicalOr a (bin word.LogicalOr b c))
same_or = (search (rules, the_lemmas), search (rules, the_lemmas))

-- `a && (b || c)`
differ_and : Needs (bin word.LogicalAnd a (bin word.LogicalOr b c)) (bin word.LogicalAnd a (paren (bin word.LogicalOr b c))) (3 ∷ [])
differ_and = (search (rules, the_lemmas), search (rules, the_lemmas), search (rules, the_lemmas))

-- `a - b - c`
left_minus : Bare (bin word.Minus (bin word.Minus a b) c)
left_minus = (search (rules, the_lemmas), search (rules, the_lemmas))

-- `a - (b - c)`
right_minus : Needs (bin word.Minus a (bin word.Minus b c)) (bin word.Minus a (paren (bin word.Minus b c))) (3 ∷ [])
right_minus = (search (rules, the_lemmas), search (rules, the_lemmas), search (rules, the_lemmas))

-- `f((a, b))`, in it the part with the pair
list_argument : Needs (item (seq (a ∷ b ∷ []))) (item (paren (seq (a ∷ b ∷ [])))) (1 ∷ [])
list_argument = (search (rules, the_lemmas), search (rules, the_lemmas), search (rules, the_lemmas))

-- `a[b, c]`
list_brackets : Bare (element a (seq (b ∷ c ∷ [])))
list_brackets = (search (rules, the_lemmas), search (rules, the_lemmas))

-- `{ [(a, b)]: c }`, in it the part with the pair
list_key : Needs (Tree kind.KeyValueProp (Tree kind.ComputedPropName (at 0 0 ∷ seq (a ∷ b ∷ []) ∷ []) ∷ c ∷ [])) (Tree kind.KeyValueProp (Tree kind.ComputedPropName (at 0 0 ∷ paren (seq (a ∷ b ∷ [])) ∷ []) ∷ c ∷ [])) (0 ∷ 1 ∷ [])
list_key = (search (rules, the_lemmas), search (rules, the_lemmas), search (rules, the_lemmas))

-- `{ b: (a, c) }`, in it the part with the pair
list_value : Needs (Tree kind.KeyValueProp (Tree kind.IdentName (at 0 0 ∷ Text (codes "b") ∷ []) ∷ seq (a ∷ c ∷ []) ∷ [])) (Tree kind.KeyValueProp (Tree kind.IdentName (at 0 0 ∷ Text (codes "b") ∷ []) ∷ paren (seq (a ∷ c ∷ [])) ∷ [])) (1 ∷ [])
list_value = (search (rules, the_lemmas), search (rules, the_lemmas), search (rules, the_lemmas))

-- ``${a, b}``
list_template : Bare (Tree kind.Tpl (at 0 0 ∷ Many (seq (a ∷ b ∷ []) ∷ []) ∷ Many (Tree kind.TplElement (at 0 0 ∷ Flag false ∷ Text (codes "") ∷ Text (codes "") ∷ []) ∷ Tree kind.TplElement (at 0 0 ∷ Flag true ∷ Text (codes "") ∷ Text (codes "") ∷ []) ∷ []) ∷ []))
list_template = (search (rules, the_lemmas), search (rules, the_lemmas))

-- `-(x = a)`
update_operand : Needs (unary word.Minus (assign (bound (codes "x")) a)) (unary word.Minus (paren (assign (bound (codes "x")) a))) (2 ∷ [])
update_operand = (search (rules, the_lemmas), search (rules, the_lemmas), search (rules, the_lemmas))

-- `(a?.b)()`
call_in_chain : Needs (call (chain true (member a)) []) (call (paren (chain true (member a))) []) (1 ∷ [])
call_in_chain = (search (rules, the_lemmas), search (rules, the_lemmas), search (rules, the_lemmas))

-- `a?.b.b`
chain_on : Bare (chain false (member (chain true (member a))))
chain_on = (search (rules, the_lemmas), search (rules, the_lemmas))

-- `(new a).b`
bare_new_member : Needs (member (bare_new a)) (member (paren (bare_new a))) (1 ∷ [])
bare_new_member = (search (rules, the_lemmas), search (rules, the_lemmas), search (rules, the_lemmas))

-- `(new a)()`
bare_new_call : Needs (call (bare_new a) []) (call (paren (bare_new a)) []) (1 ∷ [])
bare_new_call = (search (rules, the_lemmas), search (rules, the_lemmas), search (rules, the_lemmas))

-- `new (new a)()`
bare_new_new : Needs (new (bare_new a) []) (new (paren (bare_new a)) []) (1 ∷ [])
bare_new_new = (search (rules, the_lemmas), search (rules, the_lemmas), search (rules, the_lemmas))

-- `new new a`
new_new : Bare (bare_new (bare_new a))
new_new = (search (rules, the_lemmas), search (rules, the_lemmas))

-- `new (a())()`
new_call : Needs (new (call a []) []) (new (paren (call a [])) []) (1 ∷ [])
new_call = (search (rules, the_lemmas), search (rules, the_lemmas), search (rules, the_lemmas))

-- `new (a?.b)()`
new_chain : Needs (new (chain true (member a)) []) (new (paren (chain true (member a))) []) (1 ∷ [])
new_chain = (search (rules, the_lemmas), search (rules, the_lemmas), search (rules, the_lemmas))

-- `class extends (a = b) {}`, in it the part with the pair
heritage : Needs (Tree kind.Class (at 0 0 ∷ assign (bound (codes "a")) b ∷ Many [] ∷ [])) (Tree kind.Class (at 0 0 ∷ paren (assign (bound (codes "a")) b) ∷ Many [] ∷ [])) (1 ∷ [])
heritage = (search (rules, the_lemmas), search (rules, the_lemmas), search (rules, the_lemmas))

-- `class { a = (b, c) }`, in it the part with the pair
field : Needs (Tree kind.ClassProp (at 0 0 ∷ Tree kind.IdentName (at 0 0 ∷ Text (codes "a") ∷ []) ∷ seq (b ∷ c ∷ []) ∷ Flag false ∷ [])) (Tree kind.ClassProp (at 0 0 ∷ Tree kind.IdentName (at 0 0 ∷ Text (codes "a") ∷ []) ∷ paren (seq (b ∷ c ∷ [])) ∷ Flag false ∷ [])) (2 ∷ [])
field = (search (rules, the_lemmas), search (rules, the_lemmas), search (rules, the_lemmas))

-- `(a = (b, c)) => d`, in it the part with the pair
parameter : Needs (Tree kind.AssignPat (at 0 0 ∷ bound (codes "a") ∷ seq (b ∷ c ∷ []) ∷ [])) (Tree kind.AssignPat (at 0 0 ∷ bound (codes "a") ∷ paren (seq (b ∷ c ∷ [])) ∷ [])) (2 ∷ [])
parameter = (search (rules, the_lemmas), search (rules, the_lemmas), search (rules, the_lemmas))

-- `() => (a, b)`
arrow_list : Needs (arrow (seq (a ∷ b ∷ []))) (arrow (paren (seq (a ∷ b ∷ [])))) (2 ∷ [])
arrow_list = (search (rules, the_lemmas), search (rules, the_lemmas), search (rules, the_lemmas))

-- `() => {}`
arrow_block : Bare (arrow (block []))
arrow_block = (search (rules, the_lemmas), search (rules, the_lemmas))

-- `let.b`
let_member : Bare (member (name (codes "let")))
let_member = (search (rules, the_lemmas), search (rules, the_lemmas))

-- `export default (a, b);`
default_list : Needs (default (seq (a ∷ b ∷ []))) (default (paren (seq (a ∷ b ∷ [])))) (1 ∷ [])
default_list = (search (rules, the_lemmas), search (rules, the_lemmas), search (rules, the_lemmas))

-- `export default {};`
default_object : Bare (default (object []))
default_object = (search (rules, the_lemmas), search (rules, the_lemmas))

-- `export default a();`
default_call : Bare (default (call a []))
default_call = (search (rules, the_lemmas), search (rules, the_lemmas))

-- `for (a[b in c];;) ;`
in_brackets : Bare (loop (element a (bin word.In b c)))
in_brackets = (search (rules, the_lemmas), search (rules, the_lemmas))

-- the first part of a `for` is a conditional, between whose parts `in` stands bare
in_middle : Bare (loop (cond a (bin word.In b c) d))
in_middle = (search (rules, the_lemmas), search (rules, the_lemmas))

-- `for (f(a in b);;) ;`
in_argument : Bare (loop (call f (item (bin word.In a b) ∷ [])))
in_argument = (search (rules, the_lemmas), search (rules, the_lemmas))

-- `for await (async of x) ;`
async_await : Bare (loop_of true (bound (codes "async")) x)
async_await = (search (rules, the_lemmas), search (rules, the_lemmas))

-- `for (async.b of x) ;`
async_member : Bare (loop_of false (member (name (codes "async"))) x)
async_member = (search (rules, the_lemmas), search (rules, the_lemmas))

-- `for (using a of b) ;`
using_of : Bare (loop_of false (Tree kind.UsingDecl (at 0 0 ∷ Flag false ∷ Many (Tree kind.VarDeclarator (at 0 0 ∷ bound (codes "a") ∷ Absent ∷ []) ∷ []) ∷ [])) b)
using_of = (search (rules, the_lemmas), search (rules, the_lemmas))

-- `{ using a = b; }`
using_block : Bare (block (Tree kind.UsingDecl (at 0 0 ∷ Flag false ∷ Many (Tree kind.VarDeclarator (at 0 0 ∷ bound (codes "a") ∷ b ∷ []) ∷ []) ∷ []) ∷ []))
using_block = (search (rules, the_lemmas), search (rules, the_lemmas))
