-- Which pairs small trees get for a reader.
use Rattle.std.proofs.Common.{[], ◌∷◌, true, false, codes, rules}
use Rattle.swc_tree_node.specs.declared.kind.Kind.TheVariants as kind
use Rattle.swc_tree_node.specs.declared.kind.Word.TheVariants as word
use Rattle.swc_tree_node.specs.declared.node.Node.{Absent, Flag, Text, Tree, List as Many, the_lemmas}
use Rattle.swc_tree_grammar_laws.proofs.Rows.{at, bound}
use Rattle.swc_tree_grammar_laws.proofs.Trees.{Bare, Shows, a, b, c, d, f, number, bin, unary, assign, paren, statement, seq, call, optional_call, item, new, member, object, yields, awaits, arrow, function, class, empty, loop_of, default}

-- `(true)()`
literal_callee : Shows (call (Tree kind.Bool (at 0 0 ∷ Flag true ∷ [])) []) (call (paren (Tree kind.Bool (at 0 0 ∷ Flag true ∷ []))) []) (1 ∷ [])
literal_callee = (search (rules, the_lemmas), search (rules, the_lemmas), search (rules, the_lemmas))

-- `(/a/)?.()`, in it the part with the pair
chained_callee : Shows (optional_call (Tree kind.Regex (at 0 0 ∷ Text (codes "a") ∷ Text (codes "") ∷ [])) []) (optional_call (paren (Tree kind.Regex (at 0 0 ∷ Text (codes "a") ∷ Text (codes "") ∷ []))) []) (1 ∷ [])
chained_callee = (search (rules, the_lemmas), search (rules, the_lemmas), search (rules, the_lemmas))

-- `1()`
number_callee : Bare (call (number (codes "1")) [])
number_callee = (search (rules, the_lemmas), search (rules, the_lemmas))

-- `(class {})()`
class_callee : Shows (call class []) (call (paren class) []) (1 ∷ [])
class_callee = (search (rules, the_lemmas), search (rules, the_lemmas), search (rules, the_lemmas))

-- `({})()`
object_callee : Shows (call (object []) []) (call (paren (object [])) []) (1 ∷ [])
object_callee = (search (rules, the_lemmas), search (rules, the_lemmas), search (rules, the_lemmas))

-- `« function() {} »()`
function_callee : Bare (call function [])
function_callee = (search (rules, the_lemmas), search (rules, the_lemmas))

-- `(function() {}).b`
function_object : Shows (member function) (member (paren function)) (1 ∷ [])
function_object = (search (rules, the_lemmas), search (rules, the_lemmas), search (rules, the_lemmas))

-- `(class {}).b`
class_object : Shows (member class) (member (paren class)) (1 ∷ [])
class_object = (search (rules, the_lemmas), search (rules, the_lemmas), search (rules, the_lemmas))

-- `(function() {})?.b`, in it the part with the pair
chained_object : Shows (member function) (member (paren function)) (1 ∷ [])
chained_object = (search (rules, the_lemmas), search (rules, the_lemmas), search (rules, the_lemmas))

-- `« {} ».b`
object_object : Bare (member (object []))
object_object = (search (rules, the_lemmas), search (rules, the_lemmas))

-- `(function() {})`a``
function_tag : Shows (Tree kind.TaggedTpl (at 0 0 ∷ function ∷ Tree kind.Tpl (at 0 0 ∷ Many [] ∷ Many (Tree kind.TplElement (at 0 0 ∷ Flag true ∷ Text (codes "a") ∷ Text (codes "a") ∷ []) ∷ []) ∷ []) ∷ [])) (Tree kind.TaggedTpl (at 0 0 ∷ paren function ∷ Tree kind.Tpl (at 0 0 ∷ Many [] ∷ Many (Tree kind.TplElement (at 0 0 ∷ Flag true ∷ Text (codes "a") ∷ Text (codes "a") ∷ []) ∷ []) ∷ []) ∷ [])) (1 ∷ [])
function_tag = (search (rules, the_lemmas), search (rules, the_lemmas), search (rules, the_lemmas))

-- `« class {} »`a``
class_tag : Bare (Tree kind.TaggedTpl (at 0 0 ∷ class ∷ Tree kind.Tpl (at 0 0 ∷ Many [] ∷ Many (Tree kind.TplElement (at 0 0 ∷ Flag true ∷ Text (codes "a") ∷ Text (codes "a") ∷ []) ∷ []) ∷ []) ∷ []))
class_tag = (search (rules, the_lemmas), search (rules, the_lemmas))

-- `new ("a")()`
literal_new : Shows (new (Tree kind.Str (at 0 0 ∷ Text (codes "a") ∷ Text (codes "\"a\"") ∷ [])) []) (new (paren (Tree kind.Str (at 0 0 ∷ Text (codes "a") ∷ Text (codes "\"a\"") ∷ []))) []) (1 ∷ [])
literal_new = (search (rules, the_lemmas), search (rules, the_lemmas), search (rules, the_lemmas))

-- `(delete a.b) + c`
deleted_left : Shows (bin word.Plus (unary word.Delete (member a)) c) (bin word.Plus (paren (unary word.Delete (member a))) c) (2 ∷ [])
deleted_left = (search (rules, the_lemmas), search (rules, the_lemmas), search (rules, the_lemmas))

-- `(delete a.b) == c`
deleted_equal : Shows (bin word.EqEq (unary word.Delete (member a)) c) (bin word.EqEq (paren (unary word.Delete (member a))) c) (2 ∷ [])
deleted_equal = (search (rules, the_lemmas), search (rules, the_lemmas), search (rules, the_lemmas))

-- `(void a) + b`
void_left : Shows (bin word.Plus (unary word.Void a) b) (bin word.Plus (paren (unary word.Void a)) b) (2 ∷ [])
void_left = (search (rules, the_lemmas), search (rules, the_lemmas), search (rules, the_lemmas))

-- `void a == b`
void_equal : Bare (bin word.EqEq (unary word.Void a) b)
void_equal = (search (rules, the_lemmas), search (rules, the_lemmas))

-- `a + void b`
void_right : Bare (bin word.Plus a (unary word.Void b))
void_right = (search (rules, the_lemmas), search (rules, the_lemmas))

-- `({}) instanceof a`
object_instance : Shows (bin word.InstanceOf (object []) a) (bin word.InstanceOf (paren (object [])) a) (2 ∷ [])
object_instance = (search (rules, the_lemmas), search (rules, the_lemmas), search (rules, the_lemmas))

-- `({}) === a`
object_equal : Shows (bin word.EqEqEq (object []) a) (bin word.EqEqEq (paren (object [])) a) (2 ∷ [])
object_equal = (search (rules, the_lemmas), search (rules, the_lemmas), search (rules, the_lemmas))

-- `« {} » + a`
object_sum : Bare (bin word.Plus (object []) a)
object_sum = (search (rules, the_lemmas), search (rules, the_lemmas))

-- `f((yield a))`, in it the part with the pair
yield_argument : Shows (item (yields a)) (item (paren (yields a))) (1 ∷ [])
yield_argument = (search (rules, the_lemmas), search (rules, the_lemmas), search (rules, the_lemmas))

-- `f(...yield a)`
yield_spread : Bare (call f (Tree kind.ExprOrSpread (at 0 0 ∷ yields a ∷ []) ∷ []))
yield_spread = (search (rules, the_lemmas), search (rules, the_lemmas))

-- `[(yield a)]`, in it the part with the pair
yield_element : Shows (item (yields a)) (item (paren (yields a))) (1 ∷ [])
yield_element = (search (rules, the_lemmas), search (rules, the_lemmas), search (rules, the_lemmas))

-- `export default (() => a);`
arrow_default : Shows (default (arrow a)) (default (paren (arrow a))) (1 ∷ [])
arrow_default = (search (rules, the_lemmas), search (rules, the_lemmas), search (rules, the_lemmas))

-- `for (a of (await b)) ;`
await_of : Shows (loop_of false (bound (codes "a")) (awaits b)) (loop_of false (bound (codes "a")) (paren (awaits b))) (3 ∷ [])
await_of = (search (rules, the_lemmas), search (rules, the_lemmas), search (rules, the_lemmas))

-- `for (a in await b) ;`
await_in : Bare (Tree kind.ForInStmt (at 0 0 ∷ bound (codes "a") ∷ awaits b ∷ empty ∷ []))
await_in = (search (rules, the_lemmas), search (rules, the_lemmas))

-- `() => ([a] = b)`
array_assigned : Shows (arrow (assign (Tree kind.ArrayPat (at 0 0 ∷ Many (bound (codes "a") ∷ []) ∷ [])) b)) (arrow (paren (assign (Tree kind.ArrayPat (at 0 0 ∷ Many (bound (codes "a") ∷ []) ∷ [])) b))) (2 ∷ [])
array_assigned = (search (rules, the_lemmas), search (rules, the_lemmas), search (rules, the_lemmas))

-- `a, ({}), b;`
object_between : Shows (statement (seq (a ∷ object [] ∷ b ∷ []))) (statement (seq (a ∷ paren (object []) ∷ b ∷ []))) (1 ∷ 1 ∷ 1 ∷ [])
object_between = (search (rules, the_lemmas), search (rules, the_lemmas), search (rules, the_lemmas))

-- `a, (class {}), b;`
class_between : Shows (statement (seq (a ∷ class ∷ b ∷ []))) (statement (seq (a ∷ paren class ∷ b ∷ []))) (1 ∷ 1 ∷ 1 ∷ [])
class_between = (search (rules, the_lemmas), search (rules, the_lemmas), search (rules, the_lemmas))

-- `a, ({ b } = c), d;`
pattern_between : Shows (statement (seq (a ∷ assign (Tree kind.ObjectPat (at 0 0 ∷ Many (Tree kind.AssignPatProp (at 0 0 ∷ bound (codes "b") ∷ Absent ∷ []) ∷ []) ∷ [])) c ∷ d ∷ []))) (statement (seq (a ∷ paren (assign (Tree kind.ObjectPat (at 0 0 ∷ Many (Tree kind.AssignPatProp (at 0 0 ∷ bound (codes "b") ∷ Absent ∷ []) ∷ []) ∷ [])) c) ∷ d ∷ []))) (1 ∷ 1 ∷ 1 ∷ [])
pattern_between = (search (rules, the_lemmas), search (rules, the_lemmas), search (rules, the_lemmas))

-- `a, {};`
object_last : Bare (statement (seq (a ∷ object [] ∷ [])))
object_last = (search (rules, the_lemmas), search (rules, the_lemmas))
