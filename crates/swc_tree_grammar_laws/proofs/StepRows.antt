-- Which pairs small trees get for `in` and `async` in heads of `for`, and for first tokens, and that they are needed.
use Rattle.std.proofs.Common.{◌≡◌, Bool, [], ◌∷◌, true, false, codes, refl, rules}
use Rattle.swc_tree_node.specs.declared.kind.Kind.TheVariants as kind
use Rattle.swc_tree_node.specs.declared.kind.Word.TheVariants as word
use Rattle.swc_tree_node.specs.declared.node.Node.{Node, Absent, Flag, Tree, List as Many, the_lemmas}
use Rattle.swc_tree_grammar.specs.Due.{paired_in_heads, paired_at_starts}
use Rattle.swc_tree_grammar_laws.proofs.Heads.{heading}
use Rattle.swc_tree_grammar_laws.proofs.Rows.{at, name, bound}
use Rattle.swc_tree_grammar_laws.proofs.Trees.{NeedsAfter, NeedsPair, BareAfter, here, a, b, x, bin, assign, paren, statement, call, member, element, object, arrow, block, function, loop, loop_of, var, default}

-- `for (var c = (a in b);;) ;`
declared_in : NeedsPair (loop (var (bound (codes "c")) (paren (bin word.In a b)))) (1 ∷ 2 ∷ 0 ∷ 2 ∷ [])
declared_in = (search (rules, the_lemmas), search (rules, the_lemmas))

-- the name `c` with a default
abbrev defaulted : Node → Node
defaulted e = Tree kind.AssignPat (at 0 0 ∷ bound (codes "c") ∷ e ∷ [])

abbrev array_pattern : Node → Node
array_pattern e = Tree kind.ArrayPat (at 0 0 ∷ Many (e ∷ []) ∷ [])

-- what the step makes of each part, since the trees below are too dear to compute at once
loop_heads : (e : Node) → heading here (loop e) true ≡ loop (heading here e false)
loop_heads e = search (rules, the_lemmas)

var_heads : (n e : Node) → heading here (var n e) false ≡ var (heading here n false) (heading here e false)
var_heads n e = search (rules, the_lemmas)

default_heads : (e : Node) (b : Bool) → heading here (defaulted e) b ≡ defaulted (heading here e b)
default_heads e b = search (rules, the_lemmas)

array_heads : (e : Node) (b : Bool) → heading here (array_pattern e) b ≡ array_pattern (heading here e true)
array_heads e b = search (rules, the_lemmas)

bare_heads : heading here (bin word.In a b) false ≡ paren (bin word.In a b)
bare_heads = search (rules, the_lemmas)

free_heads : heading here (bin word.In a b) true ≡ bin word.In a b
free_heads = search (rules, the_lemmas)

name_heads : heading here x false ≡ x
name_heads = search (rules, the_lemmas)

-- `for (var c = (a in b) = x;;) ;`, whose name has a default that stands in no brackets
default_in : NeedsAfter paired_in_heads (loop (var (defaulted (bin word.In a b)) x)) (loop (var (defaulted (paren (bin word.In a b))) x)) (1 ∷ 2 ∷ 0 ∷ 1 ∷ 2 ∷ [])
default_in = (rw (loop_heads (var (defaulted (bin word.In a b)) x), var_heads (defaulted (bin word.In a b)) x, default_heads (bin word.In a b) false, bare_heads, name_heads) refl, search (rules, the_lemmas), search (rules, the_lemmas))

-- `for (var [c = a in b] = x;;) ;`
default_in_brackets : BareAfter paired_in_heads (loop (var (array_pattern (defaulted (bin word.In a b))) x))
default_in_brackets = (rw (loop_heads (var (array_pattern (defaulted (bin word.In a b))) x), var_heads (array_pattern (defaulted (bin word.In a b))) x, array_heads (defaulted (bin word.In a b)) false, default_heads (bin word.In a b) true, free_heads, name_heads) refl, search (rules, the_lemmas))

-- `for ((a in b);;) ;`
bare_in : NeedsAfter paired_in_heads (loop (bin word.In a b)) (loop (paren (bin word.In a b))) (1 ∷ [])
bare_in = (search (rules, the_lemmas), search (rules, the_lemmas), search (rules, the_lemmas))

-- `for (() => (a in b);;) ;`
in_arrow : NeedsPair (loop (arrow (paren (bin word.In a b)))) (1 ∷ 2 ∷ [])
in_arrow = (search (rules, the_lemmas), search (rules, the_lemmas))

-- `for ((async) of x) ;`
async_of : NeedsAfter paired_in_heads (loop_of false (bound (codes "async")) x) (loop_of false (paren (name (codes "async"))) x) (2 ∷ [])
async_of = (search (rules, the_lemmas), search (rules, the_lemmas), search (rules, the_lemmas))

-- `({}) + a + b;`
object_first : NeedsPair (statement (bin word.Plus (bin word.Plus (paren (object [])) a) b)) (1 ∷ 2 ∷ 2 ∷ [])
object_first = (search (rules, the_lemmas), search (rules, the_lemmas))

-- `(function() {})();`
function_first : NeedsAfter paired_at_starts (statement (call function [])) (statement (call (paren function) [])) (1 ∷ 1 ∷ [])
function_first = (search (rules, the_lemmas), search (rules, the_lemmas), search (rules, the_lemmas))

-- `(async function() {})();`
async_function_first : NeedsPair (statement (call (paren (Tree kind.FnExpr (Absent ∷ Tree kind.Function (at 0 0 ∷ Many [] ∷ block [] ∷ Flag false ∷ Flag true ∷ []) ∷ []))) [])) (1 ∷ 1 ∷ [])
async_function_first = (search (rules, the_lemmas), search (rules, the_lemmas))

-- `({ a } = b);`
pattern_first : NeedsAfter paired_at_starts (statement (assign (Tree kind.ObjectPat (at 0 0 ∷ Many (Tree kind.AssignPatProp (at 0 0 ∷ bound (codes "a") ∷ Absent ∷ []) ∷ []) ∷ [])) b)) (statement (paren (assign (Tree kind.ObjectPat (at 0 0 ∷ Many (Tree kind.AssignPatProp (at 0 0 ∷ bound (codes "a") ∷ Absent ∷ []) ∷ []) ∷ [])) b))) (1 ∷ [])
pattern_first = (search (rules, the_lemmas), search (rules, the_lemmas), search (rules, the_lemmas))

-- `(let[x]).b;`
let_bracket : NeedsPair (statement (member (paren (element (name (codes "let")) x)))) (1 ∷ 1 ∷ [])
let_bracket = (search (rules, the_lemmas), search (rules, the_lemmas))

-- `() => ({})`
arrow_object : NeedsAfter paired_at_starts (arrow (object [])) (arrow (paren (object []))) (2 ∷ [])
arrow_object = (search (rules, the_lemmas), search (rules, the_lemmas), search (rules, the_lemmas))

-- `() => ({}).b`
arrow_object_member : NeedsPair (arrow (member (paren (object [])))) (2 ∷ 1 ∷ [])
arrow_object_member = (search (rules, the_lemmas), search (rules, the_lemmas))

-- `export default (function() {})();`
default_function : NeedsPair (default (call (paren function) [])) (1 ∷ 1 ∷ [])
default_function = (search (rules, the_lemmas), search (rules, the_lemmas))
