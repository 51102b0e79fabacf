-- The order in which ids get their names: a scope's own in the order of their bindings, then those of the scopes in it,
-- each with all below it before the next. It is that of the source, but for a catch clause, whose body comes before its
-- parameter. That a name which leaves a block counts at the block's end is true of this order: all that a scope declares
-- from within a block are names that leave it, and the block is one stretch of the source.
use Rattle.std.specs.Prelude.{◌≡◌, ℕ, List, [], ◌∷◌, ◌+◌, ◌==◌, if◌then◌else◌, is_some}
use Rattle.std.specs.declared.cmp.Ordering.{Ordering}
use Rattle.std.specs.declared.cmp.Ordering.TheVariants.{Less}
use Rattle.std.specs.Ordering.{nat_cmp, ordering_then}
use Rattle.std.specs.Cmp.Lexicographic.{slice_cmp}
use Rattle.swc_tree_node.specs.declared.fields.statements.catch_clause.TheConstants as catch_clause
use Rattle.swc_tree_node.specs.declared.kind.Kind.{Kind}
use Rattle.swc_tree_node.specs.declared.kind.Kind.TheVariants as kind
use Rattle.swc_tree_node.specs.declared.node.Node.{Node, out-Node}
use Rattle.swc_tree_node.specs.declared.node.Node.TheOpen.{Node-F}
use Rattle.swc_tree_scoping.specs.Places.{Path, child, given, is_at}
use Rattle.swc_base_rename_analysis.specs.Analysis.{key_field}

-- the body and the parameter of a catch clause change places
abbrev pub body_first : ℕ → ℕ
body_first i = if i == catch_clause.PARAM then catch_clause.BODY else (if i == catch_clause.BODY then catch_clause.PARAM else i)

-- a key comes first, and then, at turn 1, the scope of its node is entered
abbrev pub key_first : Kind → ℕ → ℕ
key_first k i = if is_at (key_field k) i then 0 else i + 2

-- when a child is visited: by its number but for these two
abbrev pub turn_in : Kind → ℕ → ℕ
turn_in kind.CatchClause i = body_first i
turn_in k i = if is_some (key_field k) then key_first k i else i

abbrev pub turn : Node-F Node → ℕ → ℕ
turn (Node-F.Tree k ts) i = turn_in k i
turn _ i = i

-- when the scope of a node is entered: before its children, but after a key
abbrev pub entry : Node-F Node → List ℕ
entry (Node-F.Tree k ts) = if is_some (key_field k) then 1 ∷ [] else []
entry _ = []

-- the turns on the way to a path
abbrev pub turns : (Node-F Node → List ℕ) → Node → Path → List ℕ
turns end t [] = end (out-Node t)
turns end t (i ∷ p) = turn (out-Node t) i ∷ given (child t i) [] (λ c. turns end c p)

-- a scope, and a binding of an id that it declares
abbrev pub Site : Type 0
Site = Path × Path

-- by the scopes, and in one scope by the bindings
abbrev pub site_cmp : Node → Site → Site → Ordering
site_cmp t a b = ordering_then (slice_cmp nat_cmp (turns entry t a.0) (turns entry t b.0)) (slice_cmp nat_cmp (turns (λ _. []) t a.1) (turns (λ _. []) t b.1))

abbrev pub IsBefore : Node → Site → Site → Type 0
IsBefore t a b = site_cmp t a b ≡ Less
