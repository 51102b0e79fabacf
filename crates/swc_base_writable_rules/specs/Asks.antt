-- What is asked of a node in its place, and what of each child of a node.
use Rattle.std.specs.Prelude.{ℕ, zero, suc, Bool, true, false, not, ◌&&◌, ◌||◌, ◌==◌, List, [], ◌∷◌, if◌then◌else◌}
use Rattle.std.specs.List.{list_all}
use Rattle.swc_tree_node.specs.declared.node.Node.{Node, out-Node}
use Rattle.swc_tree_grammar.specs.Shapes.{items_of}
use Rattle.swc_tree_grammar.specs.Levels.{is_absent}
use Rattle.swc_tree_grammar.specs.Forms.{form, is_body, is_branch, is_using}
use Rattle.swc_tree_grammar.specs.Kinds.{has_kind, is_private_name}
use Rattle.swc_tree_grammar.specs.Writable.{declares_in, pattern}
use Rattle.swc_base_writable_rules.specs.declared.round.Round.{Round}
use Rattle.swc_base_writable_rules.specs.declared.ask.Ask.{Ask}
use Rattle.swc_base_writable_rules.specs.declared.ask.Ask.TheVariants as ask
use Rattle.swc_base_writable_rules.specs.declared.ask.Row.{Row}
use Rattle.swc_base_writable_rules.specs.declared.ask.Row.TheVariants as row
use Rattle.swc_base_writable_rules.specs.declared.ask.Look.{Look}
use Rattle.swc_base_writable_rules.specs.Rounds.{assigning, round_of}

-- whether a node, as the declaration in the head of a `for` or not, is sound in a round
abbrev pub Sounds : Type 0
Sounds = Bool → Round → Bool

-- what is asked of a child
abbrev pub ask_at : Row → ℕ → Ask
ask_at row.Nothing n = ask.Nothing
ask_at (row.Each a) n = a
ask_at (row.One i a) n = if n == i then a else ask.Nothing
ask_at (row.Two i a j b) n = if n == i then a else (if n == j then b else ask.Nothing)
ask_at (row.Three i a j b k c) n = if n == i then a else (if n == j then b else (if n == k then c else ask.Nothing))
ask_at (row.Four i a j b k c l d) n = if n == i then a else (if n == j then b else (if n == k then c else (if n == l then d else ask.Nothing)))

-- a statement is sound as the branch of an `if`
abbrev pub branches : Node → Round → Sounds → Bool
branches t q f = is_branch q.strict (form t) && f false q

-- a node meets what is asked, by whether it is sound
abbrev pub meets : Ask → Node → Sounds → Bool
meets ask.Nothing t f = true
meets (ask.Sound q) t f = f false q
meets (ask.Part q) t f = not (has_kind is_private_name t) && f false q
meets (ask.Body q) t f = is_body (form t) && f false q
meets (ask.Branch q) t f = branches t q f
meets (ask.BranchIfThere q) t f = is_absent t || branches t q f
meets (ask.Consequent q) t f = list_all (λ u. not (is_using u)) (items_of t) && f false q
meets (ask.Head q) t f = if declares_in (out-Node t) then f true q else (pattern t (round_of (assigning q)) && f false (assigning q))

-- the same, as the code looks at it
abbrev pub seen : Look → Sounds → Bool
seen l f = l.met && (not l.goes_on || f l.in_head l.round)

-- a node, and whether it is sound
pub record Judged : Type 0 where
  pub whole : Node
  pub sounds : Sounds

-- each child meets what is asked of it
abbrev pub meets_each : (ℕ → Ask) → List Judged → Bool
meets_each asks [] = true
meets_each asks (e ∷ es) = meets (asks zero) e.whole e.sounds && meets_each (λ i. asks (suc i)) es
