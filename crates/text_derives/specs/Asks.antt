-- What is asked of a node in its place, and what of each child of a node.
use Rattle.std.specs.Prelude.{ℕ, zero, suc, Bool, true, false, not, ◌&&◌, ◌||◌, ◌==◌, List, [], ◌∷◌, if◌then◌else◌}
use Rattle.std.specs.List.{list_all}
use Rattle.swc_tree_node.specs.declared.node.Node.{Node, out-Node}
use Rattle.swc_tree_grammar.specs.Shapes.{items_of}
use Rattle.swc_tree_grammar.specs.Demands.{meets as is_met}
use Rattle.swc_tree_grammar.specs.Forms.{form, is_body, is_branch, is_strict, is_using}
use Rattle.swc_tree_grammar.specs.Grammar.{may_begin_body, using_head_in}
use Rattle.swc_tree_grammar.specs.Kinds.{has_kind, is_block, is_private_name}
use Rattle.swc_tree_grammar.specs.Starts.{start}
use Rattle.text_derives.specs.declared.context.Context.{Context}
use Rattle.text_derives.specs.declared.demand.Demand.{Demand}
use Rattle.text_derives.specs.declared.demand.Demand.TheVariants as demand
use Rattle.text_derives.specs.declared.ask.Ask.{Ask}
use Rattle.text_derives.specs.declared.ask.Ask.TheVariants as ask
use Rattle.text_derives.specs.declared.ask.Row.{Row}
use Rattle.text_derives.specs.declared.ask.Row.TheVariants as row
use Rattle.text_derives.specs.declared.ask.Look.{Look}
use Rattle.text_derives.specs.Contexts.{outside, strictly}
use Rattle.text_derives.specs.Demanded.{demanded}

-- whether the grammar derives a node, as the base of an optional chain or not, in a context
abbrev pub Derives : Type 0
Derives = Bool → Context → Bool

-- what is asked of a child
abbrev pub ask_at : Row → ℕ → Ask
ask_at row.Nothing n = ask.Nothing
ask_at (row.Each a) n = a
ask_at (row.One i a) n = if n == i then a else ask.Nothing
ask_at (row.Two i a j b) n = if n == i then a else (if n == j then b else ask.Nothing)
ask_at (row.Three i a j b k c) n = if n == i then a else (if n == j then b else (if n == k then c else ask.Nothing))
ask_at (row.Four i a j b k c l d) n = if n == i then a else (if n == j then b else (if n == k then c else (if n == l then d else ask.Nothing)))

-- what the place asks, and no private name
abbrev pub fits : Demand → Context → Node → Derives → Bool
fits d c t f = is_met (demanded d) t && (not (has_kind is_private_name t) && f false c)

-- a node meets what is asked, by whether it is derived
abbrev pub meets : Ask → Node → Derives → Bool
meets ask.Nothing t f = true
meets (ask.Derived c) t f = f false c
meets (ask.Chain c) t f = f true c
meets (ask.Fits d c) t f = fits d c t f
meets (ask.Each d c) t f = is_met (demanded d) t && (list_all (λ u. not (has_kind is_private_name u)) (items_of t) && f false c)
meets (ask.Part d c) t f = is_met (demanded d) t && f false c
meets (ask.Left of_in d c) t f = (of_in && has_kind is_private_name t) || fits d c t f
meets (ask.Body c) t f = is_body (form t) && f false c
meets (ask.Branch c) t f = is_branch c.strict (form t) && f false c
meets (ask.Head c) t f = if is_using t then using_head_in (out-Node t) else f false (outside c)
meets (ask.ArrowBody c) t f = if has_kind is_block t then f false (strictly (is_strict t) c) else (may_begin_body (start t) && fits demand.Body c t f)

-- the same, as the code looks at it
abbrev pub seen : Look → Derives → Bool
seen l f = l.met && (not l.goes_on || f l.in_chain l.context)

-- a node, and whether it is derived
pub record Judged : Type 0 where
  pub whole : Node
  pub derives : Derives

-- each child meets what is asked of it
abbrev pub meets_each : (ℕ → Ask) → List Judged → Bool
meets_each asks [] = true
meets_each asks (e ∷ es) = meets (asks zero) e.whole e.derives && meets_each (λ i. asks (suc i)) es
