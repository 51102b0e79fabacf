-- Whether a tree is derived by the rules.
use Rattle.std.specs.Prelude.{ℕ, zero, suc, List, [], ◌∷◌, Bool, true, not, ◌&&◌, map}
use Rattle.swc_tree_node.specs.declared.node.Node.{Node, roll-Node, fold-Node, map-Node}
use Rattle.swc_tree_node.specs.declared.node.Node.TheOpen.{Node-F}
use Rattle.text_derives.specs.declared.context.Context.{Context}
use Rattle.text_derives.specs.declared.ask.Ask.{Ask}
use Rattle.text_derives.specs.declared.ask.Ask.TheVariants as ask
use Rattle.text_derives.specs.declared.ask.Row.TheVariants as row
use Rattle.text_derives.specs.declared.rule.Rule.{Rule}
use Rattle.text_derives.specs.Asks.{Judged, Derives, ask_at, meets, meets_each}
use Rattle.text_derives.specs.Rules.{rule_of}

abbrev pub by_rule : Rule → List Judged → Bool
by_rule rule es = rule.holds && meets_each (ask_at rule.row) es

-- the base of an optional chain, or any other node
abbrev pub derived_in : Node-F Judged → Derives
derived_in (Node-F.List es) in_chain c = not in_chain && meets_each (ask_at (row.Each (ask.Derived c))) es
derived_in (Node-F.Tree k es) in_chain c = by_rule (rule_of in_chain c (Node-F.Tree k (map (λ e. e.whole) es))) es
derived_in _ in_chain c = not in_chain

abbrev pub judged_step : Node-F Judged → Judged
judged_step y = record { whole = roll-Node (map-Node Judged Node (λ e. e.whole) y); derives = derived_in y }

abbrev pub judged : Node → Judged
judged = fold-Node Judged judged_step

abbrev pub derived : Node → Derives
derived t = (judged t).derives

-- each of several nodes meets what is asked of it
abbrev pub all_meet : (ℕ → Ask) → List Node → Bool
all_meet asks [] = true
all_meet asks (t ∷ ts) = meets (asks zero) t (derived t) && all_meet (λ i. asks (suc i)) ts
