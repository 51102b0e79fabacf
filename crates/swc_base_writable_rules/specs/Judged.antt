-- Whether a tree is sound by the rules.
use Rattle.std.specs.Prelude.{ℕ, zero, suc, List, [], ◌∷◌, Bool, true, not, ◌&&◌, map}
use Rattle.swc_tree_node.specs.declared.node.Node.{Node, roll-Node, fold-Node, map-Node}
use Rattle.swc_tree_node.specs.declared.node.Node.TheOpen.{Node-F}
use Rattle.swc_base_writable_rules.specs.declared.ask.Ask.{Ask}
use Rattle.swc_base_writable_rules.specs.declared.ask.Ask.TheVariants as ask
use Rattle.swc_base_writable_rules.specs.declared.ask.Row.TheVariants as row
use Rattle.swc_base_writable_rules.specs.declared.rule.Rule.{Rule}
use Rattle.swc_base_writable_rules.specs.Rounds.{name_sound}
use Rattle.swc_base_writable_rules.specs.Asks.{Judged, Sounds, ask_at, meets, meets_each}
use Rattle.swc_base_writable_rules.specs.Rules.{rule_of}

abbrev pub by_rule : Rule → List Judged → Bool
by_rule rule es = rule.holds && meets_each (ask_at rule.row) es

-- a declaration in the head of a `for`, or any other node
abbrev pub sounds_in : Node-F Judged → Sounds
sounds_in (Node-F.Identifier k i) in_head q = not in_head && name_sound k i.sym q
sounds_in (Node-F.List es) in_head q = not in_head && meets_each (ask_at (row.Each (ask.Part q))) es
sounds_in (Node-F.Tree k es) in_head q = by_rule (rule_of in_head q (Node-F.Tree k (map (λ e. e.whole) es))) es
sounds_in _ in_head q = not in_head

abbrev pub judged_step : Node-F Judged → Judged
judged_step y = record { whole = roll-Node (map-Node Judged Node (λ e. e.whole) y); sounds = sounds_in y }

abbrev pub judged : Node → Judged
judged = fold-Node Judged judged_step

abbrev pub sounds : Node → Sounds
sounds t = (judged t).sounds

-- each of several nodes meets what is asked of it
abbrev pub all_meet : (ℕ → Ask) → List Node → Bool
all_meet asks [] = true
all_meet asks (t ∷ ts) = meets (asks zero) t (sounds t) && all_meet (λ i. asks (suc i)) ts
