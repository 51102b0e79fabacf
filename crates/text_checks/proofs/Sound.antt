-- What is sound of a node, by what its rule says.
use Rattle.std.proofs.Common.{◌≡◌, true, not, List, sym, ap, ◌∙◌}
use Rattle.swc_tree_node.specs.declared.kind.Kind.{Kind}
use Rattle.swc_tree_node.specs.declared.node.Node.{Node, List as Many, Tree}
use Rattle.swc_tree_node.specs.declared.node.Node.TheOpen.{Node-F}
use Rattle.swc_base_writable_rules.specs.declared.ask.Ask.TheVariants as ask
use Rattle.swc_base_writable_rules.specs.declared.ask.Look.{Look}
use Rattle.swc_base_writable_rules.specs.declared.ask.Row.TheVariants as row
use Rattle.swc_base_writable_rules.specs.declared.rule.Rule.{Rule}
use Rattle.swc_base_writable_rules.specs.Asks.{seen}
use Rattle.swc_base_writable_rules.specs.Judged.{sounds}
use Rattle.swc_base_writable_rules.specs.Rules.{rule, rule_of}
use Rattle.swc_base_writable_rules.proofs.Judged.{seen_below, sounds_of_list, sounds_of_tree}
use Rattle.text_checks.specs.Asked.{is_sound}

pub of_items : (l : Look) (ts : List Node) → l.met ≡ true → l.goes_on ≡ true → is_sound (rule (not l.in_head) (row.Each (ask.Part l.round))) ts ≡ true → seen l (sounds (Many ts)) ≡ true
of_items l ts met on kept = seen_below l (sounds (Many ts)) met on ∙ sounds_of_list ts l.in_head l.round ∙ kept

pub of_fields : (l : Look) (k : Kind) (ts : List Node) (r : Rule) → l.met ≡ true → l.goes_on ≡ true → r ≡ rule_of l.in_head l.round (Node-F.Tree k ts) → is_sound r ts ≡ true → seen l (sounds (Tree k ts)) ≡ true
of_fields l k ts r met on is kept = seen_below l (sounds (Tree k ts)) met on ∙ sounds_of_tree k ts l.in_head l.round ∙ ap (λ (r : Rule). is_sound r ts) (sym is) ∙ kept
