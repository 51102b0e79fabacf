-- What is derived of a node, by what its rule says.
use Rattle.std.proofs.Common.{◌≡◌, true, not, List, sym, ap, ◌∙◌}
use Rattle.swc_tree_node.specs.declared.kind.Kind.{Kind}
use Rattle.swc_tree_node.specs.declared.node.Node.{Node, List as Many, Tree}
use Rattle.swc_tree_node.specs.declared.node.Node.TheOpen.{Node-F}
use Rattle.text_derives.specs.declared.ask.Ask.TheVariants as ask
use Rattle.text_derives.specs.declared.ask.Look.{Look}
use Rattle.text_derives.specs.declared.ask.Row.TheVariants as row
use Rattle.text_derives.specs.declared.rule.Rule.{Rule}
use Rattle.text_derives.specs.Asks.{seen}
use Rattle.text_derives.specs.Judged.{derived}
use Rattle.text_derives.specs.Rules.{rule, rule_of}
use Rattle.text_derives.proofs.Judged.{derived_of_list, derived_of_tree, seen_below}
use Rattle.text_checks.specs.Asked.{is_derived}

pub of_items : (l : Look) (ts : List Node) → l.met ≡ true → l.goes_on ≡ true → is_derived (rule (not l.in_chain) (row.Each (ask.Derived l.context))) ts ≡ true → seen l (derived (Many ts)) ≡ true
of_items l ts met on kept = seen_below l (derived (Many ts)) met on ∙ derived_of_list ts l.in_chain l.context ∙ kept

pub of_fields : (l : Look) (k : Kind) (ts : List Node) (r : Rule) → l.met ≡ true → l.goes_on ≡ true → r ≡ rule_of l.in_chain l.context (Node-F.Tree k ts) → is_derived r ts ≡ true → seen l (derived (Tree k ts)) ≡ true
of_fields l k ts r met on is kept = seen_below l (derived (Tree k ts)) met on ∙ derived_of_tree k ts l.in_chain l.context ∙ ap (λ (r : Rule). is_derived r ts) (sym is) ∙ kept
