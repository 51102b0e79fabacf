-- Whether words are what they have to be in a node, by what its rule says.
use Rattle.std.proofs.Common.{◌≡◌, true, List, sym, ap, ◌∙◌}
use Rattle.swc_tree_node.specs.declared.kind.Kind.{Kind}
use Rattle.swc_tree_node.specs.declared.node.Node.{Node, List as Many, Tree}
use Rattle.swc_tree_node.specs.declared.node.Node.TheOpen.{Node-F}
use Rattle.text_checks.specs.declared.words.Ask.{Ask}
use Rattle.text_checks.specs.declared.words.Rule.{Rule}
use Rattle.text_checks.specs.Words.{fits, meets, rule_of, throughout}
use Rattle.text_checks.proofs.Read.{fits_of_list, fits_of_tree, met_below}
use Rattle.text_checks.specs.Asked.{is_worded}

pub of_items : (a : Ask) (ts : List Node) (r : Rule) → a.asks ≡ true → r ≡ throughout a.words → is_worded r ts ≡ true → meets a (fits (Many ts)) ≡ true
of_items a ts r on is kept = met_below a (fits (Many ts)) on ∙ fits_of_list ts a.words ∙ ap (λ (r : Rule). is_worded r ts) (sym is) ∙ kept

pub of_fields : (a : Ask) (k : Kind) (ts : List Node) (r : Rule) → a.asks ≡ true → r ≡ rule_of a.words (Node-F.Tree k ts) → is_worded r ts ≡ true → meets a (fits (Tree k ts)) ≡ true
of_fields a k ts r on is kept = met_below a (fits (Tree k ts)) on ∙ fits_of_tree k ts a.words ∙ ap (λ (r : Rule). is_worded r ts) (sym is) ∙ kept
