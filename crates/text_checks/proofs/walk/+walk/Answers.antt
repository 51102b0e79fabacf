use Rattle.std.proofs.Common.{take, refl, sym, ap, ◌∙◌, subst, arith}
use Rattle.std.proofs.lemmas.Option.{slice_get_read}
use Rattle.std.proofs.lemmas.List.{take_all}
use Rattle.swc_tree_node.specs.declared.node.Node.{List as Many, Tree}
use Rattle.text_checks.specs.Asked.{IsAsAsked}
use Rattle.text_checks.proofs.Node.{all_kept, none_yet, one_more}
use Rattle.text_checks.proofs.walk.+walk.Goals as goal

pub are_kept-loop-i-init : goal.are_kept-loop-i-init
are_kept-loop-i-init t c = none_yet c.args.rules.now c.args.nodes.now

pub are_kept-loop-i-preserved : goal.are_kept-loop-i-preserved
are_kept-loop-i-preserved t c =
    let node = c.index-nodes-i.result in
    let here = slice_get_read c.args.nodes.now _ c.loop-i.i node refl (omega arith) c.index-nodes-i.is in
    one_more c.args.rules.now c.args.nodes.now c.loop-i.i node here c.loop-i.invariant (c.is_met.ensures c.if-not-is_met.false)

pub are_kept-returns : goal.are_kept-returns
are_kept-returns t c held =
    all_kept c.args.rules.now c.args.nodes.now (take c.loop-i.i c.args.nodes.now) (take_all c.loop-i.i c.args.nodes.now (omega arith))
    (c.hold.ensures.writing c.if-not-hold.false) (c.hold.ensures.grammar c.if-not-hold.false) (c.hold.ensures.words c.if-not-hold.false) c.loop-i.invariant

pub is_as_asked-returns-in-List : goal.is_as_asked-returns-in-List
is_as_asked-returns-in-List t c held =
    subst (λ u. IsAsAsked c.args.asked u) (sym (c.in-List.is ∙ ap (λ ts. Many ts) (sym c.as_slice-items.ensures)))
    (c.is_list_as_asked.ensures held)

pub is_as_asked-returns-in-Tree : goal.is_as_asked-returns-in-Tree
is_as_asked-returns-in-Tree t c held =
    subst (λ u. IsAsAsked c.args.asked u) (sym (c.in-Tree.is ∙ ap (λ ts. Tree c.in-Tree.kind ts) (sym c.as_slice-fields.ensures)))
    (c.is_tree_as_asked.ensures held)

pub is_list_as_asked-returns : goal.is_list_as_asked-returns
is_list_as_asked-returns t c held =
    let kept = c.are_kept.ensures held in record {
      writing = c.rule_of_list-writing.ensures c.requires.writing c.args.items.now kept.writing;
      grammar = c.rule_of_list-grammar.ensures c.requires.grammar c.args.items.now kept.grammar;
      words = c.rule_of_list-words.ensures c.args.items.now kept.words;
    }

pub is_tree_as_asked-returns : goal.is_tree_as_asked-returns
is_tree_as_asked-returns t c held =
    let kept = c.are_kept.ensures held in record {
      writing = c.rule_of_tree-writing.ensures c.requires.writing kept.writing;
      grammar = c.rule_of_tree-grammar.ensures c.requires.grammar kept.grammar;
      words = c.rule_of_tree-words.ensures kept.words;
    }
