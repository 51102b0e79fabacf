use Rattle.std.proofs.Common.{arith, sym, ap, ◌∙◌, length-set}
use Rattle.std.proofs.lemmas.Result.{IfOk-weaker}
use Rattle.swc_tree_node.specs.declared.node.Node.{List as Many, Tree}
use Rattle.swc_tree_scoping.specs.declared.below.PlacesBelow.TheVariants.{Fields}
use Rattle.swc_tree_scoping.specs.Below.{fields_are}
use Rattle.swc_tree_walk.specs.Rewritten.{rewritten}
use Rattle.swc_tree_walk.proofs.Rewriting.{one_more, rewritten_list, rewritten_tree}
use Rattle.swc_tree_walk.proofs.rewriter.+rewrite_node.Goals as goal

pub rewrite_each-loop-i-preserved : goal.rewrite_each-loop-i-preserved
rewrite_each-loop-i-preserved g t c = record {
  size = simp (c.set.ensures, c.replace-node.ensures.list, length-set) c.loop-i.invariant.size;
  done = one_more (rewritten (g.R.Rewriter.made c.args.rewriter.now)) c.args.places c.args.nodes c.loop-i.nodes c.replace-node.new.self c.set.new.self c.loop-i.i _ c.replace-node.result c.in_ok-node.node c.at-place.result
      (omega arith) c.loop-i.invariant.done c.replace-node.ensures.taken c.replace-node.ensures.list c.set.ensures c.at-place.ensures c.in_ok-node.ensures.answer;
}

pub rewrite_node-returns-in_ok-items-in-List-clause-answer : goal.rewrite_node-returns-in_ok-items-in-List-clause-answer
rewrite_node-returns-in_ok-items-in-List-clause-answer g t c =
    let made = g.R.Rewriter.made c.args.rewriter.now in
    IfOk-weaker c.rewrite.result _ _
    (λ answer is. is ∙ ap (λ us. made c.args.place (Many us)) c.in_ok-items-in-List.ensures.answer
    ∙ sym (rewritten_list made c.args.place c.args.node c.in-List.items c.places_of_items-places.result c.in-List.is c.places_of_items-places.ensures))
    c.rewrite.ensures.made

pub rewrite_node-returns-in_ok-fields-in-Tree-clause-answer : goal.rewrite_node-returns-in_ok-fields-in-Tree-clause-answer
rewrite_node-returns-in_ok-fields-in-Tree-clause-answer g t c =
    let made = g.R.Rewriter.made c.args.rewriter.now in
    IfOk-weaker c.rewrite-in-Tree.result _ _
    (λ answer is. is ∙ ap (λ us. made c.args.place (Tree c.in-Tree.kind us)) c.in_ok-fields-in-Tree.ensures.answer
    ∙ sym (rewritten_tree made c.args.place c.args.node c.in-Tree.kind c.in-Tree.fields c.places_of_fields-places.result c.in-Tree.is
    (c.places_of_fields-places.ensures ∙ ap (λ ts. Fields (fields_are c.args.place c.in-Tree.kind ts)) c.as_slice.ensures)))
    c.rewrite-in-Tree.ensures.made
