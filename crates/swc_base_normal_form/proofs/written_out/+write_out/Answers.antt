use Rattle.std.proofs.Common.{arith, length-set, sym, ap, ◌∙◌, length}
use Rattle.swc_tree_node.specs.declared.node.Node.TheOpen.{Node-F}
use Rattle.swc_tree_grammar.specs.Normal.{written_out, written_step}
use Rattle.swc_tree_node.proofs.Lent.{looked_at, next_left, set_next}
use Rattle.swc_base_normal_form.proofs.Written.{tree_replaced, written_leaves}
use Rattle.swc_base_normal_form.proofs.Fields.{shorthand_is}
use Rattle.swc_base_normal_form.proofs.written_out.+write_out.Goals as goal
use Rattle.swc_base_normal_form.proofs.written_out.+write_out.Goals.{write_out_all-then-has_parts+in_ok-write_out, write_out_all-else-has_parts}

pub write_out_all-loop-i-preserved : goal.write_out_all-loop-i-preserved
write_out_all-loop-i-preserved t c = elim c.if-has_parts.branch [
  | write_out_all-then-has_parts+in_ok-write_out w ↦ record {
    long = simp (w.items-is, length-set) c.loop-i.invariant.long;
    written = w.items-is ∙ set_next written_out c.args.items.now c.loop-i.items c.loop-i.i w.item_mut.result.now w.write_out.new.node (omega arith) c.loop-i.invariant.written w.item_mut.ensures.value w.in_ok-write_out.ensures;
  }
  | write_out_all-else-has_parts w ↦ record {
    long = ap length w.items-is ∙ c.loop-i.invariant.long;
    written = w.items-is ∙ next_left written_out c.args.items.now c.loop-i.items c.loop-i.i c.index-as_slice-i.result (omega arith) c.loop-i.invariant.written
        (looked_at c.loop-i.items c.as_slice.result.now c.loop-i.i c.index-as_slice-i.result (omega arith) c.as_slice.ensures c.index-as_slice-i.is)
        (written_leaves c.index-as_slice-i.result (sym c.has_parts.ensures ∙ w.if-has_parts.false));
  }
]

pub write_out-returns-then-is_shorthand : goal.write_out-returns-then-is_shorthand
write_out-returns-then-is_shorthand t c =
    let is = shorthand_is c.in-Some-kind.kind c.write_out_all.new.items c.as_slice.result.now c.as_slice.ensures (sym c.is_shorthand.ensures ∙ c.if-is_shorthand.true) in
    tree_replaced c.args.node.now c.in_ok-node.field-0 c.in-Some-kind.kind c.in-Some.children.now c.write_out_all.new.items c.in-Some-kind.ensures c.in-Some.ensures.value c.in_ok-write_out_all.ensures
    (c.in_ok-node.ensures ∙ (λ j. written_step (Node-F.Tree (sym is.0 j) (c.replace-fields.ensures.value j))))
