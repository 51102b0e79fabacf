use Rattle.std.proofs.Common.{arith, length-set, sym, ap, ◌∙◌, length}
use Rattle.std.proofs.lemmas.Result.{on_ok_weaker}
use Rattle.swc_tree_node.specs.declared.node.Node.{Absent}
use Rattle.swc_tree_grammar.specs.Stripped.{stripped}
use Rattle.swc_tree_node.proofs.Lent.{looked_at, next_left, set_next, tree_of_children}
use Rattle.swc_base_fixer_unparen.specs.Gathered.{parts_left}
use Rattle.swc_base_fixer_unparen.proofs.Alike.{gathered_as, more_gathered}
use Rattle.swc_base_fixer_unparen.proofs.Each.{one_more, taken}
use Rattle.swc_base_fixer_unparen.proofs.Gathering.{items_gathered, pair_gathered, sequence_gathered, sequence_in_place, sequence_stripped, tree_gathered}
use Rattle.swc_base_fixer_unparen.proofs.Leaves.{strip_leaves}
use Rattle.swc_base_fixer_unparen.proofs.stripping.+strip.Goals as goal
use Rattle.swc_base_fixer_unparen.proofs.stripping.+strip.Goals.{strip_all-then-has_parts+in_ok-strip_node, strip_all-else-has_parts}

pub strip_all-loop-i-preserved : goal.strip_all-loop-i-preserved
strip_all-loop-i-preserved t c = elim c.if-has_parts.branch [
  | strip_all-then-has_parts+in_ok-strip_node w ↦ (
    simp (w.items-is, length-set) c.loop-i.invariant.0,
    w.items-is ∙ set_next stripped c.args.items.now c.loop-i.items c.loop-i.i w.item_mut.result.now w.strip_node.new.node (omega arith) c.loop-i.invariant.1 w.item_mut.ensures.value w.in_ok-strip_node.ensures,
  )
  | strip_all-else-has_parts w ↦ (
    ap length w.items-is ∙ c.loop-i.invariant.0,
    w.items-is ∙ next_left stripped c.args.items.now c.loop-i.items c.loop-i.i c.index-as_slice-i.result (omega arith) c.loop-i.invariant.1
        (looked_at c.loop-i.items c.as_slice.result.now c.loop-i.i c.index-as_slice-i.result (omega arith) c.as_slice.ensures c.index-as_slice-i.is)
        (strip_leaves c.index-as_slice-i.result (sym c.has_parts.ensures ∙ w.if-has_parts.false)),
  )
]

pub strip_node-returns-then-is_sequence : goal.strip_node-returns-then-is_sequence
strip_node-returns-then-is_sequence t c =
    let is = tree_of_children c.args.node.now c.in-Some-kind.kind c.in-Some.children.now c.in-Some.children.now c.in-Some-kind.ensures c.in-Some.ensures.value in
    sequence_in_place c.args.node.now c.in_ok-node.field-0 c.in-Some-kind.kind c.in-Some.children.now c.as_slice.result.now c.replace-fields.result is.0 c.as_slice.ensures (sym c.is_sequence.ensures ∙ c.if-is_sequence.true)
    c.replace-fields.ensures.value c.in_ok-node.ensures

pub strip_sequence-returns : goal.strip_sequence-returns
strip_sequence-returns t c =
    sequence_stripped c.args.fields c.taken-span.new.fields c.set.new.self c.new-items.result c.gather_items.new.out c.taken-span.result.1 c.taken-span.result.0 c.strip_node.new.node c.in_ok-tree.tree c.requires
    c.taken-span.ensures.span c.taken-span.ensures.exprs c.taken-span.ensures.length c.in_ok-strip_node.ensures c.set.ensures c.new-items.ensures c.in_ok-gather_items.ensures c.in_ok-tree.ensures

pub gather_each-loop-i-preserved : goal.gather_each-loop-i-preserved
gather_each-loop-i-preserved t c =
    let more = one_more parts_left Absent c.args.exprs c.loop-i.exprs c.loop-i.i c.replace-expr.result (omega arith) c.loop-i.invariant.gone c.replace-expr.ensures.taken in
    record {
      long = simp (c.replace-expr.ensures.list, length-set) c.loop-i.invariant.long;
      gone = taken Absent c.args.exprs c.loop-i.exprs _ c.loop-i.i _ (omega arith) c.loop-i.invariant.gone c.replace-expr.ensures.taken c.replace-expr.ensures.list;
      gathered = gathered_as c.args.out.now c.gather.new.out _ _ (sym more) (more_gathered c.args.out.now c.loop-i.out c.gather.new.out _ _ c.loop-i.invariant.gathered c.in_ok-gather.ensures);
    }

pub gather_items-returns-in-List : goal.gather_items-returns-in-List
gather_items-returns-in-List t c = on_ok_weaker c.gather_each.result (items_gathered c.args.exprs c.in-List.items c.args.out.now c.gather_each.new.out c.in-List.is) c.gather_each.ensures

pub gather-returns-then-is_pair : goal.gather-returns-then-is_pair
gather-returns-then-is_pair t c =
    on_ok_weaker c.gather.result
    (pair_gathered c.args.expr c.in-Tree.kind c.in-Tree.fields c.as_slice.result.now c.replace.result c.args.out.now c.gather.new.out c.in-Tree.is c.as_slice.ensures (sym c.is_pair.ensures ∙ c.if-is_pair.true)
    c.replace.ensures.taken) c.gather.ensures

pub gather-returns-then-is_sequence : goal.gather-returns-then-is_sequence
gather-returns-then-is_sequence t c =
    on_ok_weaker c.gather_items.result
    (sequence_gathered c.args.expr c.in-Tree.kind c.in-Tree.fields c.as_slice-in-Tree.result.now c.replace-then-is_sequence.result c.args.out.now c.gather_items.new.out c.in-Tree.is c.as_slice-in-Tree.ensures
    (sym c.is_sequence.ensures ∙ c.if-is_sequence.true) c.replace-then-is_sequence.ensures.taken) c.gather_items.ensures

pub gather-returns-in_ok-strip_all-in-Tree : goal.gather-returns-in_ok-strip_all-in-Tree
gather-returns-in_ok-strip_all-in-Tree t c =
    on_ok_weaker c.push.result
    (tree_gathered c.args.expr c.in-Tree.kind c.in-Tree.fields c.as_slice.result.now c.as_slice-in-Tree.result.now c.strip_all.new.items c.args.out.now c.push.new.self c.settle.result c.in-Tree.is c.as_slice.ensures
    (sym c.is_pair.ensures ∙ c.if-is_pair.false) c.as_slice-in-Tree.ensures (sym c.is_sequence.ensures ∙ c.if-is_sequence.false) c.in_ok-strip_all-in-Tree.ensures c.settle.ensures) c.push.ensures.ok
