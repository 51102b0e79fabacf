use Rattle.std.proofs.Common.{arith, length-set}
use Rattle.swc_tree_node.specs.declared.node.Node.{Absent}
use Rattle.swc_tree_grammar.specs.Stripped.{effects}
use Rattle.swc_base_fixer_unparen.proofs.Each.{taken, one_more, added, added_as}
use Rattle.swc_base_fixer_unparen.proofs.Fields.{effects_in_field, effects_itself, effects_of_items}
use Rattle.swc_base_fixer_unparen.proofs.sequence.+effects.Goals as goal

pub add_all_effects-loop-i-preserved : goal.add_all_effects-loop-i-preserved
add_all_effects-loop-i-preserved t c =
    let more = one_more effects Absent c.args.exprs c.loop-i.exprs c.loop-i.i c.replace-expr.result (omega arith) c.loop-i.invariant.gone c.replace-expr.ensures.taken in
    record {
      long = simp (c.replace-expr.ensures.list, length-set) c.loop-i.invariant.long;
      gone = taken Absent c.args.exprs c.loop-i.exprs _ c.loop-i.i _ (omega arith) c.loop-i.invariant.gone c.replace-expr.ensures.taken c.replace-expr.ensures.list;
      added = added _ c.loop-i.out c.args.out.now _ _ _ c.in_ok-add_effects.ensures c.loop-i.invariant.added more;
    }

pub add_effects-returns-in-List : goal.add_effects-returns-in-List
add_effects-returns-in-List t c = added_as c.add_all_effects.result _ _ _ _ (effects_of_items c.args.expr c.in-List.items c.in-List.is) c.add_all_effects.ensures

pub add_effects-returns-in-Some : goal.add_effects-returns-in-Some
add_effects-returns-in-Some t c =
    added_as c.add_effects.result _ _ _ _
    (effects_in_field c.args.expr c.in-Tree.kind c.in-Tree.fields c.as_slice.result.now c.in-Some.index c.replace.result c.in-Tree.is c.as_slice.ensures c.in-Some.ensures.field c.replace.ensures.taken)
    c.add_effects.ensures

pub add_effects-returns-in-None : goal.add_effects-returns-in-None
add_effects-returns-in-None t c =
    added_as c.push.result _ _ _ _ (effects_itself c.args.expr c.in-Tree.kind c.in-Tree.fields c.as_slice.result.now c.in-Tree.is c.as_slice.ensures c.in-None.ensures.field) c.push.ensures.ok
