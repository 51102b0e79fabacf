use Rattle.std.proofs.Common.{arith, length-set}
use Rattle.swc_tree_node.specs.declared.node.Node.{Absent}
use Rattle.swc_tree_grammar.specs.Stripped.{parts}
use Rattle.swc_base_fixer_unparen.proofs.Each.{taken, one_more, added}
use Rattle.swc_base_fixer_unparen.proofs.sequence.add_all_parts.Goals as goal

pub loop-i-preserved : goal.loop-i-preserved
loop-i-preserved c =
    let more = one_more parts Absent c.args.exprs c.loop-i.exprs c.loop-i.i c.replace-expr.result (omega arith) c.loop-i.invariant.gone c.replace-expr.ensures.taken in
    record {
      long = simp (c.replace-expr.ensures.list, length-set) c.loop-i.invariant.long;
      gone = taken Absent c.args.exprs c.loop-i.exprs _ c.loop-i.i _ (omega arith) c.loop-i.invariant.gone c.replace-expr.ensures.taken c.replace-expr.ensures.list;
      added = added _ c.loop-i.out c.args.out.now _ _ _ c.in_ok-add_parts.ensures c.loop-i.invariant.added more;
    }
