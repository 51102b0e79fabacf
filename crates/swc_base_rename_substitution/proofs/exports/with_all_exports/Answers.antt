use Rattle.std.proofs.Common.{length-set}
use Rattle.swc_base_rename_substitution.proofs.Lists.{next_with_exports}
use Rattle.swc_base_rename_substitution.proofs.exports.with_all_exports.Goals as goal

pub loop-i-preserved : goal.loop-i-preserved
loop-i-preserved c = record {
  sizes = simp (c.replace-item.ensures.list, c.replace-exports.ensures.list, length-set) c.loop-i.invariant.sizes;
  same = simp (c.replace-item.ensures.list, length-set) c.loop-i.invariant.same;
  done = next_with_exports c.loop-i.all _ c.loop-i.items _ _ c.loop-i.exports _ c.loop-i.i _ _ _ _
      c.loop-i.invariant.done c.replace-item.ensures.taken c.replace-exports.ensures.taken c.replace-item.ensures.list c.replace-exports.ensures.list c.in_ok-push_with_exports.ensures;
}
