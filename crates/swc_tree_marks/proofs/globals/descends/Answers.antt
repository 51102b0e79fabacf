use Rattle.std.proofs.Common.{◌∙◌, sym, subst}
use Rattle.swc_tree_marks.specs.Globals.{IsDescendant}
use Rattle.swc_tree_marks.proofs.Ancestors.{parent_in-below, only_root_above_root, IsDescendant-up}
use Rattle.swc_tree_marks.proofs.globals.descends.Goals as goal

pub returns-then-met-eq0 : goal.returns-then-met-eq0
returns-then-met-eq0 c = (
  λ h. cc,
  λ under.
      let at_root = subst (λ met. IsDescendant c.args.table.now met c.args.ancestor) c.if-met-eq0.true (c.loop-met.invariant.0 under) in
      let is_root = only_root_above_root c.args.table.now c.requires c.args.ancestor at_root in
      absurd (c.loop-met-test.true (c.if-met-eq0.true ∙ sym is_root)),
)

pub loop-met-smaller : goal.loop-met-smaller
loop-met-smaller c = rw c.parent_of-met.ensures (parent_in-below c.args.table.now c.requires c.loop-met.met c.if-met-eq0.false)

pub loop-met-preserved : goal.loop-met-preserved
loop-met-preserved c =
    let up = IsDescendant-up c.args.table.now c.loop-met.met c.args.ancestor c.loop-met-test.true in
    rw c.parent_of-met.ensures (λ d. up.0 (c.loop-met.invariant.0 d), λ d. c.loop-met.invariant.1 (up.1 d))
