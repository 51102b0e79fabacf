use Rattle.std.proofs.Common.{arith, length-set, sym, ap, ◌∙◌}
use Rattle.swc_base_fixer_due.specs.Record.{place_in}
use Rattle.swc_base_fixer_due.specs.Row.{ask_at}
use Rattle.swc_base_fixer_due.specs.Settled.{settled_by}
use Rattle.swc_base_fixer_due.proofs.Each.{told_back, told_left}
use Rattle.swc_tree_node.proofs.Lent.{looked_at}
use Rattle.swc_base_fixer_due.proofs.levels.settle_fields.Goals as goal

pub loop-i-preserved : goal.loop-i-preserved
loop-i-preserved c = (
  simp (c.set.ensures, c.replace-field.ensures.list, length-set) c.loop-i.invariant.0,
  told_back (settled_by (place_in c.args.recorded.now)) (ask_at c.args.row) c.args.fields.now c.loop-i.fields _ _ c.loop-i.i _ _ _ c.at-ask.result
      (omega arith) c.loop-i.invariant.1 c.replace-field.ensures.taken c.replace-field.ensures.list c.set.ensures c.at-ask.ensures c.in_ok-done.ensures,
)

pub loop-i-preserved-then-stays : goal.loop-i-preserved-then-stays
loop-i-preserved-then-stays c =
    let p = place_in c.args.recorded.now in
    let field = c.index-as_slice-i.result in (
      c.loop-i.invariant.0,
      told_left (settled_by p) (ask_at c.args.row) c.args.fields.now c.loop-i.fields c.loop-i.i field (omega arith) c.loop-i.invariant.1
          (looked_at c.loop-i.fields c.as_slice.result.now c.loop-i.i field (omega arith) c.as_slice.ensures c.index-as_slice-i.is)
          (ap (settled_by p field) (sym c.at-ask.ensures) ∙ c.stays.ensures c.if-stays.true p),
    )
