use Rattle.std.proofs.Common.{true, cond, ◌∙◌}
use Rattle.std.specs.HashSet.{contains}
use Rattle.swc_base_rename_substitution.specs.Names.{same_id}
use Rattle.gate_renamers.proofs.Listed.{any_next}
use Rattle.gate_renamers.proofs.by_number.set_of.Goals as goal

pub loop-id-preserved : goal.loop-id-preserved
loop-id-preserved c = λ x.
    any_next (λ id. same_id id x) c.args.ids.now c.loop-id.id-index c.id-item.result _ _ c.loop-id-test.true c.id-item.is (c.loop-id.invariant x)
    (c.in_ok-insert.ensures.updates.0 x
    ∙ (λ j. cond (same_id (c.in_ok-clone.ensures.cases j, c.in_ok-clone-2.ensures.cases j) x) true (contains same_id c.loop-id.set x)))
