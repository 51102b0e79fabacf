use Rattle.std.proofs.Common.{◌∙◌, arith, length-set}
use Rattle.gate_text.proofs.Others.{set_other}
use Rattle.gate_text.proofs.shifts.+shift_at.Goals as goal

pub shift_below-loop-i-preserved : goal.shift_below-loop-i-preserved
shift_below-loop-i-preserved t c =
    (simp length-set c.loop-i.invariant.0, λ k d h. set_other c.loop-i.children c.loop-i.i k c.shift_at.new.node d (omega (arith, h)) ∙ c.loop-i.invariant.1 k d (omega (arith, h)))
