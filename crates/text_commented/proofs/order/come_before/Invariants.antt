use Rattle.std.proofs.Common.{ℕ, ◌<◌, get_or}
use Rattle.text_commented.specs.Commented.{ComesBefore}
use Rattle.text_commented.proofs.order.come_before.Given as goal

abbrev pub invariant-near : goal.invariant-near
invariant-near l = (k : ℕ) → k < l.i → ComesBefore l.remarks (get_or l.near k 0) l.number
