use Rattle.std.proofs.Common.{◌≡◌, true, take}
use Rattle.swc_base_writable_rules.specs.Asks.{ask_at}
use Rattle.swc_base_writable_rules.specs.Judged.{all_meet}
use Rattle.swc_base_writable_rules.proofs.sound.+sound.Given as goal

abbrev pub invariant-are_as_asked-loop-i : goal.invariant-are_as_asked-loop-i
invariant-are_as_asked-loop-i l = all_meet (ask_at l.row) (take l.i l.nodes) ≡ true
