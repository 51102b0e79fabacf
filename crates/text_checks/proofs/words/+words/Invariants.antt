use Rattle.std.proofs.Common.{◌≡◌, true, take}
use Rattle.text_checks.specs.Words.{all_meet, ask_at}
use Rattle.text_checks.proofs.words.+words.Given as goal

abbrev pub invariant-all_fit-loop-i : goal.invariant-all_fit-loop-i
invariant-all_fit-loop-i l = all_meet (ask_at l.rule) (take l.i l.nodes) ≡ true
