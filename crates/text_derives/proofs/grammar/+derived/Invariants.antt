use Rattle.std.proofs.Common.{◌≡◌, true, take}
use Rattle.text_derives.specs.Asks.{ask_at}
use Rattle.text_derives.specs.Judged.{all_meet}
use Rattle.text_derives.proofs.grammar.+derived.Given as goal

abbrev pub invariant-are_as_asked-loop-i : goal.invariant-are_as_asked-loop-i
invariant-are_as_asked-loop-i l = all_meet (ask_at l.row) (take l.i l.nodes) ≡ true
