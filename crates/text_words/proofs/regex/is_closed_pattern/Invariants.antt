use Rattle.std.proofs.Common.{◌≡◌, drop, false}
use Rattle.text_words.specs.Bodies.{pattern_from}
use Rattle.text_words.proofs.regex.is_closed_pattern.Given as goal

abbrev pub invariant-bytes : goal.invariant-bytes
invariant-bytes l = pattern_from l.in_class l.escaped (drop l.at l.text) ≡ pattern_from false false l.text
