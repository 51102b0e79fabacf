use Rattle.std.proofs.Common.{◌≡◌, drop, false}
use Rattle.text_words.specs.Bodies.{characters_from}
use Rattle.text_words.proofs.template.is_closed_template.Given as goal

abbrev pub invariant-bytes : goal.invariant-bytes
invariant-bytes l = characters_from l.escaped (drop l.at l.text) ≡ characters_from false l.text
