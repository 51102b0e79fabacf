use Rattle.std.proofs.Common.{◌≡◌, drop, false}
use Rattle.text_grammar.specs.Shaped.{is_constructor, no_second}
use Rattle.text_grammar.proofs.classes.has_no_second.Given as goal

abbrev pub invariant-loop-member : goal.invariant-loop-member
invariant-loop-member l = no_second is_constructor false l.members ≡ no_second is_constructor l.found (drop l.member-index l.members)
