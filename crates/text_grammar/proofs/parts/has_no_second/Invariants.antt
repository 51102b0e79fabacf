use Rattle.std.proofs.Common.{◌≡◌, drop, false}
use Rattle.text_grammar.specs.Shaped.{is_default, no_second}
use Rattle.text_grammar.proofs.parts.has_no_second.Given as goal

abbrev pub invariant-loop-case : goal.invariant-loop-case
invariant-loop-case l = no_second is_default false l.cases ≡ no_second is_default l.found (drop l.case-index l.cases)
