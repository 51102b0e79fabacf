use Rattle.std.proofs.Common.{◌≡◌, drop}
use Rattle.clap.specs.Words.{app_of}
use Rattle.mucwathi_arguments.specs.Rules.{IsLocal, rules_in, with_rules}
use Rattle.mucwathi_arguments.proofs.offers.parser_of.Given as goal

abbrev pub invariant-loop-choices : goal.invariant-loop-choices
invariant-loop-choices l = (with_rules (app_of l.parser) (rules_in (drop l.choices-index l.choices-items)) ≡ with_rules (app_of l.initial.parser) (rules_in l.choices-items)) × (IsLocal l.initial.parser → IsLocal l.parser)
