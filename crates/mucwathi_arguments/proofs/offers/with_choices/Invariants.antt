use Rattle.std.proofs.Common.{◌≡◌, drop, map}
use Rattle.clap.specs.Words.{app_of}
use Rattle.mucwathi_arguments.specs.Rules.{IsLocal, rule_for, with_rules}
use Rattle.mucwathi_arguments.proofs.offers.with_choices.Given as goal

abbrev pub invariant-loop-choice : goal.invariant-loop-choice
invariant-loop-choice l = (with_rules (app_of l.parser) (map rule_for (drop l.choice-index l.choices)) ≡ with_rules (app_of l.initial.parser) (map rule_for l.choices)) × (IsLocal l.initial.parser → IsLocal l.parser)
