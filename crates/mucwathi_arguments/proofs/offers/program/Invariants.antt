use Rattle.std.proofs.Common.{◌≡◌, drop, map}
use Rattle.std.specs.Prelude.{fold}
use Rattle.clap.specs.Words.{app_of, with_subcommand}
use Rattle.mucwathi_arguments.specs.Rules.{command_for}
use Rattle.mucwathi_arguments.proofs.offers.program.Given as goal

abbrev pub invariant-loop-offer : goal.invariant-loop-offer
invariant-loop-offer l = fold with_subcommand (app_of l.parser) (map command_for (drop l.offer-index l.offer-items)) ≡ fold with_subcommand (app_of l.initial.parser) (map command_for l.offer-items)
