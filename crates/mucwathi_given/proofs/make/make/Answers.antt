use Rattle.std.proofs.Common.{Some}
use Rattle.mucwathi_settings.specs.declared.command.Command.TheVariants as command
use Rattle.mucwathi_given.proofs.Making.{by_command, is_made}
use Rattle.mucwathi_given.proofs.Refused.{refused_by}
use Rattle.mucwathi_given.proofs.make.make.Goals as goal

pub returns-in-Chain-clause-made : goal.returns-in-Chain-clause-made
returns-in-Chain-clause-made c = by_command c.args.command command.Chain c.args.given c.chain.result c.in-Chain.is (λ ready. is_made (Some command.Chain) c.args.given c.chain.result c.chain.ensures.around (c.chain.ensures.made ready))

pub returns-in-Mangle-clause-made : goal.returns-in-Mangle-clause-made
returns-in-Mangle-clause-made c = by_command c.args.command command.Mangle c.args.given c.mangle.result c.in-Mangle.is (λ ready. is_made (Some command.Mangle) c.args.given c.mangle.result c.mangle.ensures.around (c.mangle.ensures.made ready))

pub returns-in-Hygiene-clause-made : goal.returns-in-Hygiene-clause-made
returns-in-Hygiene-clause-made c = by_command c.args.command command.Hygiene c.args.given c.set_apart.result c.in-Hygiene.is (λ ready. is_made (Some command.Hygiene) c.args.given c.set_apart.result c.set_apart.ensures.around c.set_apart.ensures.made)

pub returns-in-Fix-clause-made : goal.returns-in-Fix-clause-made
returns-in-Fix-clause-made c = by_command c.args.command command.Fix c.args.given c.pair.result c.in-Fix.is (λ ready. is_made (Some command.Fix) c.args.given c.pair.result c.pair.ensures.around c.pair.ensures.made)

pub returns-in-Unparen-clause-made : goal.returns-in-Unparen-clause-made
returns-in-Unparen-clause-made c = by_command c.args.command command.Unparen c.args.given c.bare.result c.in-Unparen.is (λ ready. is_made (Some command.Unparen) c.args.given c.bare.result c.bare.ensures.around c.bare.ensures.made)

pub returns-in-Chain-clause-refused : goal.returns-in-Chain-clause-refused
returns-in-Chain-clause-refused c = refused_by c.args.command command.Chain c.args.given c.chain.result c.in-Chain.is c.chain.ensures.refused

pub returns-in-Mangle-clause-refused : goal.returns-in-Mangle-clause-refused
returns-in-Mangle-clause-refused c = refused_by c.args.command command.Mangle c.args.given c.mangle.result c.in-Mangle.is c.mangle.ensures.refused

pub returns-in-Hygiene-clause-refused : goal.returns-in-Hygiene-clause-refused
returns-in-Hygiene-clause-refused c = refused_by c.args.command command.Hygiene c.args.given c.set_apart.result c.in-Hygiene.is (λ ready. c.set_apart.ensures.refused)

pub returns-in-Fix-clause-refused : goal.returns-in-Fix-clause-refused
returns-in-Fix-clause-refused c = refused_by c.args.command command.Fix c.args.given c.pair.result c.in-Fix.is (λ ready. c.pair.ensures.refused)

pub returns-in-Unparen-clause-refused : goal.returns-in-Unparen-clause-refused
returns-in-Unparen-clause-refused c = refused_by c.args.command command.Unparen c.args.given c.bare.result c.in-Unparen.is (λ ready. c.bare.ensures.refused)
