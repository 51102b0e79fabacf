use Rattle.std.proofs.Common.{sym, ◌∙◌}
use Rattle.swc_base_resolver_program.proofs.Below.{target_below}
use Rattle.swc_base_resolver_program.specs.Lookup.{layers}
use Rattle.swc_base_resolver_program.proofs.Gathered.{unsought_gains}
use Rattle.swc_base_resolver_program.proofs.collect.gather_identifier.Goals as goal

pub returns-then-not-seeks-clause-tables : goal.returns-then-not-seeks-clause-tables
returns-then-not-seeks-clause-tables c =
    unsought_gains c.args.stage (layers c.args.env.now) c.args.stance.standing c.args.stance.kind c.args.ident.now c.args.tables.now.items (sym c.seeks.ensures ∙ c.if-not-seeks.true)

pub add-requires : goal.add-requires
add-requires c = target_below c.args.stage c.args.stance.standing _ _ c.in-Some.number (layers c.args.env.now) c.requires (sym c.in-Some.ensures)
