use Rattle.std.proofs.Common.{sym, ◌∙◌}
use Rattle.swc_tree_scoping.specs.Places.{program_place}
use Rattle.swc_base_resolver_program.proofs.Reached.{nothing_reaches}
use Rattle.swc_base_resolver_program.proofs.collect.gather_reached.Goals as goal

pub returns-then-not-any_can_reach : goal.returns-then-not-any_can_reach
returns-then-not-any_can_reach c = nothing_reaches c.args.bound program_place c.args.program.now c.requires (sym c.any_can_reach.ensures ∙ c.if-not-any_can_reach.true) c.new.result.items c.new.ensures.items
