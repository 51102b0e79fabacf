use Rattle.std.proofs.Common.{IfOk}
use Rattle.swc_tree_scoping.specs.Resolved.{Resolved}
use Rattle.swc_tree_spaces.specs.Spaces.{ResolvedBy}
use Rattle.mucwathi_passes.proofs.Made.{by_own}
use Rattle.mucwathi_passes.proofs.Refusals.{unresolved_for}
use Rattle.mucwathi_passes.proofs.passes.resolve.Goals as goal

pub returns-clause-resolved : goal.returns-clause-resolved
returns-clause-resolved c =
    by_own (λ a b old. IfOk c.resolve_program.result (λ answer. ResolvedBy a b old c.resolve_program.new.globals c.args.program answer)) c.args.globals.now c.unresolved.result c.top.result
    c.requires.own c.unresolved.ensures c.top.ensures (c.resolve_program.ensures.resolved c.requires.program)

pub returns-clause-by_values : goal.returns-clause-by_values
returns-clause-by_values c = λ none.
    by_own (λ a b old. IfOk c.resolve_program.result (λ answer. Resolved a b old c.resolve_program.new.globals c.args.program answer)) c.args.globals.now c.unresolved.result c.top.result
    c.requires.own c.unresolved.ensures c.top.ensures (c.resolve_program.ensures.by_values ((c.types_are_told.ensures c.args.program).0 none) c.requires.program)

pub returns-clause-refused : goal.returns-clause-refused
returns-clause-refused c = unresolved_for c.args.program c.args.globals.now c.resolve_program.result c.requires.own c.resolve_program.ensures.refusal c.resolve_program.ensures.spent
