use Rattle.std.proofs.Common.{subst, sym}
use Rattle.mucwathi_commands.specs.Faults.{IsRunFault}
use Rattle.mucwathi_commands.proofs.Rewritten.{unread}
use Rattle.mucwathi_looks.proofs.mapping.source_map.Goals as goal

pub map_source-requires-clause-read : goal.map_source-requires-clause-read
map_source-requires-clause-read c = (c.in-Ok.ensures.tree, c.in-Ok.ensures.formed, c.in-Ok.ensures.pinned, c.in-Ok.ensures.clean)

pub map_source-requires-clause-stands : goal.map_source-requires-clause-stands
map_source-requires-clause-stands c = c.in-Ok.ensures.spans

pub returns-in-Err : goal.returns-in-Err
returns-in-Err c = subst (IsRunFault c.args.order.now c.args.text.now) (sym c.of_text.ensures) (unread c.args.order.now c.args.text.now c.in-Err.fault c.in-Err.ensures.refusal)
