use Rattle.mucwathi_mappings.proofs.Telling.{entry_is}
use Rattle.mucwathi_mappings.proofs.encode.entry_at.Goals as goal

pub position_at-there-requires : goal.position_at-there-requires
position_at-there-requires c = c.requires.of_written

pub position_at-source-requires : goal.position_at-source-requires
position_at-source-requires c = c.requires.of_read

pub returns : goal.returns
returns c = entry_is c.args.sides.now.read.now c.args.sides.now.written.now c.args.place c.args.node.now c.position_at-there.result c.position_at-source.result c.args.name c.position_at-there.ensures c.position_at-source.ensures
