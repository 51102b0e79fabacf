use Rattle.mucwathi_looks.proofs.MappedNaming.{notes_name, notes_none}
use Rattle.mucwathi_looks.proofs.told.note.Goals as goal

pub returns-in_ok-insert-in-Some : goal.returns-in_ok-insert-in-Some
returns-in_ok-insert-in-Some c = notes_name c.args.spot.now c.in-Some.name c.args.names.now c.insert.new.self c.in-Some.is c.in_ok-insert-in-Some.ensures.updates

pub returns-in-None : goal.returns-in-None
returns-in-None c = notes_none c.args.spot.now c.args.names.now c.in-None.is
