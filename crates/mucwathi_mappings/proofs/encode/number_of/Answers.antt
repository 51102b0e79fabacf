use Rattle.mucwathi_mappings.proofs.Numbering.{no_number, old_number}
use Rattle.mucwathi_mappings.proofs.encode.number_of.Goals as goal

pub returns-in_ok-number-in-Some : goal.returns-in_ok-number-in-Some
returns-in_ok-number-in-Some c = old_number c.args.names.now c.number.new.self c.args.old c.in-Some.old c.in_ok-number-in-Some.number c.in-Some.is c.in_ok-number-in-Some.ensures

pub returns-in-None : goal.returns-in-None
returns-in-None c = no_number c.args.names.now c.args.old c.requires c.in-None.is
