use Rattle.mucwathi_mappings.proofs.Telling.{name_told, no_name_told}
use Rattle.mucwathi_mappings.proofs.encode.add_name.Goals as goal

pub returns-in_ok-add_way-in-Some : goal.returns-in_ok-add_way-in-Some
returns-in_ok-add_way-in-Some c = name_told c.args.last c.args.name c.in-Some.number c.args.out.now.items c.add_way.new.out.items c.in-Some.is c.in_ok-add_way-in-Some.ensures

pub returns-in-None : goal.returns-in-None
returns-in-None c = no_name_told c.args.last c.args.name c.args.out.now.items c.in-None.is
