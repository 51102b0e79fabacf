use Rattle.mucwathi_looks.proofs.write.copy.Goals as goal

pub returns-in-Ok : goal.returns-in-Ok
returns-in-Ok c = c.in-Ok.ensures.cases
