use Rattle.mucwathi_looks.proofs.NamedSigns.{listed}
use Rattle.mucwathi_looks.proofs.behind.is_listed.Goals as goal

pub returns : goal.returns
returns c = λ yes. listed c.args.places.now c.args.place c.binary_search.result c.binary_search.ensures.bound c.binary_search.ensures.position (rw c.is_ok.ensures.value at yes)
