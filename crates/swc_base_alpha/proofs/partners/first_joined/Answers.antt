use Rattle.swc_base_alpha.proofs.Passed.{joined_there, none_joined}
use Rattle.swc_base_alpha.proofs.partners.first_joined.Goals as goal

pub returns-in-Some : goal.returns-in-Some
returns-in-Some c = joined_there c.args.ones.now c.args.others.now _ _ _ c.in-Some.is c.in_ok-other.ensures

pub returns-in-None : goal.returns-in-None
returns-in-None c = none_joined c.args.ones.now c.args.others.now _ c.in-None.is c.in_ok-other.ensures
