use Rattle.swc_base_resolver_program.proofs.Open.{seen_inside}
use Rattle.swc_base_resolver_program.proofs.env.Inside.new.Goals as goal

pub returns : goal.returns
returns c v = seen_inside c.args.scope c.args.number c.args.env v
