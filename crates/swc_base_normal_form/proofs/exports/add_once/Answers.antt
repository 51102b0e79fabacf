use Rattle.swc_base_normal_form.proofs.Once.{now_met}
use Rattle.swc_base_normal_form.proofs.exports.add_once.Goals as goal

pub returns-in_ok-push-clause-met : goal.returns-in_ok-push-clause-met
returns-in_ok-push-clause-met c = now_met c.args.met.now c.insert.new.self c.args.id c.in_ok-insert.ensures.updates.0
