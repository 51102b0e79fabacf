use Rattle.swc_base_rename_naming.proofs.GoesOn.{put_at}
use Rattle.swc_base_rename_naming.proofs.tried.Tried.put.Goals as goal

pub returns : goal.returns
returns c = λ s x. put_at c.args.self.now c.enter.new.self c.insert.new.self c.args.scope c.in_ok-key.key c.args.text c.args.counter c.enter.ensures.scope c.enter.ensures.kept c.in_ok-insert.ensures.updates c.in_ok-key.ensures s x
