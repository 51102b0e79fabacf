use Rattle.std.proofs.Common.{refl}
use Rattle.text_commented.proofs.Noting.{is_ready}
use Rattle.text_commented.proofs.noted.Noted.ready.Goals as goal

pub returns-clause-ready : goal.returns-clause-ready
returns-clause-ready c = is_ready c.args.self (record { behind = c.args.self.behind; listed = c.in_ok-listed.listed; near = c.args.self.near }) c.requires refl c.in_ok-listed.ensures.same c.in_ok-listed.ensures.rise
