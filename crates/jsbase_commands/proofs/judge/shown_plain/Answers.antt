use Rattle.jsbase_commands.proofs.Shown.{place_of_plain}
use Rattle.jsbase_commands.proofs.judge.shown_plain.Goals as goal

pub returns-clause-before : goal.returns-clause-before
returns-clause-before c = place_of_plain c.args.before.now c.in_ok-first.first c.in_ok-found.found.before.items c.in_ok-first.ensures c.in_ok-found.ensures.before

pub returns-clause-after : goal.returns-clause-after
returns-clause-after c = place_of_plain c.args.after.now c.in_ok-second.second c.in_ok-found.found.after.items c.in_ok-second.ensures c.in_ok-found.ensures.after
