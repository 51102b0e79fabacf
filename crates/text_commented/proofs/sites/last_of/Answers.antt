use Rattle.std.proofs.Common.{◌-◌, refl, arith}
use Rattle.text_commented.proofs.Listed.{last_before, none_before}
use Rattle.text_commented.proofs.sites.last_of.Goals as goal

pub returns-then-place-eq0 : goal.returns-then-place-eq0
returns-then-place-eq0 c = λ rise. none_before c.args.sorted.now c.args.limit c.in-Err.place c.in-Err.ensures.position (omega arith) rise

pub returns-else-place-eq0 : goal.returns-else-place-eq0
returns-else-place-eq0 c = λ rise.
    last_before c.args.sorted.now c.args.limit c.in-Err.place (c.in-Err.place - 1) _ c.in-Err.ensures.position (omega arith) c.in-Err.ensures.bound refl rise
