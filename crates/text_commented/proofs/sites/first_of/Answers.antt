use Rattle.std.proofs.Common.{refl, arith}
use Rattle.text_commented.proofs.Listed.{first_behind, none_behind}
use Rattle.text_commented.proofs.sites.first_of.Goals as goal

pub returns-then-place-sorted : goal.returns-then-place-sorted
returns-then-place-sorted c = λ rise. none_behind c.args.sorted.now c.args.limit c.in-Err.place c.in-Err.ensures.position (omega arith) rise

pub returns-else-place-sorted : goal.returns-else-place-sorted
returns-else-place-sorted c = λ rise.
    first_behind c.args.sorted.now c.args.limit c.in-Err.place _ c.in-Err.ensures.position (omega arith) refl rise
