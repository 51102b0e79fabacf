use Rattle.std.proofs.Common.{refl}
use Rattle.text_commented.specs.Chosen.{held, moves, stays}
use Rattle.text_commented.specs.Places.{all_places, tight_places}
use Rattle.text_commented.proofs.Listed.{never}
use Rattle.text_commented.proofs.choose.place_of.Goals as goal

pub returns-then-not-is_caught : goal.returns-then-not-is_caught
returns-then-not-is_caught c = λ ps all tight.
    let so = rw c.text_of.ensures at (c.is_caught.ensures (tight_places ps) tight) in
    stays (c.in-Some.ensures (all_places ps) all) (λ caught. never c.is_caught.result (so.1 caught) c.if-not-is_caught.true)

pub returns-in-Some-last_begun : goal.returns-in-Some-last_begun
returns-in-Some-last_begun c = λ ps all tight.
    let so = rw c.text_of.ensures at (c.is_caught.ensures (tight_places ps) tight) in
    moves c.in-Some.found c.in-Some-last_begun.place (c.in-Some.ensures (all_places ps) all) (so.0 c.if-not-is_caught.false) (c.in-Some-last_begun.ensures (all_places ps) all) refl

pub returns-in-None : goal.returns-in-None
returns-in-None c = λ ps all tight.
    let so = rw c.text_of.ensures at (c.is_caught.ensures (tight_places ps) tight) in
    held c.in-Some.found (c.in-Some.ensures (all_places ps) all) (so.0 c.if-not-is_caught.false) (c.in-None.ensures (all_places ps) all) refl
