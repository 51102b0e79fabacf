use Rattle.std.proofs.Common.{◌≡◌, drop, map}
use Rattle.text_commented.specs.Commented.{written}
use Rattle.text_commented.proofs.check.are_written.Given as goal

abbrev pub invariant-comments : goal.invariant-comments
invariant-comments l =
    map (written l.whole) (drop l.i l.found) ≡ map (λ d. d.now) (drop l.i l.due) → map (written l.whole) l.found ≡ map (λ d. d.now) l.due
