use Rattle.std.proofs.Common.{map}
use Rattle.text_commented.specs.Steps.{PutsFrom, placed_view}
use Rattle.text_commented.proofs.fit.Put.put_at.Given as goal

abbrev pub invariant-order : goal.invariant-order
invariant-order l =
    PutsFrom l.given.remarks.now l.place l.spot.before 0 l.fn.self.used.items (map placed_view l.fn.self.placed.items) l.self.used.items (map placed_view l.self.placed.items) l.from
