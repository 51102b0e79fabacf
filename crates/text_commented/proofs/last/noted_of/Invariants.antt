use Rattle.std.proofs.Common.{All, map, take}
use Rattle.text_commented.specs.Steps.{AreListed, IsNoted, placed_view}
use Rattle.text_commented.proofs.last.noted_of.Given as goal

abbrev pub invariant-placed : goal.invariant-placed
invariant-placed l = record { listed : AreListed l.noted; noted : All (IsNoted l.remarks l.noted.behind) (map placed_view (take l.i l.placed)) }
