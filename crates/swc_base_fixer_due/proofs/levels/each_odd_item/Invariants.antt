use Rattle.std.proofs.Common.{◌≡◌, ◌++◌, map, take, drop, length}
use Rattle.swc_base_fixer_due.specs.Record.{place_in}
use Rattle.swc_base_fixer_due.specs.Settled.{odd_item}
use Rattle.swc_base_fixer_due.proofs.levels.each_odd_item.Given as goal

abbrev pub invariant-loop-i : goal.invariant-loop-i
invariant-loop-i l =
    (length l.exprs ≡ length l.initial.exprs) × (l.exprs ≡ map (odd_item (place_in l.recorded)) (take l.i l.initial.exprs) ++ drop l.i l.initial.exprs)
