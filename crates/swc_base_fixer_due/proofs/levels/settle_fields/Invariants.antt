use Rattle.std.proofs.Common.{◌≡◌, ◌++◌, take, drop, length}
use Rattle.swc_base_fixer_due.specs.Record.{place_in}
use Rattle.swc_base_fixer_due.specs.Row.{ask_at}
use Rattle.swc_base_fixer_due.specs.Settled.{settled_by}
use Rattle.swc_base_fixer_due.specs.Walk.{each_told}
use Rattle.swc_base_fixer_due.proofs.levels.settle_fields.Given as goal

abbrev pub invariant-loop-i : goal.invariant-loop-i
invariant-loop-i l =
    (length l.fields ≡ length l.initial.fields) × (l.fields ≡ each_told (settled_by (place_in l.recorded)) (ask_at l.row) (take l.i l.initial.fields) ++ drop l.i l.initial.fields)
