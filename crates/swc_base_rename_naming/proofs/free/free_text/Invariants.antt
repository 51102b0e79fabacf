use Rattle.std.proofs.Common.{◌-◌, ◌^◌, ◌≤◌}
use Rattle.swc_base_rename_naming.specs.Free.{AllTaken}
use Rattle.swc_base_rename_naming.proofs.free.free_text.Given as goal

abbrev pub invariant-loop-text : goal.invariant-loop-text
invariant-loop-text g l = record { from : l.initial.n ≤ l.n; taken : AllTaken (g.N.NewTexts.text l.texts l.id) (g.T.Taken.taken l.taken) l.initial.n l.n }

abbrev pub decreases-loop-text : goal.decreases-loop-text
decreases-loop-text g l = 2 ^ 64 - l.n
