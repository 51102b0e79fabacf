use Rattle.std.proofs.Common.{◌≡◌, take}
use Rattle.swc_base_rename_program.specs.Spans.{spans}
use Rattle.swc_base_rename_program.proofs.spans.spans_of.Given as goal

abbrev pub invariant-loop-entry : goal.invariant-loop-entry
invariant-loop-entry l = l.found.items ≡ spans (take l.entry-index l.ids)
