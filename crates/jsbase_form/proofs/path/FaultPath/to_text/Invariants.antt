use Rattle.std.proofs.Common.{◌≡◌, ◌++◌, string_bytes}
use Rattle.jsbase_form.specs.Reads.{parts_text, path_text}
use Rattle.jsbase_form.specs.Steps.{path_of}
use Rattle.jsbase_form.proofs.path.FaultPath.to_text.Given as goal

abbrev pub invariant-loop-step : goal.invariant-loop-step
invariant-loop-step l = string_bytes l.text ++ parts_text (path_of l.step-iterator.iter.rest.now) ≡ path_text l.self
