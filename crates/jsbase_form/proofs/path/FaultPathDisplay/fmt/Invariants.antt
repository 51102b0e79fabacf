use Rattle.std.proofs.Common.{◌≡◌, ℕ, List, ◌++◌, codes}
use Rattle.std.specs.Fmt.{HasWritten, IsPlainFormatter}
use Rattle.jsbase_form.specs.Reads.{parts_text, path_text}
use Rattle.jsbase_form.specs.Steps.{path_of}
use Rattle.jsbase_form.proofs.path.FaultPathDisplay.fmt.Given as goal

abbrev pub invariant-loop-step : goal.invariant-loop-step
invariant-loop-step g l =
    IsPlainFormatter l.initial.f → (done : List ℕ) × HasWritten g.W.Write.write_str_gives l.initial.f done l.f
    × (codes "$" ++ done ++ parts_text (path_of l.step-iterator.iter.rest.now) ≡ path_text l.self)
