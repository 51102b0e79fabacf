-- One pass after another.
use Rattle.std.proofs.Common.{◌≡◌, Option, Some, Result, Ok, Err, sym, ◌∙◌, subst}
use Rattle.std.specs.Result.{IfOk}
use Rattle.swc_tree_marks.specs.declared.error.PassError.{PassError}
use Rattle.jsbase_reader.specs.declared.envelope.Envelope.{Envelope}
use Rattle.mucwathi_settings.specs.declared.command.Command.{Command}
use Rattle.mucwathi_given.specs.Given.{IsAround, IsMade, IsReady, Makes, Then}

around_both : (given between made : Envelope) → IsAround given between → IsAround between made → IsAround given made
around_both given between made one other = record {
  unresolved = other.unresolved ∙ one.unresolved;
  top = other.top ∙ one.top;
  classes = other.classes ∙ one.classes;
  evals = other.evals ∙ one.evals;
  tops = other.tops ∙ one.tops;
}

pub then_around : (given between : Envelope) (r : Result Envelope PassError) → IsAround given between → IfOk r (IsAround between) → IfOk r (IsAround given)
then_around given between (Ok made) one h = around_both given between made one h
then_around given between (Err e) one h = tt

pub then_made : (First Second : Envelope → Envelope → Type 0) (given between : Envelope) (r : Result Envelope PassError) → First given between → IsAround given between → IfOk r (Second between) → IfOk r (Then First Second given)
then_made First Second given between (Ok made) one around h = record { between = between; first = one; around = around; second = h }
then_made First Second given between (Err e) one around h = tt

pub is_made : (c : Option Command) (given : Envelope) (r : Result Envelope PassError) → IfOk r (IsAround given) → IfOk r (Makes c given) → IfOk r (IsMade c given)
is_made c given (Ok made) around h = record { around = around; makes = h }
is_made c given (Err e) around h = tt

pub by_command : (c k : Command) (given : Envelope) (r : Result Envelope PassError) → c ≡ k → (IsReady given → IfOk r (IsMade (Some k) given)) → IsReady given → IfOk r (IsMade (Some c) given)
by_command c k given r same h = subst (λ c. IsReady given → IfOk r (IsMade (Some c) given)) (sym same) h
