-- What is answered for a program that was given.
use Rattle.std.proofs.Common.{◌≡◌, ◌⊎◌, ℕ, List, inl, inr, true, false, sym, subst, ◌∙◌, Result, Ok, Err, IfErr, IfOk, MatchResult, refl, arith}
use Rattle.std.specs.Prelude.{Bool, Vec}
use Rattle.jsbase_reader.specs.declared.envelope.Envelope.{Envelope}
use Rattle.text_parser.specs.declared.programs.Goal.{Goal}
use Rattle.mucwathi_arguments.specs.Asked.{giving_of, is_plain}
use Rattle.mucwathi_arguments.specs.declared.task.Giving.{Giving}
use Rattle.mucwathi_arguments.specs.declared.task.Rewriting.{Rewriting}
use Rattle.mucwathi_arguments.specs.declared.task.Source.{Source}
use Rattle.mucwathi_arguments.specs.declared.task.Source.TheVariants as source
use Rattle.mucwathi_order.specs.declared.fault.RunFault.{RunFault}
use Rattle.mucwathi_order.specs.declared.fault.RunFault.TheVariants.{NotKept, NotWritten, Refused, Text}
use Rattle.mucwathi_commands.specs.Faults.{IsWriteFault}
use Rattle.mucwathi_given.specs.Given.{IsReady}
use Rattle.mucwathi_looks.specs.Given.{IsUnmarked}
use Rattle.mucwathi_looks.specs.Refused.{IsUnread}
use Rattle.mucwathi_looks.specs.declared.reports.Named.{Named}
use Rattle.mucwathi_answers.specs.Answers.{IsAnswered, IsAsked, IsFaultTold, IsWell}
use Rattle.mucwathi_answers.specs.Given.{HasFault, IsAnswerOf, IsAnsweredAs, IsAnsweredIf, IsAnsweredTo, IsGivenAnswer, IsMadeBy, IsNoProgram, IsNoText, IsNoTreeTold, IsOf, IsOfText, IsProgramOf, IsTextFault, IsUnanswered, IsUnansweredAs, with_settings}
use Rattle.mucwathi_answers.specs.declared.answer.Answer.{Answer}
use Rattle.mucwathi_answers.proofs.Worked.{fault_status}

pub settings_ready : (task : Giving) (e : Envelope) → IsReady e → IsReady (with_settings task e)
settings_ready task e h = record { program = h.program; marks = h.marks }

module _ {Z : Type 0} (task : Giving) (of : Named) where
  pub answered_as : (g : Goal) (r : Result (Vec ℕ Z) RunFault) → IsAsked task.goal of g → MatchResult r (λ out. IsAnsweredAs task.form.json task g of.text.now out.items) (IsUnansweredAs task.form.json task g of.text.now)
      → MatchResult r (λ out. IsOfText task of out.items) (IsTextFault task of)
  answered_as g (Ok out) asked h = (g, asked, h)
  answered_as g (Err f) asked h = (g, asked, h)

module _ (task : Giving) (of : Named) where
  pub told_either : (f g r : RunFault) → (r ≡ f) ⊎ (r ≡ g) → IsTextFault task of f → IsTextFault task of g → IsTextFault task of r
  told_either f g r (inl is) one other = subst (IsTextFault task of) (sym is) one
  told_either f g r (inr is) one other = subst (IsTextFault task of) (sym is) other

-- what is said of both ends, and of one
module _ {X E : Type 0} (P : X → Type 0) (Q : E → Type 0) where
  pub both_ends : (r : Result X E) → IfOk r P → IfErr r Q → MatchResult r P Q
  both_ends (Ok x) h k = h
  both_ends (Err e) h k = k

  pub well_end : (r : Result X E) → MatchResult r P Q → IfOk r P
  well_end (Ok x) h = h
  well_end (Err e) h = tt

  pub other_end : (r : Result X E) → MatchResult r P Q → IfErr r Q
  other_end (Ok x) h = tt
  other_end (Err e) h = h

-- what is said of a fault of what was made of a program
pub no_text : (task : Giving) (program made : Envelope) → IsMadeBy task program made → (f : RunFault) → IsWriteFault f → IsNoText task program f
no_text task program made is (Text f) h = h
no_text task program made is (Refused e) h = inl h
no_text task program made is NotWritten h = (made, is)
no_text task program made is NotKept h = (made, is)

module _ (P : List ℕ → Type 0) (Q : Answer → Type 0) where
  pub answer_well : (a : Answer) (out : List ℕ) → a.out.items ≡ out → IsWell a → P out → IsAnswerOf P Q a
  answer_well a out is well h = record { well = λ all. subst P (sym is) h; fault = λ other. absurd (other well) }

  pub answer_fault : {E : Type 0} (of : Named) (f : RunFault) (r : Result Answer E) → ((a : Answer) → IsFaultTold of f a → Q a) → IfOk r (IsFaultTold of f) → IfOk r (IsAnswerOf P Q)
  answer_fault of f (Ok a) so is = record { well = λ well. absurd (fault_status f (cc (is.status, well))); fault = λ other. so a is }
  answer_fault of f (Err e) so is = tt

module _ (P : List ℕ → Type 0) where
  pub answer_none : {E : Type 0} (task : Giving) (of : Named) (r : Result Answer E) → IfOk r (IsNoTreeTold of) → IfOk r (IsAnswerOf P (IsUnanswered source.Tree task of))
  answer_none task of (Ok a) h = record { well = λ (well : a.status ≡ 0). absurd (omega (arith, h.status, well)); fault = λ other. inl h }
  answer_none task of (Err e) h = tt

pub not_marked : {E : Type 0} (s : Source) (g : Goal) (text : List ℕ) (r : Result Envelope E) → (s ≡ source.Marked → ⊥) → IfOk r (IsUnmarked g text) → IfOk r (IsProgramOf s g text)
not_marked source.Marked g text r other h = absurd (other refl)
not_marked source.Text g text r other h = h
not_marked source.Tree g text r other h = h

pub no_program : {X : Type 0} (s : Source) (text : List ℕ) (r : Result X RunFault) → (s ≡ source.Marked → ⊥) → IfErr r (IsUnread text) → IfErr r (IsNoProgram s text)
no_program source.Marked text r other h = absurd (other refl)
no_program source.Text text r other h = h
no_program source.Tree text r other h = h

pub of_text : {E : Type 0} (s : Source) (task : Giving) (of : Named) (r : Result Answer E) → (s ≡ source.Tree → ⊥) → IfOk r (IsAnswerOf (IsOfText task of) (HasFault (IsTextFault task of) of)) → IfOk r (IsAnswerOf (IsOf s task of) (IsUnanswered s task of))
of_text source.Tree task of r other h = absurd (other refl)
of_text source.Text task of r other h = h
of_text source.Marked task of r other h = h

-- ---- from text to text, or otherwise

module _ {E : Type 0} (task : Rewriting) (prefix : List ℕ) (of : Named) (plain : Bool) (r : Result Answer E) (is : plain ≡ is_plain task.form) where
  pub answered_plainly : plain ≡ true → IfOk r (IsAnswered task prefix of) → IfOk r (IsAnsweredTo task prefix of)
  answered_plainly so h = subst (λ b. IfOk r (IsAnsweredIf b task prefix of)) (sym so ∙ is) h

  pub answered_otherwise : (given : Giving) → given ≡ giving_of task → plain ≡ false → IfOk r (IsGivenAnswer given of) → IfOk r (IsAnsweredTo task prefix of)
  answered_otherwise given same so h = subst (λ b. IfOk r (IsAnsweredIf b task prefix of)) (sym so ∙ is) (subst (λ g. IfOk r (IsGivenAnswer g of)) same h)
