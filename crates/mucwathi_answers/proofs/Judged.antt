-- What is told of two texts.
use Rattle.std.proofs.Common.{◌≡◌, ◌<◌, ◌⊎◌, Option, Some, None, inl, inr, sym, subst, arith, Result, Ok, Err, IfOk, MatchResult}
use Rattle.text_reader.specs.declared.fault.TextFault.{TextFault}
use Rattle.text_reader.specs.declared.fault.TextFault.TheVariants as text
use Rattle.mucwathi_arguments.specs.declared.task.Judging.{Judging}
use Rattle.text_parser.specs.declared.programs.Goal.{Goal}
use Rattle.mucwathi_commands.specs.Judged.{IsJudgeFault, IsJudged}
use Rattle.mucwathi_commands.specs.declared.judge.TextDifference.{TextDifference}
use Rattle.mucwathi_order.specs.declared.fault.JudgeFault.{JudgeFault}
use Rattle.mucwathi_order.specs.declared.fault.JudgeFault.TheVariants as judging
use Rattle.mucwathi_looks.specs.declared.reports.Named.{Named}
use Rattle.mucwathi_looks.specs.Status.{judge_status, text_status}
use Rattle.mucwathi_answers.specs.Answers.{IsAskedOfTwo, IsVerdict, IsVerdictFault, SaysFault, SaysVerdict, TellsVerdict, rules_for}
use Rattle.mucwathi_answers.specs.declared.answer.Answer.{Answer}

read_status : (f : TextFault) → 1 < text_status f
read_status text.NoMemory = omega arith
read_status text.TooLong = omega arith
read_status text.NotTheText = omega arith
read_status (text.NotUtf8 at) = omega arith
read_status (text.Unexpected at expected) = omega arith
read_status (text.Unterminated at) = omega arith
read_status (text.BadEscape at) = omega arith
read_status (text.BadNumber at) = omega arith
read_status (text.BadRegex at) = omega arith
read_status (text.HalfSurrogate at) = omega arith
read_status (text.EscapedDirective at) = omega arith
read_status (text.NotRead at language) = omega arith
read_status (text.TooDeep at) = omega arith

fault_status : (f : JudgeFault) → 1 < judge_status f
fault_status (judging.Before f) = read_status f
fault_status (judging.After f) = read_status f
fault_status (judging.Refused e) = omega arith

-- what is said of two texts, as what they are read
pub verdict : (task : Judging) (before after : Named) (g h : Goal) → IsAskedOfTwo task.goal before after g → IsAskedOfTwo task.goal after before h → (r : Result (Option TextDifference) JudgeFault)
    → MatchResult r (IsJudged (rules_for task) g before.text.now h after.text.now) (IsJudgeFault task.spelling g before.text.now h after.text.now) → MatchResult r (IsVerdict task before after) (IsVerdictFault task before after)
verdict task before after g h one other (Ok said) judged = record { first = g; second = h; asked_first = one; asked_second = other; judged = judged }
verdict task before after g h one other (Err f) told = record { first = g; second = h; asked_first = one; asked_second = other; told = told }

-- one of two faults is told
pub told_either : (task : Judging) (before after : Named) (f g r : JudgeFault) → (r ≡ f) ⊎ (r ≡ g) → IsVerdictFault task before after f → IsVerdictFault task before after g
    → IsVerdictFault task before after r
told_either task before after f g r (inl is) one other = subst (IsVerdictFault task before after) (sym is) one
told_either task before after f g r (inr is) one other = subst (IsVerdictFault task before after) (sym is) other

module _ {E : Type 0} (task : Judging) (before after : Named) where
  pub told_verdict : (said : Option TextDifference) (r : Result Answer E) → IfOk r (SaysVerdict before after said) → IsVerdict task before after said → IfOk r (TellsVerdict task before after)
  told_verdict None (Ok a) says verdict =
      let is : a.status ≡ 0 = says.0 in
      record { same = λ h. (verdict, says); other = λ h. absurd (omega (arith, is, h)); fault = λ h. absurd (omega (arith, is, h)) }
  told_verdict (Some difference) (Ok a) says verdict =
      let is : a.status ≡ 1 = says.0 in
      record { same = λ h. absurd (omega (arith, is, h)); other = λ h. (difference, verdict, says); fault = λ h. absurd (omega (arith, is, h)) }
  told_verdict said (Err e) says verdict = tt

  -- a fault has a status of its own
  pub told_fault : (f : JudgeFault) (r : Result Answer E) → IfOk r (SaysFault before after f) → IsVerdictFault task before after f → IfOk r (TellsVerdict task before after)
  told_fault f (Ok a) says told =
      let is : a.status ≡ judge_status f = says.status in
      let above : 1 < judge_status f = fault_status f in
      record { same = λ h. absurd (omega (arith, is, h, above)); other = λ h. absurd (omega (arith, is, h, above)); fault = λ h. (f, told, says) }
  told_fault f (Err e) says told = tt
