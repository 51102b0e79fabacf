-- What is made of a text, as whatever it is read.
use Rattle.std.proofs.Common.{◌≡◌, ◌⊎◌, true, false, ℕ, List, Option, Some, None, inl, inr, refl, sym, ◌∙◌, subst, Result, Ok, Err, IfOk, MatchResult}
use Rattle.std.specs.Option.{option_or}
use Rattle.std.specs.Prelude.{unwrap_or}
use Rattle.text_parser.specs.declared.programs.Goal.{Goal}
use Rattle.text_reader.specs.declared.fault.TextFault.{TextFault}
use Rattle.text_reader.specs.declared.fault.TextFault.TheVariants as text
use Rattle.mucwathi_arguments.specs.declared.task.Rewriting.{Rewriting}
use Rattle.mucwathi_commands.specs.Faults.{IsRunFault}
use Rattle.mucwathi_commands.specs.Looks.{IsUncovered}
use Rattle.mucwathi_order.specs.declared.fault.RunFault.{RunFault}
use Rattle.mucwathi_order.specs.declared.fault.RunFault.TheVariants as running
use Rattle.mucwathi_order.specs.declared.order.Order.{Order}
use Rattle.mucwathi_looks.specs.declared.reports.Named.{Named}
use Rattle.mucwathi_looks.specs.Status.{run_status, text_status}
use Rattle.mucwathi_answers.specs.Answers.{HasExplanation, HasList, IsAnswered, IsAsked, IsAskedOfTwo, IsFaultTold, IsGoalOf, IsMemoryFault, IsTold, IsWell, IsWorked, IsWrittenOut, goal_asked, order_for}
use Rattle.mucwathi_answers.specs.declared.answer.Answer.{Answer}

-- ---- goals

pub goal_so : (o : Option Goal) (g : Goal) → o ≡ Some g → IsGoalOf o g
goal_so (Some a) g is = cc
goal_so None g is = tt

-- where a goal is open, each may be taken
pub goal_any : (o : Option Goal) (g : Goal) → o ≡ None → IsGoalOf o g
goal_any (Some a) g is = absurd (cc)
goal_any None g is = tt

pub goal_or : (o : Option Goal) (g : Goal) → IsGoalOf o (unwrap_or o g)
goal_or (Some a) g = refl
goal_or None g = tt

pub asked_of_two : (given : Option Goal) (of other : Named) (own others : Option Goal) (g : Goal) → own ≡ goal_asked given of → others ≡ goal_asked given other → IsGoalOf (option_or own others) g → IsAskedOfTwo given of other g
asked_of_two given of other own others g is also h = subst (λ others. IsGoalOf (option_or (goal_asked given of) others) g) also (subst (λ own. IsGoalOf (option_or own others) g) is h)

-- ---- answers

-- want of memory tells of each text
pub memory_told : (order : Order) (text : List ℕ) (f : RunFault) → IsMemoryFault f → IsRunFault order text f
memory_told order text f is = subst (IsRunFault order text) (sym is) (inl refl)

-- why it is not told whether the promise covers a text
pub uncovered_told : (order : Order) (text : List ℕ) (f : RunFault) → IsUncovered text f → IsRunFault order text f
uncovered_told order text (running.Text f) h = h
uncovered_told order text (running.Refused e) h = inl h
uncovered_told order text running.NotWritten h = absurd h
uncovered_told order text running.NotKept h = absurd h

module _ (task : Rewriting) (prefix : List ℕ) (of : Named) where
  pub explained : (g : Goal) (r : Result Answer RunFault) (order : Order) → order ≡ order_for task g → IsAsked task.goal of g → task.explains ≡ true
      → MatchResult r (λ a. IsWell a × HasExplanation order of a.out.items) (IsRunFault order of.text.now) → MatchResult r (IsWorked task prefix of) (IsTold task of)
  explained g (Ok a) order is asked tells h = record {
    well = h.0;
    explained = λ explains. record { goal = g; asked = asked; explanation = subst (λ order. HasExplanation order of a.out.items) is h.1 };
    made = λ lists explains. absurd (cc);
    listed = λ lists explains. absurd (cc);
  }
  explained g (Err f) order is asked tells fault = record { goal = g; asked = asked; told = subst (λ order. IsRunFault order of.text.now f) is fault }

  pub listed : (g : Goal) (r : Result Answer RunFault) (order : Order) → order ≡ order_for task g → IsAsked task.goal of g → task.explains ≡ false → task.lists ≡ true
      → MatchResult r (λ a. IsWell a × HasList order prefix of.text.now a.out.items) (IsRunFault order of.text.now) → MatchResult r (IsWorked task prefix of) (IsTold task of)
  listed g (Ok a) order is asked untold lists h = record {
    well = h.0;
    explained = λ explains. absurd (cc);
    made = λ none explains. absurd (cc);
    listed = λ all explains. record { goal = g; asked = asked; list = subst (λ order. HasList order prefix of.text.now a.out.items) is h.1 };
  }
  listed g (Err f) order is asked untold lists fault = record { goal = g; asked = asked; told = subst (λ order. IsRunFault order of.text.now f) is fault }

  pub worked : (g : Goal) (r : Result Answer RunFault) (order : Order) → order ≡ order_for task g → IsAsked task.goal of g → task.explains ≡ false → task.lists ≡ false
      → MatchResult r (λ a. IsWell a × IsWrittenOut order task.map of a) (IsRunFault order of.text.now) → MatchResult r (IsWorked task prefix of) (IsTold task of)
  worked g (Ok a) order is asked untold none h = record {
    explained = λ explains. absurd (cc);
    listed = λ lists explains. absurd (cc);
    well = h.0;
    made = λ lists explains. record {
      goal = g;
      asked = asked;
      written = subst (λ order. IsWrittenOut order task.map of a) is h.1;
    };
  }
  worked g (Err f) order is asked untold none h = record { goal = g; asked = asked; told = subst (λ order. IsRunFault order of.text.now f) is h }

  pub well_answered : (a : Answer) → IsWorked task prefix of a → IsAnswered task prefix of a
  well_answered a h = record { well = λ well. h; fault = λ other. absurd (other h.well) }

-- one of two faults is told
pub told_either : (task : Rewriting) (of : Named) (f g r : RunFault) → (r ≡ f) ⊎ (r ≡ g) → IsTold task of f → IsTold task of g → IsTold task of r
told_either task of f g r (inl is) one other = subst (IsTold task of) (sym is) one
told_either task of f g r (inr is) one other = subst (IsTold task of) (sym is) other

read_status : (f : TextFault) → text_status f ≡ 0 → ⊥
read_status text.NoMemory h = absurd (cc)
read_status text.TooLong h = absurd (cc)
read_status text.NotTheText h = absurd (cc)
read_status (text.NotUtf8 at) h = absurd (cc)
read_status (text.Unexpected at expected) h = absurd (cc)
read_status (text.Unterminated at) h = absurd (cc)
read_status (text.BadEscape at) h = absurd (cc)
read_status (text.BadNumber at) h = absurd (cc)
read_status (text.BadRegex at) h = absurd (cc)
read_status (text.HalfSurrogate at) h = absurd (cc)
read_status (text.EscapedDirective at) h = absurd (cc)
read_status (text.NotRead at language) h = absurd (cc)
read_status (text.TooDeep at) h = absurd (cc)

pub fault_status : (f : RunFault) → run_status f ≡ 0 → ⊥
fault_status (running.Text f) h = read_status f h
fault_status (running.Refused e) h = absurd (cc)
fault_status running.NotWritten h = absurd (cc)
fault_status running.NotKept h = absurd (cc)

-- no fault has status 0
pub fault_answered : {E : Type 0} (task : Rewriting) (prefix : List ℕ) (of : Named) (f : RunFault) (r : Result Answer E) → IsTold task of f → IfOk r (IsFaultTold of f) → IfOk r (IsAnswered task prefix of)
fault_answered task prefix of f (Ok a) told is = record { well = λ well. absurd (fault_status f (sym is.status ∙ well)); fault = λ other. (f, told, is) }
fault_answered task prefix of f (Err e) told is = tt
