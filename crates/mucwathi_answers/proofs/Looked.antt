-- What is told of a text, as whatever it is read.
use Rattle.std.proofs.Common.{◌≡◌, ◌⊎◌, ℕ, List, Option, inl, inr, refl, sym, subst, Result, Ok, Err, IfOk, MatchResult}
use Rattle.std.specs.Prelude.{Vec}
use Rattle.text_parser.specs.declared.programs.Goal.{Goal}
use Rattle.mucwathi_arguments.specs.declared.task.View.{View}
use Rattle.mucwathi_order.specs.declared.fault.RunFault.{RunFault}
use Rattle.mucwathi_looks.specs.Looks.{IsUnlooked}
use Rattle.mucwathi_looks.specs.declared.reports.Named.{Named}
use Rattle.mucwathi_answers.specs.Answers.{IsAsked, IsFaultTold, IsLooked, IsMemoryFault, IsShowFault, IsShown, IsUnshown, IsWell, Shows}
use Rattle.mucwathi_answers.specs.declared.answer.Answer.{Answer}
use Rattle.mucwathi_answers.proofs.Worked.{fault_status}

pub memory_unlooked : (g : Goal) (text : List ℕ) (f : RunFault) → IsMemoryFault f → IsUnlooked g text f
memory_unlooked g text f is = subst (IsUnlooked g text) (sym is) (inl refl)

module _ {Z : Type 0} (v : View) (given : Option Goal) (of : Named) where
  pub shown_as : (g : Goal) (r : Result (Vec ℕ Z) RunFault) → IsAsked given of g → MatchResult r (λ out. Shows v g of out.items) (IsUnshown v g of.text.now)
      → MatchResult r (λ out. IsShown v given of out.items) (IsShowFault v given of)
  shown_as g (Ok out) asked h = (g, asked, h)
  shown_as g (Err f) asked h = (g, asked, h)

module _ (v : View) (given : Option Goal) (of : Named) where
  pub told_either : (f g r : RunFault) → (r ≡ f) ⊎ (r ≡ g) → IsShowFault v given of f → IsShowFault v given of g → IsShowFault v given of r
  told_either f g r (inl is) one other = subst (IsShowFault v given of) (sym is) one
  told_either f g r (inr is) one other = subst (IsShowFault v given of) (sym is) other

  pub shown_well : (a : Answer) (out : List ℕ) → a.out.items ≡ out → IsWell a → IsShown v given of out → IsLooked v given of a
  shown_well a out is well h = record { well = λ all. subst (IsShown v given of) (sym is) h; fault = λ other. absurd (other well) }

  pub fault_looked : {E : Type 0} (f : RunFault) (r : Result Answer E) → IsShowFault v given of f → IfOk r (IsFaultTold of f) → IfOk r (IsLooked v given of)
  fault_looked f (Ok a) told is = record { well = λ well. absurd (fault_status f (cc (is.status, well))); fault = λ other. (f, told, is) }
  fault_looked f (Err e) told is = tt
