-- Why a pass is refused.
use Rattle.std.proofs.Common.{◌≡◌, ◌⊎◌, false, inl, inr, Option, Some, Result, Ok, Err, sym, subst}
use Rattle.std.specs.Result.{IfErr}
use Rattle.swc_tree_marks.specs.declared.error.PassError.{PassError}
use Rattle.swc_tree_marks.specs.declared.error.PassError.TheVariants as refusal
use Rattle.swc_tree_spaces.specs.Spaces.{has_types}
use Rattle.swc_tree_grammar.specs.Targets.{all_bare}
use Rattle.swc_base_resolver_program.specs.Marked.{IsRefusal}
use Rattle.jsbase_reader.specs.declared.envelope.Envelope.{Envelope}
use Rattle.mucwathi_settings.specs.declared.command.Command.{Command}
use Rattle.mucwathi_given.specs.Given.{IsReady}
use Rattle.mucwathi_given.specs.Refusals.{InTurn, IsCauseOf, IsUnmade, IsUnpaired, IsUnresolved, TakesTooManyMarks}

pub unresolved : (given : Envelope) (e : PassError) → IsRefusal e → (e ≡ refusal.MarksSpent → TakesTooManyMarks given) → IsUnresolved given e
unresolved given e (inl none) spent = inl none
unresolved given e (inr marks) spent = inr (marks, spent marks)

pub unpaired : (given : Envelope) (e : PassError) → (e ≡ refusal.NotAssignable → all_bare given.tree ≡ false) → (e ≡ refusal.NotAssignable) ⊎ (e ≡ refusal.NoMemory) → IsUnpaired given e
unpaired given e bare (inl why) = inr (why, bare why)
unpaired given e bare (inr none) = inl none

module _ (IsFirst : Envelope → PassError → Type 0) (First : Envelope → Envelope → Type 0) (IsSecond : Envelope → PassError → Type 0) where
  pub second_refused : (given between : Envelope) (r : Result Envelope PassError) → First given between → IfErr r (IsSecond between) → IfErr r (InTurn IsFirst First IsSecond given)
  second_refused given between (Ok made) first h = tt
  second_refused given between (Err e) first h = inr (between, first, h)

pub refused_by : (c k : Command) (given : Envelope) (r : Result Envelope PassError) → c ≡ k → (IsReady given → IfErr r (IsCauseOf k given)) → IsReady given → IfErr r (IsCauseOf c given)
refused_by c k given r same h = subst (λ c. IsReady given → IfErr r (IsCauseOf c given)) (sym same) h

pub unmade : (o : Option Command) (c : Command) (given : Envelope) (r : Result Envelope PassError) → o ≡ Some c → has_types given.tree ≡ false → (IsReady given → IfErr r (IsCauseOf c given)) → IsReady given → IfErr r (IsUnmade o given)
unmade o c given (Ok made) is none h ready = tt
unmade o c given (Err e) is none h ready = subst (λ o. IsUnmade o given e) (sym is) (inr (none, h ready))
