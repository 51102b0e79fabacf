-- Texts that are read, to be judged.
use Rattle.std.proofs.Common.{◌≡◌, Bool, true, false, ℕ, List, Option, inl, inr, sym, subst, Result, Ok, Err, MatchResult}
use Rattle.swc_tree_marks.specs.declared.error.PassError.{PassError}
use Rattle.swc_tree_node.specs.declared.node.Node.{Node}
use Rattle.swc_tree_node.specs.declared.slot.Content.TheVariants as content
use Rattle.swc_tree_node.specs.declared.slot.Slot.TheVariants as slot
use Rattle.swc_base_alpha.specs.Verdict.{IsCleanProgram, IsJudgeRefusal}
use Rattle.swc_base_plain_form.proofs.Fitting.{plain_fits}
use Rattle.swc_base_plain_form.proofs.Kept.{clean}
use Rattle.text_parser.specs.declared.programs.Goal.{Goal}
use Rattle.mucwathi_order.specs.Lower.text_source.specs.Texts.{class_of}
use Rattle.mucwathi_order.specs.declared.fault.JudgeFault.{JudgeFault}
use Rattle.mucwathi_order.specs.declared.fault.JudgeFault.TheVariants.{After, Before, Refused}
use Rattle.mucwathi_commands.specs.Judged.{IsAfterFault, IsBeforeFault, IsJudgeFault, IsRead, IsSaid, IsUnsaid, as_compared}
use Rattle.mucwathi_commands.specs.declared.judge.TextDifference.{TextDifference}
use Rattle.mucwathi_order.proofs.Programs.{is_program}

pub clean_program : (g : Goal) (text : List ℕ) (t : Node) → IsRead g text t → IsCleanProgram t
clean_program g text t h = record { goal = slot.One (content.Node (class_of g)); is_goal = is_program g; fits = h.is_text.0.fits; clean = h.clean }

pub clean_compared : (spelling : Bool) (t u : Node) → u ≡ as_compared spelling t → IsCleanProgram t → IsCleanProgram u
clean_compared spelling t u is h = subst IsCleanProgram (sym is) (compared spelling)
  where
    compared : (spelling : Bool) → IsCleanProgram (as_compared spelling t)
    compared true = h
    compared false = record { goal = h.goal; is_goal = h.is_goal; fits = plain_fits t h.goal h.fits; clean = clean t h.clean }

-- what is said of two programs as they are compared
pub compared_said : (keep_top spelling : Bool) (first second one other : Node) (r : Result (Option TextDifference) PassError) → one ≡ as_compared spelling first → other ≡ as_compared spelling second
    → MatchResult r (IsSaid keep_top one other) (IsJudgeRefusal one other)
    → MatchResult r (IsSaid keep_top (as_compared spelling first) (as_compared spelling second)) (IsUnsaid spelling first second)
compared_said keep_top spelling first second one other (Ok said) is also h =
    subst (λ t. IsSaid keep_top t (as_compared spelling second) said) is (subst (λ u. IsSaid keep_top one u said) also h)
compared_said keep_top spelling first second one other (Err e) is also h =
    inr (subst (λ t. IsJudgeRefusal t (as_compared spelling second) e) is (subst (λ u. IsJudgeRefusal one u e) also h))

module _ (spelling : Bool) (g h : Goal) (before after : List ℕ) where
  pub first_fault : (f : JudgeFault) → IsBeforeFault before f → IsJudgeFault spelling g before h after f
  first_fault (Before f) is = is
  first_fault (After f) is = absurd is
  first_fault (Refused e) is = inl is

  pub second_fault : (f : JudgeFault) → IsAfterFault after f → IsJudgeFault spelling g before h after f
  second_fault (Before f) is = absurd is
  second_fault (After f) is = is
  second_fault (Refused e) is = inl is

  pub unjudged : (first second : Node) → IsRead g before first → IsRead h after second → (e : PassError) → IsUnsaid spelling first second e → IsJudgeFault spelling g before h after (Refused e)
  unjudged first second one other e (inl none) = inl none
  unjudged first second one other e (inr refused) = inr (record { first = first; second = second; read_first = one; read_second = other; refused = refused })
