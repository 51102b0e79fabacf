-- The versions that are read for the place of a difference are those that were judged.
use Rattle.std.proofs.Common.{◌≡◌, ◌||◌, ℕ, List, false, Result, Ok, Option, Some, ap, inr, subst, sym, ◌∙◌}
use Rattle.swc_tree_marks.specs.declared.error.PassError.{PassError}
use Rattle.swc_tree_node.specs.declared.kind.Class.{Class}
use Rattle.swc_tree_node.specs.declared.node.Node.{Node}
use Rattle.swc_tree_spaces.specs.Spaces.{has_types}
use Rattle.swc_base_alpha.specs.Verdict.{HasPaths, IsJudgeRefusal, IsThere, TellsWhy, word_in}
use Rattle.swc_base_alpha.specs.declared.verdict.Verdict.TheVariants as verdict
use Rattle.swc_base_alpha.specs.declared.verdict.Cause.{Cause}
use Rattle.swc_base_alpha.specs.declared.verdict.Why.{Why}
use Rattle.swc_base_plain_form.specs.PlainForm.{plain_form}
use Rattle.swc_base_plain_form.proofs.Places.{no_places}
use Rattle.jsbase_reader.specs.Versions.{versions_in_text}
use Rattle.jsbase_reader.specs.declared.versions.Versions.{Versions}
use Rattle.jsbase_commands.specs.Judge.{IsShown, IsTold, IsUntoldFor, as_compared, verdict_text}

abbrev pub NoTypesCompared : Versions → Type 0
NoTypesCompared v = (has_types (as_compared v.spelling v.before) || has_types (as_compared v.spelling v.after)) ≡ false

-- what was made of the versions is what is compared
module _ (v : Versions) (before after : Node) (first : before ≡ as_compared v.spelling v.before) (second : after ≡ as_compared v.spelling v.after) where
  pub none_compared : (has_types before || has_types after) ≡ false → NoTypesCompared v
  none_compared h = subst (λ t. (has_types t || has_types (as_compared v.spelling v.after)) ≡ false) first (subst (λ u. (has_types before || has_types u) ≡ false) second h)

  pub told_compared : (w : Option Why) → TellsWhy v.keep_top before after w → TellsWhy v.keep_top (as_compared v.spelling v.before) (as_compared v.spelling v.after) w
  told_compared w h = subst (λ t. TellsWhy v.keep_top t (as_compared v.spelling v.after) w) first (subst (λ u. TellsWhy v.keep_top before u w) second h)

  pub untold_compared : (e : PassError) → IsJudgeRefusal before after e → IsUntoldFor v e
  untold_compared e h = inr (subst (λ t. IsJudgeRefusal t (as_compared v.spelling v.after) e) first (subst (λ u. IsJudgeRefusal before u e) second h))

-- what stands in a plain form stands in the version
pub place_of_plain : (t u : Node) (p : List ℕ) → u ≡ plain_form t → IsThere u p → IsThere t p
place_of_plain t u p is there = no_places t p (subst (λ v. IsThere v p) is there)

one_ok : {A E : Type 0} (x y : A) (r : Result A E) → r ≡ Ok x → r ≡ Ok y → x ≡ y
one_ok x y r e f = cc

pub shown_told : (c : Class) (input output : List ℕ) (v : Versions) (o : Option Cause) (x : Cause) → versions_in_text c input ≡ Ok v → NoTypesCompared v → o ≡ Some x → TellsWhy v.keep_top (as_compared v.spelling v.before) (as_compared v.spelling v.after) (word_in o) → IsShown c input x.why output → IsTold v output
shown_told c input output v o x read none is tells shown =
    let d = shown.difference in
    let same : shown.versions ≡ v = one_ok shown.versions v (versions_in_text c input) shown.read read in
    record {
      no_types = none;
      said = verdict.Differs d;
      tells = subst (TellsWhy v.keep_top (as_compared v.spelling v.before) (as_compared v.spelling v.after)) (ap word_in is ∙ ap (λ w. Some w) (sym shown.why)) tells;
      paths = subst (λ (v : Versions). HasPaths v.before v.after (verdict.Differs d)) same shown.paths;
      written = subst (λ v. output ≡ verdict_text v (verdict.Differs d)) same shown.written;
    }
