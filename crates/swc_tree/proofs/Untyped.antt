-- What is made of a program that is not refused for its types, and why it is refused for them.
use Rattle.std.proofs.Common.{◌≡◌, Bool, true, false, Result, Ok, Err, OnOk, IfOk, IfErr, refl}
use Rattle.swc_tree_marks.specs.declared.error.PassError.{PassError}
use Rattle.swc_tree_marks.specs.declared.error.PassError.TheVariants as error
use Rattle.swc_tree_marks.specs.Globals.{Table}
use Rattle.swc_tree.specs.Types.{IsDeclined, IsMade}

module _ (refused : Bool) (none : refused ≡ false) where
  pub made_of_untyped : {T E : Type 0} (r : Result T E) (Made : Type 0) → OnOk r Made → OnOk r (IsMade refused Made)
  made_of_untyped (Ok t) Made h = record { taken = none; made = h }
  made_of_untyped (Err e) Made h = tt

  pub made_of_untyped_as : {T E : Type 0} (r : Result T E) (Made : T → Type 0) → IfOk r Made → IfOk r (λ t. IsMade refused (Made t))
  made_of_untyped_as (Ok t) Made h = record { taken = none; made = h }
  made_of_untyped_as (Err e) Made h = tt

  pub declined_untyped : {P T : Type 0} (pass : P) (old : Table) (kept : P) (new : Table) (r : Result T PassError) (Cause : PassError → Type 0) → IfErr r Cause → IfErr r (λ e. IsDeclined refused pass old kept new e (Cause e))
  declined_untyped pass old kept new (Ok t) Cause h = tt
  declined_untyped pass old kept new (Err e) Cause h = record { types = λ some. absurd (cc (some, none)); cause = λ _. h }

-- nothing was done then
pub declined_for_types : {P : Type 0} (refused : Bool) → refused ≡ true → (pass : P) (table : Table) (Cause : Type 0) → IsDeclined refused pass table pass table error.TypesLeft Cause
declined_for_types refused some pass table Cause = record { types = λ _. (refl, refl, refl); cause = λ none. absurd (cc (some, none)) }
