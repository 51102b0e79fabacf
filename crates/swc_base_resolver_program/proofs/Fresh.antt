-- Fresh marks in a row, and why one is refused.
use Rattle.std.proofs.Common.{◌≡◌, ℕ, zero, suc, ◌+◌, List, [], ◌∷◌, ◌++◌, refl, sym, ap, ◌∙◌, arith, add-one}
use Rattle.std.specs.List.{range_with_len}
use Rattle.swc_tree_marks.specs.declared.error.MarkError.{MarkError}
use Rattle.swc_tree_marks.specs.declared.error.MarkError.TheVariants as mark
use Rattle.swc_tree_marks.specs.declared.error.PassError.{PassError}
use Rattle.swc_tree_marks.specs.declared.error.PassError.TheVariants as pass
use Rattle.swc_tree_marks.specs.Errors.{IsFreshError, IsSameRefusal}
use Rattle.swc_tree_marks.specs.Globals.{Table, with_fresh, with_fresh_marks}

pub spent_is : (e : MarkError) (p : PassError) → IsFreshError e → IsSameRefusal e p → p ≡ pass.MarksSpent → e ≡ mark.MarksSpent
spent_is mark.MarksSpent p f s h = refl
spent_is mark.NoMemory p f s h = let q : pass.NoMemory ≡ pass.MarksSpent = sym s ∙ h in absurd (cc)
spent_is (mark.BadTable i) p f s h = absurd f

range_more : (a n : ℕ) → range_with_len a (suc n) ≡ range_with_len a n ++ (a + n) ∷ []
range_more a zero = let e : a ≡ a + 0 = omega arith in ap (λ x. x ∷ []) e
range_more a (suc n) = let e : a + 1 + n ≡ a + suc n = omega arith in ap (λ l. a ∷ l) (range_more (a + 1) n ∙ ap (λ x. range_with_len (a + 1) n ++ x ∷ []) e)

-- one mark more
pub marks_more : (top first n next : ℕ) (was now : List ℕ) → was ≡ top ∷ range_with_len first n → next ≡ first + n → now ≡ was ++ next ∷ [] → now ≡ top ∷ range_with_len first (n + 1)
marks_more top first n next was now w e h = h ∙ rw (w, e, add-one) (ap (λ l. top ∷ l) (sym (range_more first n)))

pub fresh_more : (old was now : Table) (parent n : ℕ) → was ≡ with_fresh_marks old parent n → now ≡ with_fresh was parent → now ≡ with_fresh_marks old parent (n + 1)
fresh_more old was now parent n w e = rw add-one (e ∙ ap (λ t. with_fresh t parent) w)
