-- Whole numbers, as they are parsed.
use Rattle.std.proofs.Common.{◌≡◌, ◌≢◌, ◌<◌, ◌^◌, ℕ, List, Bool, true, false, ◌&&◌, cond, length, get_or, nat_lt, Some, None, Result, Ok, Err, refl, sym, ap, subst, ◌∙◌, arith}
use Rattle.std.specs.Result.{result_ok}
use Rattle.std.specs.Str.{all_ascii_digits}
use Rattle.std.specs.Str.Parse.{IsNumeral, ParsesUnsigned, digits_value}
use Rattle.std.proofs.lemmas.Bool.Decides.{nat_tests}
use Rattle.std.proofs.lemmas.Str.Parse.{without_leading_plus_none}
use Rattle.jsbase_form.specs.Leaves.{whole}
use Rattle.jsbase_form.proofs.Back.{numerals}

abbrev Fits32 : List ℕ → Type 0
Fits32 ds = IsNumeral 10 ds × (digits_value 10 ds < 2 ^ 32)

whole_there : (text : List ℕ) → Fits32 text → whole text ≡ Some (digits_value 10 text)
whole_there text h =
    let some : nat_lt 0 (length text) ≡ true = grind (arith, nat_tests, h.0.0) in
    let digits : all_ascii_digits text ≡ true = numerals.from text h.0.1 in
    let short : nat_lt (digits_value 10 text) (2 ^ 32) ≡ true = grind (arith, nat_tests, h.1) in
    rw (some, digits, short) refl

none_by : (a b c : Bool) (n : ℕ) → (a ≡ true → b ≡ true → c ≡ true → ⊥) → cond (a && (b && c)) (Some n) None ≡ None
none_by true true true n h = absurd (h refl refl refl)
none_by true true false n h = refl
none_by true false c n h = refl
none_by false b c n h = refl

whole_absent : (text : List ℕ) → (Fits32 text → ⊥) → whole text ≡ None
whole_absent text h =
    none_by (nat_lt 0 (length text)) (all_ascii_digits text) (nat_lt (digits_value 10 text) (2 ^ 32)) (digits_value 10 text)
    (λ some digits short. h ((grind (arith, nat_tests), numerals.to text digits), grind (arith, nat_tests)))

pub whole_is : {E : Type 0} (text : List ℕ) (r : Result ℕ E) → get_or text 0 0 ≢ 43 → ParsesUnsigned 32 10 text r → result_ok r ≡ whole text
whole_is text (Ok n) plain h =
    let bare = without_leading_plus_none text plain in
    let fits = subst Fits32 bare h.0 in
    let is : n ≡ digits_value 10 text = h.1 ∙ ap (digits_value 10) bare in
    ap Some is ∙ sym (whole_there text fits)
whole_is text (Err e) plain h = sym (whole_absent text (λ fits. h (subst Fits32 (sym (without_leading_plus_none text plain)) fits)))
