-- A text in which no byte is read as another stands for itself.
use Rattle.std.proofs.Common.{◌≡◌, ap, ◌∙◌, ℕ, suc, ◌&&◌, ◌==◌, not, true, false, Bool, Option, Some, cond, List, [], ◌∷◌, ◌++◌, length, map, refl}
use lib.Dec.{eqb-suc-zero}
use Rattle.std.specs.Prelude.{bytes_eq, option_map}
use Rattle.std.specs.List.{list_any}
use Rattle.std.proofs.lemmas.Bool.{and_parts, and_right, cond-false, not-true, or_parts}
use Rattle.text_strings.specs.declared.escape.Reading.{Reading}
use Rattle.text_strings.specs.declared.escape.Unit.{Unit}
use Rattle.text_strings.specs.declared.escape.Unit.TheVariants.{Byte}
use Rattle.text_strings.specs.Escapes.{is_template, next_unit}
use Rattle.text_values.specs.Values.{cooked, encoded, is_value, joined, of_bytes, of_units, units_behind, units_in}
use Rattle.text_values.specs.Steps.{is_plain}

abbrev has : ℕ → List ℕ → Bool
has byte text = list_any (λ c. c == byte) text

unit_is : (reading : Reading) (c : ℕ) (cs : List ℕ) → (c == 92) ≡ false → (c == 13) ≡ false → next_unit reading (c ∷ cs) ≡ Some (Byte c, cs)
unfolding next_unit
unit_is reading c cs slash return =
    cond-false (suc (length cs) == 0) _ _ (eqb-suc-zero (length cs))
    ∙ cond-false (c == 92) _ _ slash
    ∙ cond-false (is_template reading && c == 13) _ _ (and_right (is_template reading) (c == 13) return)

units_are : (reading : Reading) (text : List ℕ) → has 92 text ≡ false → has 13 text ≡ false → units_in (length text) reading text ≡ Some (map Byte text)
unfolding units_in
units_are reading [] slash return = refl
units_are reading (c ∷ cs) slash return =
    let escapes = or_parts (c == 92) (has 92 cs) slash in
    let returns = or_parts (c == 13) (has 13 cs) return in
    cond-false (suc (length cs) == 0) _ _ (eqb-suc-zero (length cs))
    ∙ ap (units_behind (units_in (length cs) reading)) (unit_is reading c cs escapes.0 returns.0)
    ∙ ap (λ (o : Option (List Unit)). units_behind (λ _. o) (Some (Byte c, cs))) (units_are reading cs escapes.1 returns.1)

bytes_are : (text : List ℕ) → encoded 0 (map Byte text) ≡ Some text
unfolding encoded joined
bytes_are [] = refl
bytes_are (c ∷ cs) = ap (option_map (λ rest. (c ∷ []) ++ rest)) (bytes_are cs)

pub plain_value : (reading : Reading) (text value : List ℕ) → is_plain text ≡ true → is_value (cooked reading text) value ≡ bytes_eq text value
plain_value reading text value h =
    let parts = and_parts (not (has 92 text)) (not (has 13 text)) h in
    let units = units_are reading text (not-true (has 92 text) parts.0) (not-true (has 13 text) parts.1) in
    ap (λ o. is_value (of_units o) value) units ∙ ap (λ o. is_value (of_bytes o) value) (bytes_are text)
