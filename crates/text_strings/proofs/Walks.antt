-- Digits in braces, one at a time.
use Rattle.std.proofs.Common.{◌≡◌, ℕ, ◌<◌, ◌≤◌, ◌+◌, ◌*◌, ◌==◌, Some, None, cond, List, length, drop, get_or, refl}
use Rattle.std.specs.Prelude.{nat_lt}
use Rattle.std.specs.Char.{digit_value, is_ascii_hexdigit}
use Rattle.std.proofs.lemmas.List.{drop_more, drop_all}
use Rattle.text_strings.specs.Escapes.{braced_from}

pub braced_from_drop : (value : ℕ) (xs : List ℕ) (i : ℕ) → i < length xs
    → let c = get_or xs i 0 in
    braced_from value (drop i xs) ≡ cond (is_ascii_hexdigit c) (cond (nat_lt (value * 16 + digit_value c) 0x110000) (braced_from (value * 16 + digit_value c) (drop (i + 1) xs)) None) (cond (c == 125) (Some (value, drop (i + 1) xs)) None)
unfolding braced_from
braced_from_drop value xs i h = rw (drop_more xs i 0 h) refl

pub braced_from_end : (value : ℕ) (xs : List ℕ) (i : ℕ) → length xs ≤ i → braced_from value (drop i xs) ≡ None
unfolding braced_from
braced_from_end value xs i h = rw (drop_all i xs h) refl
