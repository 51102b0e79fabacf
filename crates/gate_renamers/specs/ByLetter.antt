-- Texts of a letter and a number.
use Rattle.std.proofs.Common.{◌≡◌, ℕ, ◌+◌, ◌<◌, ◌%◌, ◌/◌, ◌^◌, ◌==◌, false, List, [], ◌∷◌, length, IsTrue, arith}
use Rattle.std.proofs.lemmas.Bool.Decides.{nat_tests}
use Rattle.swc_tree_grammar.specs.Writable.{is_identifier_text}
use Rattle.swc_base_rename_naming.specs.Texts.{numbered}
use Rattle.swc_base_rename_naming.specs.TextLaws.{differ-letters, ends_in_digit, identifier-letter, identifier-numbered, no_word-letter}

-- one of the 26 letters, and how often all of them were used before, if ever
abbrev pub by_letter : ℕ → List ℕ
by_letter n = numbered ((97 + n % 26) ∷ []) (n / 26)

pub differ-by_letter : (m n : ℕ) → m < 2 ^ 64 → n < 2 ^ 64 → by_letter m ≡ by_letter n → m ≡ n
differ-by_letter m n p q e =
    let same = differ-letters (97 + m % 26) (97 + n % 26) (m / 26) (n / 26) (omega arith) (omega arith) e in
    omega arith

pub identifier-by_letter : (n : ℕ) → n < 2 ^ 64 → IsTrue (is_identifier_text (by_letter n))
identifier-by_letter n fits = identifier-numbered ((97 + n % 26) ∷ []) (n / 26) (omega arith) (identifier-letter (97 + n % 26) (grind (arith, nat_tests)))

pub no_word : {A : Type 0} (n : ℕ) (word : List ℕ) → n < 2 ^ 64 → ends_in_digit word ≡ false → (length word == 1) ≡ false → by_letter n ≡ word → A
no_word n word fits no_digit longer e = no_word-letter (97 + n % 26) (n / 26) word (omega arith) no_digit longer e
