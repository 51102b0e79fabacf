-- The laws of short texts by use.
use Rattle.std.proofs.Common.{◌≡◌, ℕ, ◌<◌, ◌^◌, List, IsTrue, arith}
use Rattle.std.proofs.lemmas.Bool.Decides.{nat_tests}
use Rattle.swc_base_rename_substitution.specs.Names.{Id}
use Rattle.swc_tree_grammar.specs.Writable.{is_identifier_text}
use Rattle.swc_base_rename_by_use.specs.ShortLaws.{differ-short, identifier-short}
use Rattle.swc_base_rename_by_use.specs.ByUse.{held, moved, own, put_down, text_by_use}
use Rattle.swc_base_rename_by_use.specs.declared.by_use.TextsByUse.{TextsByUse}

pub held_itself : (n : ℕ) → n < 2 ^ 64 → held n ≡ n
held_itself n fits = grind (arith, nat_tests)

held-below : (n : ℕ) → held n < 2 ^ 64
held-below n = grind (arith, nat_tests)

moved-below : (first n : ℕ) → first < 2 ^ 64 → n < 2 ^ 64 → moved first n < 2 ^ 64
moved-below first n p q = grind (arith, nat_tests)

moved-injective : (first m n : ℕ) → moved first m ≡ moved first n → m ≡ n
moved-injective first m n e = grind (arith, nat_tests)

-- the counter whose short text it is
pub below : (texts : TextsByUse) (x : Id) (n : ℕ) → n < 2 ^ 64 → moved (own texts x) n < 2 ^ 64
below texts x n fits = moved-below (own texts x) n (held-below (put_down texts x)) fits

-- different counters give different texts
pub differ-by_use : (texts : TextsByUse) (x : Id) (m n : ℕ) → m < 2 ^ 64 → n < 2 ^ 64 → text_by_use texts x m ≡ text_by_use texts x n → m ≡ n
differ-by_use texts x m n p q e =
    moved-injective (own texts x) m n (differ-short (moved (own texts x) m) (moved (own texts x) n) (below texts x m p) (below texts x n q) e)

-- each is an identifier's
pub identifier-by_use : (texts : TextsByUse) (x : Id) (n : ℕ) → n < 2 ^ 64 → IsTrue (is_identifier_text (text_by_use texts x n))
identifier-by_use texts x n fits = identifier-short (moved (own texts x) n) (below texts x n fits)
