-- The renamer of hygiene is lawful, and gives the texts of global values to none but themselves.
use Rattle.std.proofs.Common.{◌≡◌, ℕ, Bool, true, false, ◌||◌, IsTrue, List, codes, refl, ap, ◌∙◌}
use Rattle.std.specs.Str.{bytes_eq}
use Rattle.std.proofs.lemmas.Slice.Eq.{bytes_eq-Decides}
use Rattle.swc_tree_node.specs.declared.node.Node.{Node}
use Rattle.swc_tree_scoping.specs.Resolved.{is_global_value}
use Rattle.swc_base_rename_program.specs.Lower.swc_base_rename_naming.specs.Texts.{numbered}
use Rattle.swc_base_rename_program.specs.Lower.swc_base_rename_naming.specs.TextLaws.{ends_in_digit, identifier-numbered, word-numbered}
use Rattle.swc_base_rename_program.specs.Renamed.{hygiene_renaming}
use Rattle.swc_base_renaming_laws.specs.Hygiene.{HygieneIsLawful, HygieneSparesGlobalValues}
use Rattle.swc_base_renaming_laws.specs.Renamers.{KeepsTopApart}

pub hygiene_is_lawful : HygieneIsLawful
hygiene_is_lawful = record {
  identifiers = λ x n fits. identifier-numbered x.0 n fits;
  no_eval = λ x n fits. word-numbered x.0 (codes "eval") n fits refl;
  no_arguments = λ x n fits. word-numbered x.0 (codes "arguments") n fits refl;
}

-- none of the three ends in a digit
no_digit_ends : (x : List ℕ) → IsTrue (is_global_value x) → ends_in_digit x ≡ false
no_digit_ends x h = by (bytes_eq x (codes "undefined")) refl (bytes_eq x (codes "NaN")) refl h
  where
    is : (word : List ℕ) → bytes_eq x word ≡ true → ends_in_digit word ≡ false → ends_in_digit x ≡ false
    is word e none = ap ends_in_digit ((bytes_eq-Decides x word).0 e) ∙ none

    by : (a : Bool) → bytes_eq x (codes "undefined") ≡ a → (b : Bool) → bytes_eq x (codes "NaN") ≡ b → IsTrue (a || (b || bytes_eq x (codes "Infinity"))) → ends_in_digit x ≡ false
    by true e b f h = is (codes "undefined") e refl
    by false e true f h = is (codes "NaN") f refl
    by false e false f h = is (codes "Infinity") h refl

pub hygiene_spares_global_values : HygieneSparesGlobalValues
hygiene_spares_global_values x n fits h = word-numbered x.0 (numbered x.0 n) n fits (no_digit_ends (numbered x.0 n) h) refl

-- it preserves no id
pub none_kept : (t : Node) → KeepsTopApart hygiene_renaming t
none_kept t is x y d e f g same = let never : false ≡ true = f in absurd (cc)
