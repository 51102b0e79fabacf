-- An id's own label tells the id; and labels keep texts.
use Rattle.std.proofs.Common.{◌≡◌, ℕ, zero, suc, Bool, true, false, Option, Some, None, List, [], ◌∷◌, ◌++◌, length, take, drop, refl, sym, ap, ◌∙◌}
use Rattle.std.specs.Prelude.{nat_eq, option_map, if◌then◌else◌}
use Rattle.std.specs.Cmp.Lexicographic.{pointwise}
use Rattle.swc_tree_renaming.proofs.Shape.{twice}
use Rattle.swc_tree_grammar_texts.proofs.Cleared.{bare}
use Rattle.swc_base_rename_substitution.specs.Names.{Id, if_other_text}
use Rattle.swc_base_renaming_laws.specs.Contexts.{LabelsCarryTexts, LabelsKeepTexts, id_of_label, new_text, own_label, with_label}
use Rattle.swc_base_renaming_laws.proofs.Relabelled.{labelled}

taken : (xs ys : List ℕ) → take (length xs) (xs ++ ys) ≡ xs
taken [] ys = refl
taken (x ∷ xs) ys = ap (λ zs. x ∷ zs) (taken xs ys)

dropped : (xs ys : List ℕ) → drop (length xs) (xs ++ ys) ≡ ys
dropped [] ys = refl
dropped (x ∷ xs) ys = dropped xs ys

told : (x : Id) → id_of_label (own_label x) ≡ x
told x = let first = taken x.0 x.1 in let second = dropped x.0 x.1 in λ i. (first i, second i)

text_if : (b : Bool) (text c d : List ℕ) → new_text (if b then None else Some (text, c)) ≡ new_text (if b then None else Some (text, d))
text_if true text c d = refl
text_if false text c d = refl

text_same : (x z : Id) (o : Option (List ℕ)) → z.0 ≡ x.0
    → new_text (if_other_text z (option_map (λ text. (text, z.1)) o)) ≡ new_text (if_other_text x (option_map (λ text. (text, [])) o))
text_same x z None e = refl
text_same x z (Some text) e = ap (λ y. new_text (if pointwise nat_eq text y then None else Some (text, z.1))) e ∙ text_if (pointwise nat_eq text x.0) text z.1 []

pub labels_carry_texts : LabelsCarryTexts
labels_carry_texts new_texts = record {
  apart = λ x y e f. sym (told x) ∙ ap id_of_label f ∙ told y;
  texts = λ x.
      (let z : Id = with_label own_label x in
      ap (λ (y : Id). new_text (if_other_text z (option_map (λ text. (text, z.1)) (new_texts (x.0, y.1))))) (told x) ∙ text_same x z (new_texts x) refl);
}

pub labels_keep_texts : LabelsKeepTexts
labels_keep_texts label t = twice (labelled label) bare t
