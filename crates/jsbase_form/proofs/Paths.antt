-- The text of a path, step by step.
use Rattle.std.proofs.Common.{◌≡◌, ℕ, List, [], ◌∷◌, ◌++◌, length, codes, refl, sym, ap, ◌∙◌, append_assoc, append-nil, arith}
use Rattle.std.proofs.lemmas.List.{reverse-append, map-append}
use Rattle.jsbase_form.specs.declared.path.Step.{Step}
use Rattle.jsbase_form.specs.Reads.{Path, part_text, parts_text, path_text}
use Rattle.jsbase_form.specs.Steps.{part_of, path_of}

-- the last of the list is the outermost step
pub path_of-push : (steps : List Step) (s : Step) → path_of (steps ++ s ∷ []) ≡ part_of s ∷ path_of steps
path_of-push steps s = rw (map-append, reverse-append) refl

pub text_begins : (text : List ℕ) (steps rest : List Step) (p : Path) → text ≡ codes "$" → rest ≡ steps → path_of steps ≡ p → text ++ parts_text (path_of rest) ≡ path_text p
text_begins text steps rest p e f g = cc

pub text_grows : (text more : List ℕ) (before rest : List Step) (s : Step) (p : Path) → text ++ parts_text (path_of before) ≡ path_text p → before ≡ rest ++ s ∷ [] → more ≡ text ++ part_text (part_of s)
    → more ++ parts_text (path_of rest) ≡ path_text p
text_grows text more before rest s p was split grown =
    ap (λ t. t ++ parts_text (path_of rest)) grown ∙ append_assoc text (part_text (part_of s)) (parts_text (path_of rest))
    ∙ ap (λ q. text ++ parts_text q) (sym (path_of-push rest s)) ∙ ap (λ b. text ++ parts_text (path_of b)) (sym split) ∙ was

pub text_ends : (text : List ℕ) (rest : List Step) (p : Path) → text ++ parts_text (path_of rest) ≡ path_text p → length rest ≡ 0 → text ≡ path_text p
text_ends text [] p was h = sym (append-nil text) ∙ was
text_ends text (s ∷ rest) p was h = absurd (omega arith)
