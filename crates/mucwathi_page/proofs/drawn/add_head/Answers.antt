use Rattle.std.proofs.Common.{◌≡◌, ℕ, List, [], ◌∷◌, ◌++◌, ap, ◌∙◌, codes}
use Rattle.std.proofs.lemmas.List.{append_assoc}
use Rattle.mucwathi_page.specs.declared.drawn.TheConstants.{STYLE}
use Rattle.mucwathi_page.specs.Drawn.{as_html}
use Rattle.mucwathi_page.proofs.drawn.add_head.Goals as goal

-- six parts, one behind another
six_parts : (old a b c d e f one two three four five : List ℕ) → one ≡ old ++ a → two ≡ one ++ b → three ≡ two ++ c → four ≡ three ++ d → five ≡ four ++ (e ++ f) → five ≡ old ++ ((a ++ (b ++ (c ++ (d ++ e)))) ++ f)
six_parts old a b c d e f one two three four five h k l m n = n ∙ ap (λ (x : List ℕ). x ++ (e ++ f)) (m ∙ ap (λ (x : List ℕ). x ++ d) (l ∙ ap (λ (x : List ℕ). x ++ c) (k ∙ ap (λ (x : List ℕ). x ++ b) h))) ∙ simp append_assoc

pub returns : goal.returns
returns c =
    six_parts c.args.out.now.items (codes "<!DOCTYPE html>\n<html lang=en><meta charset=utf-8><title>") (as_html c.args.name.now) (codes "</title><style>") STYLE.now (codes "</style>") (codes "<pre>" ++ 10 ∷ []) c.extend_from_slice.new.self.items c.add_text.new.out.items c.extend_from_slice-2.new.self.items c.extend_from_slice-3.new.self.items c.extend_from_slice-4.new.self.items
    c.in_ok-extend_from_slice.ensures.items (c.in_ok-add_text.ensures ∙ ap (λ (x : List ℕ). c.extend_from_slice.new.self.items ++ as_html x) c.as_bytes.ensures.value) c.in_ok-extend_from_slice-2.ensures.items (c.in_ok-extend_from_slice-3.ensures.items ∙ ap (λ (x : List ℕ). c.extend_from_slice-2.new.self.items ++ x) c.as_bytes-2.ensures.value) c.in_ok-extend_from_slice-4.ensures.items
