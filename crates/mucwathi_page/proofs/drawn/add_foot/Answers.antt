use Rattle.std.proofs.Common.{◌≡◌, ℕ, List, ◌++◌, ap, ◌∙◌, codes}
use Rattle.std.proofs.lemmas.List.{append_assoc}
use Rattle.mucwathi_page.specs.declared.drawn.TheConstants.{SCRIPT}
use Rattle.mucwathi_page.proofs.drawn.add_foot.Goals as goal

-- four parts, one behind another
four_parts : (old a b c d one two three four : List ℕ) → one ≡ old ++ a → two ≡ one ++ b → three ≡ two ++ c → four ≡ three ++ d → four ≡ old ++ (a ++ (b ++ (c ++ d)))
four_parts old a b c d one two three four h k l m = m ∙ ap (λ (x : List ℕ). x ++ d) (l ∙ ap (λ (x : List ℕ). x ++ c) (k ∙ ap (λ (x : List ℕ). x ++ b) h)) ∙ simp append_assoc

pub returns : goal.returns
returns c =
    four_parts c.args.out.now.items (codes "</pre>") (codes "<p>Point at a name: its uses, and the other names of its scope.</p><script>") SCRIPT.now (codes "</script></html>\n") c.extend_from_slice.new.self.items c.extend_from_slice-2.new.self.items c.extend_from_slice-3.new.self.items c.extend_from_slice-4.new.self.items
    c.in_ok-extend_from_slice.ensures.items c.in_ok-extend_from_slice-2.ensures.items (c.in_ok-extend_from_slice-3.ensures.items ∙ ap (λ (x : List ℕ). c.extend_from_slice-2.new.self.items ++ x) c.as_bytes.ensures.value) c.in_ok-extend_from_slice-4.ensures.items
