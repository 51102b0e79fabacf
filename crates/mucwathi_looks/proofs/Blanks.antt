-- Blanks under a line.
use Rattle.std.proofs.Common.{◌≡◌, ◌∙◌, ℕ, ◌+◌, ◌<◌, ◌≤◌, ◌++◌, List, ap, drop, get_or, length, sym}
use Rattle.std.proofs.lemmas.List.{append_assoc, append-nil, drop_all, drop_more}
use Rattle.mucwathi_looks.specs.Excerpts.{blank_for, blanks}

pub blanks_more : (part all now new : List ℕ) (i d : ℕ) → i < length part → new ≡ now ++ blank_for (get_or part i d) → now ++ blanks (drop i part) ≡ all → new ++ blanks (drop (i + 1) part) ≡ all
blanks_more part all now new i d within made h =
    let rest = blanks (drop (i + 1) part) in
    ap (λ l. l ++ rest) made ∙ append_assoc now (blank_for (get_or part i d)) rest ∙ ap (λ l. now ++ blanks l) (sym (drop_more part i d within)) ∙ h

pub blanks_done : (part all now : List ℕ) (i : ℕ) → length part ≤ i → now ++ blanks (drop i part) ≡ all → now ≡ all
blanks_done part all now i ended h = sym (append-nil now) ∙ ap (λ l. now ++ blanks l) (sym (drop_all i part ended)) ∙ h
