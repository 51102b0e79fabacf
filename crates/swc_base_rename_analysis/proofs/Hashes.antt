-- A hash of some numbers is that of the first, and then of the others.
use Rattle.std.proofs.Common.{◌≡◌, ℕ, List, [], ◌∷◌, sym, ap, ◌∙◌}
use Rattle.swc_base_rename_analysis.specs.Hashed.{mixed, mixed_all}

pub one_mixed : (all h h' n : ℕ) (ns rest : List ℕ) → all ≡ mixed_all h ns → ns ≡ n ∷ rest → h' ≡ mixed h n → all ≡ mixed_all h' rest
one_mixed all h h' n ns rest was is new = was ∙ ap (mixed_all h) is ∙ ap (λ h. mixed_all h rest) (sym new)

pub all_mixed : (all h : ℕ) (ns : List ℕ) → all ≡ mixed_all h ns → ns ≡ [] → h ≡ all
all_mixed all h ns was is = sym (was ∙ ap (mixed_all h) is)
