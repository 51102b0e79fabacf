-- Sites in three scopes, the second and the third beside one another.
use Rattle.std.proofs.Common.{◌≡◌, zero, suc, ◌≤◌, List, [], ◌∷◌, refl, ap, ◌∙◌, arith}
use Rattle.swc_base_rename_naming.specs.InOrder.{Site}
use Rattle.swc_base_rename_naming.specs.Inside.{IsInPreorder, scope_at}
use Rattle.gate_renamers.specs.Flat.{round}

abbrev pub three : List Site
three = (0, 0) ∷ (1, 1) ∷ (2, 2) ∷ []

pub in_order : IsInPreorder (λ s t. round s t) three
in_order zero j k p q r h = refl
in_order (suc zero) zero k p q r h = absurd (let no : 1 ≤ 0 = p in omega (arith, no))
in_order (suc zero) (suc zero) k p q r h = refl
in_order (suc zero) (suc (suc j)) k p q r h = let e : suc (suc j) ≡ k = omega (arith, q, r) in ap (λ m. round 1 (scope_at three m)) e ∙ h
in_order (suc (suc zero)) j k p q r h = let e : j ≡ k = omega (arith, p, q, r) in ap (λ m. round 2 (scope_at three m)) e ∙ h
in_order (suc (suc (suc i))) j k p q r h = absurd (omega (arith, p, q, r))
