-- What a refusal names is lacking.
use Rattle.std.proofs.Common.{◌≡◌, Bool, true, false, IsTrue, ◌↔◌, Result, Err, sym, ◌∙◌, subst}
use Rattle.swc_tree_node.specs.declared.node.Node.{Node}
use Rattle.swc_tree_node.specs.declared.slot.Slot.{Slot}
use Rattle.text_checks.specs.declared.check.Lack.{Lack}
use Rattle.text_checks.specs.Checked.{Lacks}

err_same : {X : Type 0} {l k : Lack} → ◌≡◌ {A = Result X Lack} (Err l) (Err k) → l ≡ k
err_same h = cc

pub told : {X : Type 0} (s : Slot) (t : Node) (l : Lack) → Lacks s t l → (k : Lack) → ◌≡◌ {A = Result X Lack} (Err l) (Err k) → Lacks s t k
told s t l h k e = subst (Lacks s t) (err_same e) h

pub unmet : {P : Type 0} (b : Bool) → IsTrue b ↔ P → b ≡ false → P → ⊥
unmet b h n p = let never : false ≡ true = sym n ∙ h.1 p in absurd (cc)

pub met : {P : Type 0} (b : Bool) → IsTrue b ↔ P → b ≡ true → P
met b h e = h.0 e
