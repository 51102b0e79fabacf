-- How far a mark's ancestors are looked for.
use Rattle.std.proofs.Common.{◌≡◌, ◌↔◌, ℕ, zero, suc, ◌≤◌, ◌==◌, Bool, true, false, ◌||◌, inl, inr, refl, sym, ◌∙◌, subst, eq-eqb, eqb-true, arith}
use Rattle.std.proofs.lemmas.Bool.{or_cases}
use Rattle.swc_tree_marks.specs.Globals.{IsDescendant, IsTable, Table, parent_in}
use Rattle.swc_tree_marks.proofs.Ancestors.{IsDescendant-up, only_root_above_root, parent_in-below}
use Rattle.swc_base_rename_program.specs.Descends.{descends_within}

descends_to : (t : Table) (bound mark ancestor : ℕ) → descends_within bound t mark ancestor ≡ true → IsDescendant t mark ancestor
descends_to t zero mark ancestor h = (0, eqb-true mark ancestor h)
descends_to t (suc n) mark ancestor h = elim (or_cases (mark == ancestor) (descends_within n t (parent_in t mark) ancestor) h) [
  | inl here ↦ (0, eqb-true mark ancestor here)
  | inr above ↦ (let (steps, is) = descends_to t n (parent_in t mark) ancestor above in (suc steps, is))
]

either : (a b : Bool) → (a ≡ false → b ≡ true) → (a || b) ≡ true
either true b h = refl
either false b h = h refl

false_apart : (a b : ℕ) → (a == b) ≡ false → a ≡ b → ⊥
false_apart a b h e = let both : true ≡ false = sym (eq-eqb a b e) ∙ h in absurd (cc)

descends_by : (t : Table) → IsTable t → (bound mark ancestor : ℕ) → mark ≤ bound → IsDescendant t mark ancestor → descends_within bound t mark ancestor ≡ true
descends_by t ok zero mark ancestor l d =
    let root : mark ≡ 0 = omega (arith, l) in
    let top : ancestor ≡ 0 = only_root_above_root t ok ancestor (subst (λ m. IsDescendant t m ancestor) root d) in
    eq-eqb mark ancestor (root ∙ sym top)
descends_by t ok (suc n) mark ancestor l d =
    either (mark == ancestor) (descends_within n t (parent_in t mark) ancestor) (λ other.
    let not_root : mark ≡ 0 → ⊥ = λ root. false_apart mark ancestor other (root ∙ sym (only_root_above_root t ok ancestor (subst (λ m. IsDescendant t m ancestor) root d))) in
    let less = parent_in-below t ok mark not_root in
    descends_by t ok n (parent_in t mark) ancestor (omega (arith, less, l)) ((IsDescendant-up t mark ancestor (false_apart mark ancestor other)).0 d))

pub descends_is : (t : Table) → IsTable t → (mark ancestor : ℕ) → (descends_within mark t mark ancestor ≡ true) ↔ IsDescendant t mark ancestor
descends_is t ok mark ancestor = (descends_to t mark mark ancestor, descends_by t ok mark mark ancestor (omega arith))

pub same_answers : (a b : Bool) → (a ≡ true → b ≡ true) → (b ≡ true → a ≡ true) → a ≡ b
same_answers true b h g = sym (h refl)
same_answers false true h g = g refl
same_answers false false h g = refl
