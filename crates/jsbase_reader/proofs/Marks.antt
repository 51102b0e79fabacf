-- Whether a table of marks has a mark, as a test.
use Rattle.std.proofs.Common.{◌≡◌, ℕ, Bool, true, false, ◌==◌, nat_eq, ◌↔◌, IsTrue, inl, inr, refl, sym, subst, arith, ◌∙◌}
use Rattle.std.specs.List.{list_any}
use Rattle.std.specs.Cmp.{nat_eq_equiv}
use Rattle.std.proofs.lemmas.Map.Views.{list_any-from_Contains, Contains-from_any}
use Rattle.swc_tree_marks.specs.Globals.{Table, numbers, Knows}
use Rattle.jsbase_form.specs.Leaves.{is_marked}

pub same_number : (x y : ℕ) → nat_eq x y ≡ true → x ≡ y
same_number x y e = grind arith

in_table : (table : Table) (n : ℕ) (b found : Bool) → list_any (nat_eq n) (numbers table) ≡ found → (n ≡ 0 → ⊥) → (IsTrue b ↔ Knows table n) → b ≡ found
in_table table n true found is some h = elim (h.0 refl) [ inl root ↦ absurd (some root) | inr has ↦ sym (list_any-from_Contains nat_eq_equiv n (numbers table) has) ∙ is ]
in_table table n false true is some h = h.1 (inr (Contains-from_any same_number n (numbers table) is))
in_table table n false false is some h = refl

not_zero : (n : ℕ) → (n ≡ 0 → ⊥) → n == 0 ≡ false
not_zero n some = grind arith

pub marked_is : (table : Table) (n mark : ℕ) (b : Bool) → mark ≡ n → (n ≡ 0 → ⊥) → (IsTrue b ↔ Knows table mark) → b ≡ is_marked table n
marked_is table n mark b same some h = rw (not_zero n some) (in_table table n b _ refl some (subst (λ m. IsTrue b ↔ Knows table m) same h))
