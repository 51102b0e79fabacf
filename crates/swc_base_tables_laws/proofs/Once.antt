-- No two helpers have one name.
use Rattle.std.proofs.Common.{◌≡◌, ℕ, zero, suc, Bool, true, false, not, ◌&&◌, ◌==◌, Some, List, [], ◌∷◌, map, refl, sym, ap, ◌∙◌, cond}
use Rattle.std.specs.List.{filter, slice_get}
use Rattle.std.proofs.lemmas.Bool.{eqb-false}
use Rattle.swc_tree_node.proofs.Fit.{both}
use Rattle.swc_base_tables_helpers.specs.Table.{name_of, numbers_from, table}
use Rattle.swc_base_tables_program.specs.Given.{is_in, names_in}
use Rattle.swc_base_tables_laws.specs.Laws.{EachOnce}
use Rattle.swc_base_tables_laws.proofs.Declarers.{some_same}

impossible : {A : Type 0} → false ≡ true → A
impossible h = absurd (cc)

abbrev same : List ℕ → List ℕ → Bool
same [] [] = true
same (x ∷ xs) (y ∷ ys) = x == y && same xs ys
same _ _ = false

eq_self : (n : ℕ) → (n == n) ≡ true
eq_self n = at (n == n) refl
  where
    at : (b : Bool) → (n == n) ≡ b → (n == n) ≡ true
    at true e = e
    at false e = absurd (eqb-false n n e refl)

same-refl : (xs : List ℕ) → same xs xs ≡ true
same-refl [] = refl
same-refl (x ∷ xs) = ap (λ b. b && same xs xs) (eq_self x) ∙ same-refl xs

-- no text of the list is this one, and no two are one
abbrev none_like : List ℕ → List (List ℕ) → Bool
none_like x [] = true
none_like x (y ∷ ys) = not (same x y) && none_like x ys

abbrev all_apart : List (List ℕ) → Bool
all_apart [] = true
all_apart (x ∷ xs) = none_like x xs && all_apart xs

none_at : (x : List ℕ) (ys : List (List ℕ)) (j : ℕ) → none_like x ys ≡ true → slice_get ys j ≡ Some x → ⊥
none_at x [] j h e = absurd (cc)
none_at x (y ∷ ys) zero h e = impossible (sym (ap not (ap (same x) (some_same y x e) ∙ same-refl x)) ∙ (both (not (same x y)) (none_like x ys) h).0)
none_at x (y ∷ ys) (suc j) h e = none_at x ys j (both (not (same x y)) (none_like x ys) h).1 e

once_of : (xs : List (List ℕ)) → all_apart xs ≡ true → EachOnce xs
once_of [] h i j name e g = absurd (cc)
once_of (x ∷ xs) h zero zero name e g = refl
once_of (x ∷ xs) h zero (suc j) name e g = absurd (none_at x xs j (both (none_like x xs) (all_apart xs) h).0 (g ∙ ap (λ n. Some n) (sym (some_same x name e))))
once_of (x ∷ xs) h (suc i) zero name e g = absurd (none_at x xs i (both (none_like x xs) (all_apart xs) h).0 (e ∙ ap (λ n. Some n) (sym (some_same x name g))))
once_of (x ∷ xs) h (suc i) (suc j) name e g = ap suc (once_of xs (both (none_like x xs) (all_apart xs) h).1 i j name e g)

true_too : (a b : Bool) → a ≡ true → b ≡ true → (a && b) ≡ true
true_too a b h g = ap (λ a. a && b) h ∙ g

module _ (g : ℕ → List ℕ) (p : ℕ → Bool) where
  fewer_like : (x : List ℕ) (ns : List ℕ) → none_like x (map g ns) ≡ true → none_like x (map g (filter p ns)) ≡ true
  fewer_like x [] h = refl
  fewer_like x (n ∷ ns) h =
      let (first, rest) = both (not (same x (g n))) (none_like x (map g ns)) h in
      step (p n) first (fewer_like x ns rest)
    where
      step : (b : Bool) → not (same x (g n)) ≡ true → none_like x (map g (filter p ns)) ≡ true → none_like x (map g (cond b (n ∷ filter p ns) (filter p ns))) ≡ true
      step true f r = true_too (not (same x (g n))) (none_like x (map g (filter p ns))) f r
      step false f r = r

  fewer_apart : (ns : List ℕ) → all_apart (map g ns) ≡ true → all_apart (map g (filter p ns)) ≡ true
  fewer_apart [] h = refl
  fewer_apart (n ∷ ns) h =
      let (first, rest) = both (none_like (g n) (map g ns)) (all_apart (map g ns)) h in
      step (p n) (fewer_like (g n) ns first) (fewer_apart ns rest)
    where
      step : (b : Bool) → none_like (g n) (map g (filter p ns)) ≡ true → all_apart (map g (filter p ns)) ≡ true → all_apart (map g (cond b (n ∷ filter p ns) (filter p ns))) ≡ true
      step true f r = true_too (none_like (g n) (map g (filter p ns))) (all_apart (map g (filter p ns))) f r
      step false f r = r

table_apart : all_apart (map name_of (numbers_from 1 table)) ≡ true
unfolding table
table_apart = refl

pub names_once : (set : ℕ) → EachOnce (names_in set)
names_once set = once_of (names_in set) (fewer_apart name_of (is_in set) (numbers_from 1 table) table_apart)
