-- A list that is joined of parts has what a part has.
use Rattle.std.proofs.Common.{List, ◌++◌, ◌↔◌, ◌⊎◌, inl, inr, Contains}
use Rattle.std.proofs.lemmas.List.Elements.{Contains-append_left, Contains-append_right, Contains-append_cases}

pub along : {P Q R : Type 0} → P ↔ Q → Q ↔ R → P ↔ R
along first second = (λ p. second.0 (first.0 p), λ r. first.1 (second.1 r))

pub both : {X P Q : Type 0} → (xs ys : List X) (x : X) → P ↔ Contains xs x → Q ↔ Contains ys x → (P ⊎ Q) ↔ Contains (xs ++ ys) x
both xs ys x first second = (
  λ either. elim either [ inl p ↦ Contains-append_left xs ys x (first.0 p) | inr q ↦ Contains-append_right xs ys x (second.0 q) ],
  λ has. elim (Contains-append_cases xs ys x has) [ inl left ↦ inl (first.1 left) | inr right ↦ inr (second.1 right) ],
)

itself : {P : Type 0} → P ↔ P
itself = (λ p. p, λ p. p)

pub four : {X : Type 0} → (a b c d : List X) (x : X) → (Contains a x ⊎ Contains b x ⊎ Contains c x ⊎ Contains d x) ↔ Contains (a ++ (b ++ (c ++ d))) x
four a b c d x = both a (b ++ (c ++ d)) x itself (both b (c ++ d) x itself (both c d x itself itself))
