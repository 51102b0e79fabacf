-- Lines and what is behind them.
use Rattle.std.proofs.Common.{◌≡◌, ℕ, ◌+◌, ◌<◌, ◌≤◌, List, [], ◌∷◌, ◌++◌, Option, map, drop, length, get_or, sym, ap, ◌∙◌, subst}
use Rattle.std.specs.Borrow.{Bor}
use Rattle.std.specs.List.{flat_map}
use Rattle.std.proofs.lemmas.List.{append_assoc, append-nil, drop_all, drop_more}
use Rattle.mucwathi_looks.specs.Reports.{IsReport, IsShown, line_of, place_text}

-- the parts from one on
abbrev left : List (Bor (List ℕ)) → ℕ → List ℕ
left parts i = flat_map (λ p. p) (map (λ (p : Bor (List ℕ)). p.now) (drop i parts))

pub part_more : (parts : List (Bor (List ℕ))) (i : ℕ) (d : Bor (List ℕ)) (now new bytes all : List ℕ) → i < length parts → bytes ≡ (get_or parts i d).now → new ≡ now ++ bytes → now ++ left parts i ≡ all → new ++ left parts (i + 1) ≡ all
part_more parts i d now new bytes all within text made h =
    let rest = left parts (i + 1) in
    ap (λ l. l ++ rest) made ∙ append_assoc now bytes rest ∙ ap (λ l. now ++ (l ++ rest)) text
    ∙ ap (λ (l : List (Bor (List ℕ))). now ++ flat_map (λ p. p) (map (λ (p : Bor (List ℕ)). p.now) l)) (sym (drop_more parts i d within)) ∙ h

pub parts_done : (parts : List (Bor (List ℕ))) (i : ℕ) (now all : List ℕ) → length parts ≤ i → now ++ left parts i ≡ all → now ≡ all
parts_done parts i now all ended h = sym (append-nil now) ∙ ap (λ (l : List (Bor (List ℕ))). now ++ flat_map (λ p. p) (map (λ (p : Bor (List ℕ)). p.now) l)) (sym (drop_all i parts ended)) ∙ h

pub line_done : (parts : List (Bor (List ℕ))) (old now new : List ℕ) → now ≡ old ++ left parts 0 → new ≡ now ++ 10 ∷ [] → new ≡ old ++ line_of (map (λ (p : Bor (List ℕ)). p.now) parts)
line_done parts old now new is made = made ∙ ap (λ l. l ++ 10 ∷ []) is ∙ append_assoc old (left parts 0) (10 ∷ [])

pub reported : (name text : List ℕ) (at : Option ℕ) (sentence place now out : List ℕ) → place ≡ place_text text at → now ≡ line_of (name ∷ place ∷ sentence ∷ []) → IsShown text at now out → IsReport name text at sentence out
reported name text at sentence place now out is made shown = subst (λ l. IsShown text at l out) (made ∙ ap (λ p. line_of (name ∷ p ∷ sentence ∷ [])) is) shown
