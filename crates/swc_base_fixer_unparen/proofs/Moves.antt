-- Moves in order.
use Rattle.std.proofs.Common.{◌≡◌, ℕ, zero, suc, ◌+◌, ◌<◌, Result, Ok, Err, List, [], ◌∷◌, ◌++◌, length, take, get_or, refl, sym, ap, ◌∙◌, subst, arith, add-one, append_assoc}
use Rattle.std.specs.List.{flat_map}
use Rattle.std.specs.Result.{IsErr}
use Rattle.std.proofs.lemmas.List.{append-nil}
use Rattle.swc_tree_comments.specs.declared.moves.Move.{Move}
use Rattle.swc_base_fixer_unparen.specs.Moves.{Moving, LeadTo, LeadPartlyTo, Moved}

lead_on : {C : Type 0} (R : Moving C) (c d e : C) (ms ns : List Move) → LeadTo R c ms d → LeadTo R d ns e → LeadTo R c (ms ++ ns) e
lead_on R c d e [] ns h g = subst (λ b. LeadTo R b ns e) h g
lead_on R c d e (m ∷ ms) ns h g = (h.0, h.1, lead_on R h.0 d e ms ns h.2 g)

-- the first of two moves was made, and the second refused
pub one_made : {C : Type 0} (R : Moving C) (c d e : C) (m n : Move) → R c m d → e ≡ d → LeadPartlyTo R c (m ∷ n ∷ []) e
one_made R c d e m n h g = (m ∷ [], n ∷ [], refl, (d, h, g))

pieces_at : {X : Type 0} (f : X → List Move) (xs : List X) (i : ℕ) (x o : X) → i < length xs → x ≡ get_or xs i o
    → (rest : List Move) × (flat_map f xs ≡ (flat_map f (take i xs) ++ f x) ++ rest) × (flat_map f (take (suc i) xs) ≡ flat_map f (take i xs) ++ f x)
pieces_at f [] i x o h g = absurd (omega arith)
pieces_at f (y ∷ xs) zero x o h g = (flat_map f xs, ap (λ z. f z ++ flat_map f xs) (sym g), append-nil (f y) ∙ ap f (sym g))
pieces_at f (y ∷ xs) (suc i) x o h g =
    let r = pieces_at f xs i x o (omega arith) g in (
      r.0,
      ap (λ ms. f y ++ ms) r.1 ∙ sym (append_assoc (f y) (flat_map f (take i xs) ++ f x) r.0) ∙ ap (λ ms. ms ++ r.0) (sym (append_assoc (f y) (flat_map f (take i xs)) (f x))),
      ap (λ ms. f y ++ ms) r.2 ∙ sym (append_assoc (f y) (flat_map f (take i xs)) (f x)),
    )

pub one_more : {C X : Type 0} (R : Moving C) (f : X → List Move) (c d e : C) (xs : List X) (i : ℕ) (x o : X) → i < length xs → x ≡ get_or xs i o
    → LeadTo R c (flat_map f (take i xs)) d → LeadTo R d (f x) e → LeadTo R c (flat_map f (take (i + 1) xs)) e
one_more R f c d e xs i x o h g a b =
    rw (add-one, (pieces_at f xs i x o h g).2) (lead_on R c d e (flat_map f (take i xs)) (f x) a b)

pub partly_more : {C X : Type 0} (R : Moving C) (f : X → List Move) (c d e : C) (xs : List X) (i : ℕ) (x o : X) → i < length xs → x ≡ get_or xs i o
    → LeadTo R c (flat_map f (take i xs)) d → LeadPartlyTo R d (f x) e → LeadPartlyTo R c (flat_map f xs) e
partly_more R f c d e xs i x o h g a b =
    let r = pieces_at f xs i x o h g in (
      flat_map f (take i xs) ++ b.0,
      b.1 ++ r.0,
      r.1 ∙ ap (λ ms. (flat_map f (take i xs) ++ ms) ++ r.0) b.2 ∙ ap (λ ms. ms ++ r.0) (sym (append_assoc (flat_map f (take i xs)) b.0 b.1)) ∙ append_assoc (flat_map f (take i xs) ++ b.0) b.1 r.0,
      lead_on R c d e (flat_map f (take i xs)) b.0 a b.3,
    )

pub refused : {C T E : Type 0} (R : Moving C) (c d : C) (ms : List Move) (r : Result T E) → IsErr r → LeadPartlyTo R c ms d → Moved R c ms d r
refused R c d ms (Ok t) h g = absurd (cc)
refused R c d ms (Err e) h g = g
