-- Elements of a pattern, one after another.
use Rattle.std.proofs.Common.{◌≡◌, ℕ, zero, suc, ◌+◌, Bool, true, false, ◌&&◌, ◌||◌, List, [], ◌∷◌, drop, length, Some, refl, sym, ap, ◌∙◌, add-one, arith, nat_eq}
use Rattle.std.specs.List.{slice_get}
use Rattle.std.proofs.lemmas.Bool.{eqb-true}
use Rattle.swc_tree_node.specs.declared.node.Node.{Node}
use Rattle.swc_tree_grammar.specs.Kinds.{has_kind, is_rest}
use Rattle.swc_tree_grammar.specs.Writable.{Round, elements, is_element, pattern_of}

or_true : (b : Bool) → (b || true) ≡ true
or_true true = refl
or_true false = refl

or_false : (b : Bool) → (b || false) ≡ b
or_false true = refl
or_false false = refl

-- an element is passed
pub passed : (r : Round) (ts : List Node) (i : ℕ) (c : Node) → slice_get ts i ≡ Some c → is_element r c ≡ true → elements r (drop i ts) ≡ elements r (drop (i + 1) ts)
passed r ts i c here now = rw add-one (next ts i here)
  where
    next : (ts : List Node) (i : ℕ) → slice_get ts i ≡ Some c → elements r (drop i ts) ≡ elements r (drop (suc i) ts)
    next [] i here = absurd (cc)
    next (t ∷ []) zero here =
        let is : t ≡ c = cc in
        ap (λ t. has_kind is_rest (pattern_of t) || is_element r t) is ∙ ap (λ b. has_kind is_rest (pattern_of c) || b) now ∙ or_true (has_kind is_rest (pattern_of c))
    next (t ∷ u ∷ ts) zero here =
        let is : t ≡ c = cc in
        ap (λ t. is_element r t && elements r (u ∷ ts)) is ∙ ap (λ b. b && elements r (u ∷ ts)) now
    next (t ∷ []) (suc i) here = next [] i here
    next (t ∷ u ∷ ts) (suc i) here = next (u ∷ ts) i here

-- what is none may be the rest at the end
pub at_end : (r : Round) (ts : List Node) (i : ℕ) (c : Node) → slice_get ts i ≡ Some c → is_element r c ≡ false → i + 1 ≡ length ts → has_kind is_rest (pattern_of c) ≡ elements r (drop i ts)
at_end r [] i c here other end = absurd (cc)
at_end r (t ∷ []) zero c here other end =
    let is : t ≡ c = cc in
    sym (ap (λ t. has_kind is_rest (pattern_of t) || is_element r t) is ∙ ap (λ b. has_kind is_rest (pattern_of c) || b) other ∙ or_false (has_kind is_rest (pattern_of c)))
at_end r (t ∷ u ∷ ts) zero c here other end = absurd (omega (arith, end))
at_end r (t ∷ ts) (suc i) c here other end = at_end r ts i c here other (omega (arith, end))

pub before_end : (r : Round) (ts : List Node) (i : ℕ) (c : Node) → slice_get ts i ≡ Some c → is_element r c ≡ false → (i + 1 ≡ length ts → ⊥) → false ≡ elements r (drop i ts)
before_end r [] i c here other more = absurd (cc)
before_end r (t ∷ []) zero c here other more = absurd (more (omega arith))
before_end r (t ∷ u ∷ ts) zero c here other more =
    let is : t ≡ c = cc in
    sym (ap (λ t. is_element r t && elements r (u ∷ ts)) is ∙ ap (λ b. b && elements r (u ∷ ts)) other)
before_end r (t ∷ ts) (suc i) c here other more = before_end r ts i c here other (λ e. more (omega (arith, e)))

-- the test of an index that is not the last
pub unequal : (n m : ℕ) (x : Bool) → (n ≡ m → ⊥) → false ≡ x → nat_eq n m ≡ x
unequal n m x apart e = by (nat_eq n m) refl
  where
    by : (b : Bool) → nat_eq n m ≡ b → nat_eq n m ≡ x
    by true h = absurd (apart (eqb-true n m h))
    by false h = h ∙ e
