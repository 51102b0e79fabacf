-- What the table says of lists of nodes, one node after another.
use Rattle.std.proofs.Common.{◌≡◌, ℕ, zero, suc, ◌+◌, ◌<◌, Bool, true, false, ◌&&◌, List, [], ◌∷◌, map, drop, length, get_or, Some, refl, sym, ap, ◌∙◌, add-one, arith}
use Rattle.std.specs.List.{slice_get}
use Rattle.std.proofs.lemmas.Option.{slice_get_read}
use Rattle.swc_tree_node.specs.declared.slot.Slot.{Slot}
use Rattle.swc_tree_node.specs.declared.slot.Field.{Field}
use Rattle.swc_tree_node.specs.declared.slot.Role.{Role}
use Rattle.swc_tree_node.specs.declared.node.Node.{Node}
use Rattle.swc_tree_node.specs.Fits.{all_fit, each_fits, fits}

and_false : (b : Bool) → (b && false) ≡ false
and_false true = refl
and_false false = refl

-- the place of a field of the table
pub slot_of : (ps : List Field) (i : ℕ) (d : Field) → i < length ps → slice_get (map (λ f. f.slot) ps) i ≡ Some (get_or ps i d).slot
slot_of [] i d h = absurd (omega arith)
slot_of (p ∷ ps) zero d h = refl
slot_of (p ∷ ps) (suc i) d h = slot_of ps i d (omega arith)

-- what stands in the place of a number, and behind it
next_item : (ts : List Node) (i : ℕ) (s : Slot) (t : Node) → slice_get ts i ≡ Some t → all_fit (map fits (drop i ts)) s ≡ (fits t s && all_fit (map fits (drop (suc i) ts)) s)
next_item [] i s t q = absurd (cc)
next_item (b ∷ ts) zero s t q =
    let node : b ≡ t = cc in
    ap (λ x. fits x s && all_fit (map fits ts) s) node
next_item (b ∷ ts) (suc i) s t q = next_item ts i s t q

pub item_fits : (ts : List Node) (i : ℕ) (s : Slot) (t : Node) → i < length ts → t ≡ get_or ts i t → fits t s ≡ true
    → all_fit (map fits (drop i ts)) s ≡ all_fit (map fits (drop (i + 1) ts)) s
item_fits ts i s t within is h =
    rw add-one (next_item ts i s t (slice_get_read ts (length ts) i t refl within is) ∙ ap (λ b. b && all_fit (map fits (drop (suc i) ts)) s) h)

pub item_misfits : (ts : List Node) (i : ℕ) (s : Slot) (t : Node) → i < length ts → t ≡ get_or ts i t → fits t s ≡ false
    → all_fit (map fits (drop i ts)) s ≡ false
item_misfits ts i s t within is h =
    next_item ts i s t (slice_get_read ts (length ts) i t refl within is) ∙ ap (λ b. b && all_fit (map fits (drop (suc i) ts)) s) h

pub all_items : (ts : List Node) (i : ℕ) (s : Slot) → i ≡ length ts → all_fit (map fits (drop i ts)) s ≡ true
all_items [] zero s e = refl
all_items [] (suc i) s e = absurd (omega (arith, e))
all_items (t ∷ ts) zero s e = absurd (omega (arith, e))
all_items (t ∷ ts) (suc i) s e = all_items ts i s (omega (arith, e))

next_field : (ss : List Slot) (ts : List Node) (i : ℕ) (s : Slot) (t : Node) → slice_get ss i ≡ Some s → slice_get ts i ≡ Some t
    → each_fits (drop i ss) (map fits (drop i ts)) ≡ (fits t s && each_fits (drop (suc i) ss) (map fits (drop (suc i) ts)))
next_field [] ts i s t p q = absurd (cc)
next_field (a ∷ ss) [] i s t p q = absurd (cc)
next_field (a ∷ ss) (b ∷ ts) zero s t p q =
    let place : a ≡ s = cc in
    let node : b ≡ t = cc in
    ap (λ x. fits b x && each_fits ss (map fits ts)) place ∙ ap (λ x. fits x s && each_fits ss (map fits ts)) node
next_field (a ∷ ss) (b ∷ ts) (suc i) s t p q = next_field ss ts i s t p q

pub field_fits : (ss : List Slot) (ts : List Node) (i : ℕ) (s : Slot) (t : Node) → i < length ts → slice_get ss i ≡ Some s → t ≡ get_or ts i t → fits t s ≡ true
    → each_fits (drop i ss) (map fits (drop i ts)) ≡ each_fits (drop (i + 1) ss) (map fits (drop (i + 1) ts))
field_fits ss ts i s t within p is h =
    rw add-one (next_field ss ts i s t p (slice_get_read ts (length ts) i t refl within is) ∙ ap (λ b. b && each_fits (drop (suc i) ss) (map fits (drop (suc i) ts))) h)

pub field_misfits : (ss : List Slot) (ts : List Node) (i : ℕ) (s : Slot) (t : Node) → i < length ts → slice_get ss i ≡ Some s → t ≡ get_or ts i t → fits t s ≡ false
    → each_fits (drop i ss) (map fits (drop i ts)) ≡ false
field_misfits ss ts i s t within p is h =
    next_field ss ts i s t p (slice_get_read ts (length ts) i t refl within is) ∙ ap (λ b. b && each_fits (drop (suc i) ss) (map fits (drop (suc i) ts))) h

-- other numbers of fields
pub misfits : (ps : List Field) (ts : List Node) → (length ps ≡ length ts → ⊥) → each_fits (map (λ f. f.slot) ps) (map fits ts) ≡ false
misfits [] [] h = absurd (h refl)
misfits [] (t ∷ ts) h = refl
misfits (p ∷ ps) [] h = refl
misfits (p ∷ ps) (t ∷ ts) h = ap (λ b. fits t p.slot && b) (misfits ps ts (λ e. h (ap suc e))) ∙ and_false (fits t p.slot)

-- as many fields, none of them left
pub all_passed : (ps : List Field) (ts : List Node) (i : ℕ) → i ≡ length ts → length ps ≡ length ts → each_fits (drop i (map (λ f. f.slot) ps)) (map fits (drop i ts)) ≡ true
all_passed [] [] zero e l = refl
all_passed [] [] (suc i) e l = absurd (omega (arith, e))
all_passed [] (t ∷ ts) i e l = absurd (omega (arith, l))
all_passed (p ∷ ps) [] i e l = absurd (omega (arith, l))
all_passed (p ∷ ps) (t ∷ ts) zero e l = absurd (omega (arith, e))
all_passed (p ∷ ps) (t ∷ ts) (suc i) e l = all_passed ps ts i (omega (arith, e)) (omega (arith, l))

-- the places of a kind
pub slots : (ps : List Field) → map (λ (f : Field). f.slot) ps ≡ map (λ (r : List ℕ × Slot × Role). r.1) (map (λ (f : Field). (f.key.now, f.slot, f.role)) ps)
slots [] = refl
slots (p ∷ ps) = ap (λ l. p.slot ∷ l) (slots ps)
