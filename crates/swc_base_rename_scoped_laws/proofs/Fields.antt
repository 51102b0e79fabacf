-- What stands in a field or in a list fits there.
use Rattle.std.proofs.Common.{◌≡◌, ℕ, zero, suc, not, ◌&&◌, IsTrue, Some, List, [], ◌∷◌, map, refl, sym, ap, ◌∙◌, subst, Bool, true, ◌==◌, arith}
use Rattle.std.specs.List.{slice_get}
use Rattle.swc_tree_node.specs.declared.kind.Kind.{Kind}
use Rattle.swc_tree_node.specs.declared.slot.Content.TheVariants as content
use Rattle.swc_tree_node.specs.declared.slot.Slot.{Slot}
use Rattle.swc_tree_node.specs.declared.slot.Slot.TheVariants as slot
use Rattle.swc_tree_node.specs.declared.node.Node.{Node, out-Node, map-Node, fold_out-Node}
use Rattle.swc_tree_node.specs.declared.node.Node.TheOpen.{Node-F}
use Rattle.swc_tree_node.specs.Table.{fields_of, slots_of, is_identifier}
use Rattle.swc_tree_node.specs.Fits.{AllFit, FieldsFit, Fits, Test, belongs, each_fits, fit_step, fits, single, tree_fits, list_fits}
use Rattle.swc_tree_node.proofs.Fit.{all_open, both, fields_open}
use Rattle.swc_tree_scoping.specs.Places.{child, children_in}
use Rattle.swc_tree_sites.proofs.Leaves.{Field}

-- said apart, since `grind` looks at all that is known where it stands
pub same_number : (m n : ℕ) → (m == n) ≡ true → m ≡ n
same_number m n e = grind arith

pub layer : (t : Node) (y : Node-F Node) (s : Slot) → out-Node t ≡ y → Fits t s → IsTrue (fit_step (map-Node Node Test fits y) s)
layer t y s o h = subst (λ (f : Test). IsTrue (f s)) (fold_out-Node Test fit_step t ∙ ap (λ y. fit_step (map-Node Node Test fits y)) o) h

fields_fit : (k : Kind) (fs : List Test) (s : Slot) → IsTrue (tree_fits k fs (single s)) → IsTrue (each_fits (slots_of k) fs)
fields_fit k fs (slot.One (content.Node c)) h = (both (belongs k c) (each_fits (slots_of k) fs) (both (not (is_identifier k)) (belongs k c && each_fits (slots_of k) fs) h).1).1
fields_fit k fs (slot.Optional (content.Node c)) h = (both (belongs k c) (each_fits (slots_of k) fs) (both (not (is_identifier k)) (belongs k c && each_fits (slots_of k) fs) h).1).1
fields_fit k fs (slot.One _) h = absurd (cc)
fields_fit k fs (slot.Optional _) h = absurd (cc)
fields_fit k fs _ h = absurd (cc)

all_at : (s : Slot) (ts : List Node) (i : ℕ) (c : Node) → AllFit s ts → slice_get ts i ≡ Some c → Fits c s
all_at s [] i c h e = absurd (cc)
all_at s (t ∷ ts) zero c h e = let same : t ≡ c = cc in subst (λ c. Fits c s) same h.0
all_at s (t ∷ ts) (suc i) c h e = all_at s ts i c h.1 e

text_at : (ts : List Node) (i : ℕ) (c : Node) → FieldsFit (slot.One content.Text ∷ slot.One content.Text ∷ []) ts → slice_get ts i ≡ Some c → Fits c (slot.One content.Text)
text_at [] i c h e = absurd h
text_at (t ∷ []) i c h e = absurd h.1
text_at (t ∷ u ∷ []) zero c h e = let same : t ≡ c = cc in subst (λ c. Fits c (slot.One content.Text)) same h.0
text_at (t ∷ u ∷ []) (suc zero) c h e = let same : u ≡ c = cc in subst (λ c. Fits c (slot.One content.Text)) same h.1.0
text_at (t ∷ u ∷ []) (suc (suc i)) c h e = absurd (cc)
text_at (t ∷ u ∷ v ∷ ts) i c h e = absurd h.1.1

field_in : (fs : List Field) (ts : List Node) (i : ℕ) (c : Node) → FieldsFit (map (λ f. f.1) fs) ts → slice_get ts i ≡ Some c → (f : Field) × (slice_get fs i ≡ Some f) × Fits c f.1
field_in [] [] i c h e = absurd (cc)
field_in [] (t ∷ ts) i c h e = absurd h
field_in (f ∷ fs) [] i c h e = absurd h
field_in (f ∷ fs) (t ∷ ts) zero c h e = let same : t ≡ c = cc in (f, refl, subst (λ c. Fits c f.1) same h.0)
field_in (f ∷ fs) (t ∷ ts) (suc i) c h e = field_in fs ts i c h.1 e

-- the fields
pub fields_at : (t : Node) (k : Kind) (ts : List Node) (s : Slot) → out-Node t ≡ Node-F.Tree k ts → Fits t s → FieldsFit (slots_of k) ts
fields_at t k ts s o h = fields_open (slots_of k) ts (fields_fit k (map fits ts) s (layer t (Node-F.Tree k ts) s o h))

-- a field
pub field_at : (t c : Node) (k : Kind) (ts : List Node) (s : Slot) (i : ℕ) → out-Node t ≡ Node-F.Tree k ts → Fits t s → child t i ≡ Some c → (f : Field) × (slice_get (fields_of k) i ≡ Some f) × Fits c f.1
field_at t c k ts s i o h e =
    field_in (fields_of k) ts i c (fields_open (slots_of k) ts (fields_fit k (map fits ts) s (layer t (Node-F.Tree k ts) s o h))) (sym (ap (λ y. slice_get (children_in y) i) o) ∙ e)

-- the slots of a list's items
abbrev pub item_of : Slot → Slot → Type 0
item_of (slot.List x) u = u ≡ slot.One x
item_of (slot.Holes x) u = u ≡ slot.Optional x
item_of (slot.OptionalList x) u = u ≡ slot.One x
item_of slot.Pair u = u ≡ slot.One content.Text
item_of slot.Pairs u = u ≡ slot.Pair
item_of _ u = ⊥

item_in : (s : Slot) (ts : List Node) (i : ℕ) (c : Node) → IsTrue (list_fits (map fits ts) s) → slice_get ts i ≡ Some c → (u : Slot) × Fits c u × item_of s u
item_in (slot.List x) ts i c h e = (slot.One x, all_at (slot.One x) ts i c (all_open (slot.One x) ts h) e, refl)
item_in (slot.Holes x) ts i c h e = (slot.Optional x, all_at (slot.Optional x) ts i c (all_open (slot.Optional x) ts h) e, refl)
item_in (slot.OptionalList x) ts i c h e = (slot.One x, all_at (slot.One x) ts i c (all_open (slot.One x) ts h) e, refl)
item_in slot.Pair ts i c h e = (slot.One content.Text, text_at ts i c (fields_open (slot.One content.Text ∷ slot.One content.Text ∷ []) ts h) e, refl)
item_in slot.Pairs ts i c h e = (slot.Pair, all_at slot.Pair ts i c (all_open slot.Pair ts h) e, refl)
item_in (slot.One x) ts i c h e = absurd (cc)
item_in (slot.Optional x) ts i c h e = absurd (cc)

-- an item
pub item_at : (t c : Node) (ts : List Node) (s : Slot) (i : ℕ) → out-Node t ≡ Node-F.List ts → Fits t s → child t i ≡ Some c → (u : Slot) × Fits c u × item_of s u
item_at t c ts s i o h e = item_in s ts i c (layer t (Node-F.List ts) s o h) (sym (ap (λ y. slice_get (children_in y) i) o) ∙ e)
