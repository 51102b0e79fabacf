-- Nodes that have as many fields as their kinds ask.
use Rattle.std.proofs.Common.{◌≡◌, Option, Some, List, [], ◌∷◌, length, refl, sym, ap, ◌∙◌, arith}
use Rattle.std.specs.List.{slice_get, slice_set}
use Rattle.swc_tree_marks.specs.declared.ident.Ident.{Ident}
use Rattle.swc_tree_node.specs.declared.kind.Kind.TheVariants as kind
use Rattle.swc_tree_node.specs.declared.node.Node.{Node, Tree}
use Rattle.swc_tree_scoping.specs.Shorthands.{key_of}
use Rattle.swc_base_rename_substitution.specs.Identifiers.{or_kept, with_default, with_other, written_out}
use Rattle.swc_base_rename_substitution.specs.Classes.{kept_class}

-- a class declaration has a name and a class
pub class_kept : (o : Option Ident) (i : Ident) (ts rest : List Node) (x name class' : Node) → o ≡ Some i → length ts ≡ 2 → slice_get ts 0 ≡ Some name → rest ≡ slice_set ts 0 x → slice_get rest 1 ≡ Some class'
    → (t : Node) → t ≡ kept_class (Some i) (name ∷ class' ∷ []) → t ≡ kept_class o ts
class_kept o i (a ∷ b ∷ []) rest x name class' k n e r g t h =
    let first : a ≡ name = cc in
    let second : b ≡ class' = let s : slice_get (x ∷ b ∷ []) 1 ≡ Some class' = ap (λ l. slice_get l 1) (sym r) ∙ g in cc in
    rw (k, first, second) h
class_kept o i [] rest x name class' k n e r g t h = absurd (cc)
class_kept o i (a ∷ []) rest x name class' k n e r g t h = absurd (omega arith)
class_kept o i (a ∷ b ∷ c ∷ cs) rest x name class' k n e r g t h = absurd (omega arith)

-- a property of a pattern has a target and a value
pub pattern_done : (i : Ident) (ts us vs ws : List Node) (x y target value new again k : Node) → length ts ≡ 3 → slice_get ts 1 ≡ Some target → us ≡ slice_set ts 1 x → slice_get us 2 ≡ Some value
    → vs ≡ slice_set us 2 y → new ≡ with_default i target value → ws ≡ slice_set vs 1 new → slice_get ws 1 ≡ Some again → k ≡ key_of i
    → (t : Node) → t ≡ Tree kind.KeyValuePatProp (k ∷ again ∷ []) → t ≡ written_out kind.AssignPatProp i ts
pattern_done i (a ∷ b ∷ c ∷ []) us vs ws x y target value new again k n e u f v d w g m t h =
    let second : b ≡ target = cc in
    let third : c ≡ value = let s : slice_get (a ∷ x ∷ c ∷ []) 2 ≡ Some value = ap (λ l. slice_get l 2) (sym u) ∙ f in cc in
    let put : ws ≡ a ∷ new ∷ y ∷ [] = rw (w, v, u) refl in
    let same : new ≡ again = let s : slice_get (a ∷ new ∷ y ∷ []) 1 ≡ Some again = ap (λ l. slice_get l 1) (sym put) ∙ g in cc in
    h ∙ rw (m, ← same, d, second, third) refl
pattern_done i [] us vs ws x y target value new again k n e u f v d w g m t h = absurd (cc)
pattern_done i (a ∷ []) us vs ws x y target value new again k n e u f v d w g m t h = absurd (omega arith)
pattern_done i (a ∷ b ∷ []) us vs ws x y target value new again k n e u f v d w g m t h = absurd (omega arith)
pattern_done i (a ∷ b ∷ c ∷ d' ∷ ds) us vs ws x y target value new again k n e u f v d w g m t h = absurd (omega arith)

-- a specifier has two names
pub other_done : (i : Ident) (ts us ws : List Node) (x other new : Node) → length ts ≡ 3 → slice_get ts 2 ≡ Some other → us ≡ slice_set ts 2 x → new ≡ or_kept i other → ws ≡ slice_set us 2 new
    → ws ≡ with_other i ts
other_done i (a ∷ b ∷ c ∷ []) us ws x other new n e u k w = let third : c ≡ other = cc in rw (w, u, k, third) refl
other_done i [] us ws x other new n e u k w = absurd (cc)
other_done i (a ∷ []) us ws x other new n e u k w = absurd (omega arith)
other_done i (a ∷ b ∷ []) us ws x other new n e u k w = absurd (omega arith)
other_done i (a ∷ b ∷ c ∷ d ∷ ds) us ws x other new n e u k w = absurd (omega arith)
