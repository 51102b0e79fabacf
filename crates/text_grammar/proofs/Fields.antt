-- Nodes of which two fields or more are looked at.
use Rattle.std.proofs.Common.{◌≡◌, not, ◌||◌, List, [], ◌∷◌, get_or, length, ap, ◌∙◌, arith}
use Rattle.swc_tree_node.specs.declared.kind.Kind.TheVariants as kind
use Rattle.swc_tree_node.specs.declared.node.Node.{Node}
use Rattle.swc_tree_node.specs.declared.node.Node.TheOpen.{Node-F}
use Rattle.swc_tree_grammar.specs.Shapes.{items_of}
use Rattle.text_grammar.specs.Shaped.{is_export, is_misshapen, is_misshapen_item, is_misshapen_member, is_odd_accessor, is_odd_call, is_odd_method}

pub call_fields : (ts : List Node) (a b : Node) → length ts ≡ 3 → a ≡ get_or ts 1 a → b ≡ get_or ts 2 b → is_odd_call a b ≡ is_misshapen (Node-F.Tree kind.CallExpr ts)
call_fields (x ∷ y ∷ z ∷ []) a b l g h = ap (λ a. is_odd_call a b) g ∙ ap (is_odd_call y) h
call_fields [] a b l g h = absurd (omega (arith, l))
call_fields (x ∷ []) a b l g h = absurd (omega (arith, l))
call_fields (x ∷ y ∷ []) a b l g h = absurd (omega (arith, l))
call_fields (x ∷ y ∷ z ∷ w ∷ ws) a b l g h = absurd (omega (arith, l))

pub export_fields : (ts : List Node) (a b c : Node) → length ts ≡ 4 → a ≡ get_or ts 1 a → b ≡ get_or ts 2 b → c ≡ get_or ts 3 c → not (is_export (items_of a) b c) ≡ is_misshapen_item (Node-F.Tree kind.NamedExport ts)
export_fields (x ∷ y ∷ z ∷ v ∷ []) a b c l f g h =
    ap (λ a. not (is_export (items_of a) b c)) f ∙ ap (λ b. not (is_export (items_of y) b c)) g ∙ ap (λ c. not (is_export (items_of y) z c)) h
export_fields [] a b c l f g h = absurd (omega (arith, l))
export_fields (x ∷ []) a b c l f g h = absurd (omega (arith, l))
export_fields (x ∷ y ∷ []) a b c l f g h = absurd (omega (arith, l))
export_fields (x ∷ y ∷ z ∷ []) a b c l f g h = absurd (omega (arith, l))
export_fields (x ∷ y ∷ z ∷ v ∷ w ∷ ws) a b c l f g h = absurd (omega (arith, l))

pub method_fields : (ts : List Node) (a b c d : Node) → length ts ≡ 5 → a ≡ get_or ts 1 a → b ≡ get_or ts 2 b → c ≡ get_or ts 3 c → d ≡ get_or ts 4 d
    → (is_odd_accessor b c || is_odd_method a d) ≡ is_misshapen_member (Node-F.Tree kind.ClassMethod ts)
method_fields (x ∷ y ∷ z ∷ v ∷ u ∷ []) a b c d l e f g h =
    ap (λ a. is_odd_accessor b c || is_odd_method a d) e ∙ ap (λ b. is_odd_accessor b c || is_odd_method y d) f ∙ ap (λ c. is_odd_accessor z c || is_odd_method y d) g
    ∙ ap (λ d. is_odd_accessor z v || is_odd_method y d) h
method_fields [] a b c d l e f g h = absurd (omega (arith, l))
method_fields (x ∷ []) a b c d l e f g h = absurd (omega (arith, l))
method_fields (x ∷ y ∷ []) a b c d l e f g h = absurd (omega (arith, l))
method_fields (x ∷ y ∷ z ∷ []) a b c d l e f g h = absurd (omega (arith, l))
method_fields (x ∷ y ∷ z ∷ v ∷ []) a b c d l e f g h = absurd (omega (arith, l))
method_fields (x ∷ y ∷ z ∷ v ∷ u ∷ w ∷ ws) a b c d l e f g h = absurd (omega (arith, l))
