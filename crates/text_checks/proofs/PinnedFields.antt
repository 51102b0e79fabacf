-- Nodes of which one field is looked at twice, or two are.
use Rattle.std.proofs.Common.{◌≡◌, Bool, List, [], ◌∷◌, get_or, length, ap, ◌∙◌, arith}
use Rattle.swc_tree_node.specs.declared.kind.Kind.TheVariants as kind
use Rattle.swc_tree_node.specs.declared.node.Node.{Node}
use Rattle.swc_tree_node.specs.declared.node.Node.TheOpen.{Node-F}
use Rattle.text_checks.specs.declared.words.Words.{Words}
use Rattle.text_checks.specs.Pinned.{asks_nothing, is_astray, is_astray_head, is_grouped_right}
use Rattle.text_checks.specs.Words.{function_rule, of_function}

pub chain_fields : (ts : List Node) (a b : Node) → length ts ≡ 3 → a ≡ get_or ts 1 a → b ≡ get_or ts 2 b → asks_nothing a b ≡ is_astray (Node-F.Tree kind.OptChainExpr ts)
chain_fields (x ∷ y ∷ z ∷ []) a b l g h = ap (λ a. asks_nothing a b) g ∙ ap (asks_nothing y) h
chain_fields [] a b l g h = absurd (omega (arith, l))
chain_fields (x ∷ []) a b l g h = absurd (omega (arith, l))
chain_fields (x ∷ y ∷ []) a b l g h = absurd (omega (arith, l))
chain_fields (x ∷ y ∷ z ∷ w ∷ ws) a b l g h = absurd (omega (arith, l))

pub operator_fields : (ts : List Node) (a b : Node) → length ts ≡ 4 → a ≡ get_or ts 1 a → b ≡ get_or ts 3 b → is_grouped_right a b ≡ is_astray (Node-F.Tree kind.BinExpr ts)
operator_fields (x ∷ y ∷ z ∷ v ∷ []) a b l g h = ap (λ a. is_grouped_right a b) g ∙ ap (is_grouped_right y) h
operator_fields [] a b l g h = absurd (omega (arith, l))
operator_fields (x ∷ []) a b l g h = absurd (omega (arith, l))
operator_fields (x ∷ y ∷ []) a b l g h = absurd (omega (arith, l))
operator_fields (x ∷ y ∷ z ∷ []) a b l g h = absurd (omega (arith, l))
operator_fields (x ∷ y ∷ z ∷ v ∷ w ∷ ws) a b l g h = absurd (omega (arith, l))

pub key_head : (ts : List Node) (a : Node) → length ts ≡ 4 → a ≡ get_or ts 1 a → is_astray_head a ≡ is_astray (Node-F.Tree kind.ForInStmt ts)
key_head (x ∷ y ∷ z ∷ v ∷ []) a l g = ap is_astray_head g
key_head [] a l g = absurd (omega (arith, l))
key_head (x ∷ []) a l g = absurd (omega (arith, l))
key_head (x ∷ y ∷ []) a l g = absurd (omega (arith, l))
key_head (x ∷ y ∷ z ∷ []) a l g = absurd (omega (arith, l))
key_head (x ∷ y ∷ z ∷ v ∷ w ∷ ws) a l g = absurd (omega (arith, l))

pub value_head : (ts : List Node) (a : Node) → length ts ≡ 5 → a ≡ get_or ts 2 a → is_astray_head a ≡ is_astray (Node-F.Tree kind.ForOfStmt ts)
value_head (x ∷ y ∷ z ∷ v ∷ u ∷ []) a l g = ap is_astray_head g
value_head [] a l g = absurd (omega (arith, l))
value_head (x ∷ []) a l g = absurd (omega (arith, l))
value_head (x ∷ y ∷ []) a l g = absurd (omega (arith, l))
value_head (x ∷ y ∷ z ∷ []) a l g = absurd (omega (arith, l))
value_head (x ∷ y ∷ z ∷ v ∷ []) a l g = absurd (omega (arith, l))
value_head (x ∷ y ∷ z ∷ v ∷ u ∷ w ∷ ws) a l g = absurd (omega (arith, l))

pub flag_fields : (q : Words) (ts : List Node) (a b : Node) → length ts ≡ 5 → a ≡ get_or ts 3 a → b ≡ get_or ts 4 b
    → of_function a b ≡ function_rule q (Node-F.Tree kind.Function ts)
flag_fields q (x ∷ y ∷ z ∷ v ∷ u ∷ []) a b l g h = ap (λ a. of_function a b) g ∙ ap (of_function v) h
flag_fields q [] a b l g h = absurd (omega (arith, l))
flag_fields q (x ∷ []) a b l g h = absurd (omega (arith, l))
flag_fields q (x ∷ y ∷ []) a b l g h = absurd (omega (arith, l))
flag_fields q (x ∷ y ∷ z ∷ []) a b l g h = absurd (omega (arith, l))
flag_fields q (x ∷ y ∷ z ∷ v ∷ []) a b l g h = absurd (omega (arith, l))
flag_fields q (x ∷ y ∷ z ∷ v ∷ u ∷ w ∷ ws) a b l g h = absurd (omega (arith, l))
