-- Leaves of which two fields are looked at.
use Rattle.std.proofs.Common.{◌≡◌, List, [], ◌∷◌, get_or, length, ap, ◌∙◌, arith}
use Rattle.swc_tree_node.specs.declared.kind.Kind.TheVariants as kind
use Rattle.swc_tree_node.specs.declared.node.Node.{Node}
use Rattle.swc_tree_node.specs.declared.node.Node.TheOpen.{Node-F}
use Rattle.text_checks.specs.Spelled.{is_bad_leaf, is_bad_regex, is_bad_string, is_bad_template}

pub string_fields : (ts : List Node) (a b : Node) → length ts ≡ 3 → a ≡ get_or ts 1 a → b ≡ get_or ts 2 b → is_bad_string a b ≡ is_bad_leaf (Node-F.Tree kind.Str ts)
string_fields (x ∷ y ∷ z ∷ []) a b l g h = ap (λ a. is_bad_string a b) g ∙ ap (is_bad_string y) h
string_fields [] a b l g h = absurd (omega (arith, l))
string_fields (x ∷ []) a b l g h = absurd (omega (arith, l))
string_fields (x ∷ y ∷ []) a b l g h = absurd (omega (arith, l))
string_fields (x ∷ y ∷ z ∷ w ∷ ws) a b l g h = absurd (omega (arith, l))

pub regex_fields : (ts : List Node) (a b : Node) → length ts ≡ 3 → a ≡ get_or ts 1 a → b ≡ get_or ts 2 b → is_bad_regex a b ≡ is_bad_leaf (Node-F.Tree kind.Regex ts)
regex_fields (x ∷ y ∷ z ∷ []) a b l g h = ap (λ a. is_bad_regex a b) g ∙ ap (is_bad_regex y) h
regex_fields [] a b l g h = absurd (omega (arith, l))
regex_fields (x ∷ []) a b l g h = absurd (omega (arith, l))
regex_fields (x ∷ y ∷ []) a b l g h = absurd (omega (arith, l))
regex_fields (x ∷ y ∷ z ∷ w ∷ ws) a b l g h = absurd (omega (arith, l))

pub template_fields : (ts : List Node) (a b : Node) → length ts ≡ 4 → a ≡ get_or ts 2 a → b ≡ get_or ts 3 b → is_bad_template a b ≡ is_bad_leaf (Node-F.Tree kind.TplElement ts)
template_fields (x ∷ y ∷ z ∷ v ∷ []) a b l g h = ap (λ a. is_bad_template a b) g ∙ ap (is_bad_template z) h
template_fields [] a b l g h = absurd (omega (arith, l))
template_fields (x ∷ []) a b l g h = absurd (omega (arith, l))
template_fields (x ∷ y ∷ []) a b l g h = absurd (omega (arith, l))
template_fields (x ∷ y ∷ z ∷ []) a b l g h = absurd (omega (arith, l))
template_fields (x ∷ y ∷ z ∷ v ∷ w ∷ ws) a b l g h = absurd (omega (arith, l))
