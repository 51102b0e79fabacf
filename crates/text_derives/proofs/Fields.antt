-- Rules of nodes of which two fields are looked at, and tests of a negation.
use Rattle.std.proofs.Common.{◌≡◌, Bool, true, false, not, List, [], ◌∷◌, get_or, length, refl, ap, ◌∙◌, arith}
use Rattle.swc_tree_node.specs.declared.kind.Kind.TheVariants as kind
use Rattle.swc_tree_node.specs.declared.node.Node.{Node}
use Rattle.swc_tree_node.specs.declared.node.Node.TheOpen.{Node-F}
use Rattle.text_derives.specs.declared.context.Context.{Context}
use Rattle.text_derives.specs.Rules.{for_of_rule, if_rule, loop_rule, statement_rule}

pub not_met : (b : Bool) → not b ≡ true → b ≡ false
not_met true h = absurd (cc)
not_met false h = refl

pub met : (b : Bool) → not b ≡ false → b ≡ true
met true h = refl
met false h = absurd (cc)

pub if_fields : (c : Context) (ts : List Node) (a b : Node) → length ts ≡ 4 → a ≡ get_or ts 2 a → b ≡ get_or ts 3 b → if_rule c a b ≡ statement_rule c (Node-F.Tree kind.IfStmt ts)
if_fields c (x ∷ y ∷ z ∷ v ∷ []) a b l g h = ap (λ a. if_rule c a b) g ∙ ap (if_rule c z) h
if_fields c [] a b l g h = absurd (omega (arith, l))
if_fields c (x ∷ []) a b l g h = absurd (omega (arith, l))
if_fields c (x ∷ y ∷ []) a b l g h = absurd (omega (arith, l))
if_fields c (x ∷ y ∷ z ∷ []) a b l g h = absurd (omega (arith, l))
if_fields c (x ∷ y ∷ z ∷ v ∷ u ∷ ts) a b l g h = absurd (omega (arith, l))

pub for_of_fields : (c : Context) (ts : List Node) (a b : Node) → length ts ≡ 5 → a ≡ get_or ts 1 a → b ≡ get_or ts 2 b → for_of_rule c a b ≡ loop_rule c (Node-F.Tree kind.ForOfStmt ts)
for_of_fields c (x ∷ y ∷ z ∷ v ∷ u ∷ []) a b l g h = ap (λ a. for_of_rule c a b) g ∙ ap (for_of_rule c y) h
for_of_fields c [] a b l g h = absurd (omega (arith, l))
for_of_fields c (x ∷ []) a b l g h = absurd (omega (arith, l))
for_of_fields c (x ∷ y ∷ []) a b l g h = absurd (omega (arith, l))
for_of_fields c (x ∷ y ∷ z ∷ []) a b l g h = absurd (omega (arith, l))
for_of_fields c (x ∷ y ∷ z ∷ v ∷ []) a b l g h = absurd (omega (arith, l))
for_of_fields c (x ∷ y ∷ z ∷ v ∷ u ∷ t ∷ ts) a b l g h = absurd (omega (arith, l))
