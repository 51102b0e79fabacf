-- What the second step makes of the head of a `for` of.
use Rattle.std.proofs.Common.{◌≡◌, Bool, not, ◌&&◌, List, [], ◌∷◌, Some, length, slice_set, get_or, refl, sym, ap, ◌∙◌, arith}
use Rattle.std.specs.Prelude.{if◌then◌else◌}
use Rattle.std.specs.List.{slice_get}
use Rattle.swc_tree_node.specs.declared.kind.Kind.TheVariants as kind
use Rattle.swc_tree_node.specs.declared.node.Node.{Node, Absent, Tree, out-Node}
use Rattle.swc_tree_node.specs.declared.node.Node.TheOpen.{Node-F}
use Rattle.swc_tree_grammar.specs.Forms.{holds}
use Rattle.swc_tree_grammar.specs.Grammar.{is_async_name}
use Rattle.swc_tree_grammar.specs.Due.{Places, async_in, pair}
use Rattle.swc_base_fixer_due.specs.Heads.{as_expression, of_headed}

named_in : (p : Places) (w : Bool) (t : Node) (x : Node-F Node) → out-Node t ≡ x → async_in p w t x ≡ (if is_async_name t && not w then pair p (as_expression t x) else t)
named_in p w t (Node-F.Identifier k i) h = refl
named_in p w t x h = rw h refl

pub by_name : (p : Places) (w : Bool) (t : Node) → async_in p w t (out-Node t) ≡ (if is_async_name t && not w then pair p (as_expression t (out-Node t)) else t)
by_name p w t = named_in p w t (out-Node t) refl

third_of : (fields out back : List Node) (old new flag : Node) → length fields ≡ 5 → flag ≡ get_or fields 1 flag → slice_get fields 2 ≡ Some old → out ≡ slice_set fields 2 Absent → back ≡ slice_set out 2 new
    → (a : Node) × (d : Node) × (e : Node) × (fields ≡ a ∷ flag ∷ old ∷ d ∷ e ∷ []) × (back ≡ a ∷ flag ∷ new ∷ d ∷ e ∷ [])
third_of (x ∷ y ∷ z ∷ v ∷ w ∷ []) out back old new flag h f g o b =
    let same : z ≡ old = cc in let flags : y ≡ flag = cc in
    (x, v, w, ap (λ u. x ∷ y ∷ u ∷ v ∷ w ∷ []) same ∙ ap (λ u. x ∷ u ∷ old ∷ v ∷ w ∷ []) flags, rw (b, o) (ap (λ u. x ∷ u ∷ new ∷ v ∷ w ∷ []) flags))
third_of [] out back old new flag h f g o b = absurd (omega arith)
third_of (x ∷ []) out back old new flag h f g o b = absurd (omega arith)
third_of (x ∷ y ∷ []) out back old new flag h f g o b = absurd (omega arith)
third_of (x ∷ y ∷ z ∷ []) out back old new flag h f g o b = absurd (omega arith)
third_of (x ∷ y ∷ z ∷ v ∷ []) out back old new flag h f g o b = absurd (omega arith)
third_of (x ∷ y ∷ z ∷ v ∷ w ∷ u ∷ fs) out back old new flag h f g o b = absurd (omega arith)

-- the head of a `for` of that was taken out, and put back
pub head_back : (p : Places) (fields out back : List Node) (old new flag : Node) (w : Bool) → length fields ≡ 5 → flag ≡ get_or fields 1 flag → w ≡ holds flag → slice_get fields 2 ≡ Some old → out ≡ slice_set fields 2 Absent
    → new ≡ async_in p w old (out-Node old) → back ≡ slice_set out 2 new → Tree kind.ForOfStmt back ≡ of_headed p kind.ForOfStmt fields
head_back p fields out back old new flag w h f e g o n b =
    let q = third_of fields out back old new flag h f g o b in
    ap (Tree kind.ForOfStmt) (q.4 ∙ ap (λ u. q.0 ∷ flag ∷ u ∷ q.1 ∷ q.2 ∷ []) (n ∙ ap (λ w. async_in p w old (out-Node old)) e)) ∙ sym (ap (of_headed p kind.ForOfStmt) q.3)
