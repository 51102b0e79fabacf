-- What fits the place of a program opens the program's scope.
use Rattle.std.proofs.Common.{◌≡◌, ◌&&◌, Bool, IsTrue, Some, refl, ap, ◌∙◌, subst, arith}
use Rattle.swc_tree_node.specs.declared.kind.Kind.{Kind}
use Rattle.swc_tree_node.specs.declared.kind.Kind.TheVariants as kind
use Rattle.swc_tree_node.specs.declared.kind.Class.TheVariants as class
use Rattle.swc_tree_node.specs.declared.slot.Slot.TheVariants as slot
use Rattle.swc_tree_node.specs.declared.slot.Content.TheVariants as content
use Rattle.swc_tree_scoping.specs.declared.places.Scope.TheVariants as scope
use Rattle.swc_tree_node.specs.declared.node.Node.{Node, out-Node, map-Node, fold_out-Node}
use Rattle.swc_tree_node.specs.declared.node.Node.TheOpen.{Node-F}
use Rattle.swc_tree_node.specs.Table.{is_identifier}
use Rattle.swc_tree_node.specs.Fits.{belongs, fits, Fits, Test, fit_step}
use Rattle.swc_tree_node.proofs.Fit.{both}
use Rattle.swc_tree_scoping.specs.Places.{opened, opened_as, opened_in, program_place}

module_kind : (k : Kind) (b : Bool) → IsTrue (belongs k class.Module) → opened_as program_place k b ≡ Some scope.Program
module_kind kind.Module b h = refl
module_kind _ b h = absurd (grind arith)

no_identifier : (k : Kind) → IsTrue (is_identifier k && belongs k class.Module) → ⊥
no_identifier _ h = grind arith

pub module_opens : (t : Node) → Fits t (slot.One (content.Node class.Module)) → opened program_place t ≡ Some scope.Program
module_opens t h = at (out-Node t) refl
  where
    layer : (y : Node-F Node) → out-Node t ≡ y → IsTrue (fit_step (map-Node Node Test fits y) (slot.One (content.Node class.Module)))
    layer y o = subst (λ (f : Test). IsTrue (f (slot.One (content.Node class.Module)))) (fold_out-Node Test fit_step t ∙ ap (λ y. fit_step (map-Node Node Test fits y)) o) h

    at : (y : Node-F Node) → out-Node t ≡ y → opened program_place t ≡ Some scope.Program
    at Node-F.Absent o = let q = layer Node-F.Absent o in absurd (grind arith)
    at (Node-F.Flag x) o = let q = layer (Node-F.Flag x) o in absurd (grind arith)
    at (Node-F.Word w) o = let q = layer (Node-F.Word w) o in absurd (grind arith)
    at (Node-F.Text x) o = let q = layer (Node-F.Text x) o in absurd (grind arith)
    at (Node-F.Span x) o = let q = layer (Node-F.Span x) o in absurd (grind arith)
    at (Node-F.List ts) o = let q = layer (Node-F.List ts) o in absurd (grind arith)
    at (Node-F.Identifier k i) o = absurd (no_identifier k (layer (Node-F.Identifier k i) o))
    at (Node-F.Tree k ts) o =
        let q = both _ _ (layer (Node-F.Tree k ts) o) in
        let p = both (belongs k class.Module) _ q.1 in
        ap (opened_in program_place) o ∙ module_kind k _ p.0

script_kind : (k : Kind) (b : Bool) → IsTrue (belongs k class.Script) → opened_as program_place k b ≡ Some scope.Program
script_kind kind.Script b h = refl
script_kind _ b h = absurd (grind arith)

no_identifier_script : (k : Kind) → IsTrue (is_identifier k && belongs k class.Script) → ⊥
no_identifier_script _ h = grind arith

pub script_opens : (t : Node) → Fits t (slot.One (content.Node class.Script)) → opened program_place t ≡ Some scope.Program
script_opens t h = at (out-Node t) refl
  where
    layer : (y : Node-F Node) → out-Node t ≡ y → IsTrue (fit_step (map-Node Node Test fits y) (slot.One (content.Node class.Script)))
    layer y o = subst (λ (f : Test). IsTrue (f (slot.One (content.Node class.Script)))) (fold_out-Node Test fit_step t ∙ ap (λ y. fit_step (map-Node Node Test fits y)) o) h

    at : (y : Node-F Node) → out-Node t ≡ y → opened program_place t ≡ Some scope.Program
    at Node-F.Absent o = let q = layer Node-F.Absent o in absurd (grind arith)
    at (Node-F.Flag x) o = let q = layer (Node-F.Flag x) o in absurd (grind arith)
    at (Node-F.Word w) o = let q = layer (Node-F.Word w) o in absurd (grind arith)
    at (Node-F.Text x) o = let q = layer (Node-F.Text x) o in absurd (grind arith)
    at (Node-F.Span x) o = let q = layer (Node-F.Span x) o in absurd (grind arith)
    at (Node-F.List ts) o = let q = layer (Node-F.List ts) o in absurd (grind arith)
    at (Node-F.Identifier k i) o = absurd (no_identifier_script k (layer (Node-F.Identifier k i) o))
    at (Node-F.Tree k ts) o =
        let q = both _ _ (layer (Node-F.Tree k ts) o) in
        let p = both (belongs k class.Script) _ q.1 in
        ap (opened_in program_place) o ∙ script_kind k _ p.0
