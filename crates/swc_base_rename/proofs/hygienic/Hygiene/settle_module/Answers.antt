use Rattle.std.proofs.Common.{◌≡◌, ap, refl, subst, sym, ◌∙◌}
use Rattle.swc_tree_node.specs.declared.kind.Class.TheVariants as class
use Rattle.swc_tree_node.specs.declared.slot.Content.TheVariants as content
use Rattle.swc_tree_node.specs.declared.slot.Slot.TheVariants as slot
use Rattle.swc_tree_node.specs.Fits.{Fits}
use Rattle.swc_tree_modules.specs.Nodes.{module_node}
use Rattle.swc_base_rename_program.specs.Renamed.{IsHygienic}
use Rattle.swc_base_rename.proofs.hygienic.Hygiene.settle_module.Goals as goal

pub returns-clause-done : goal.returns-clause-done
returns-clause-done c =
    let t = module_node c.args.program.now in
    let before : c.in_ok-node.node ≡ t = c.in_ok-node.ensures.0 ∙ ap module_node c.replace-module.ensures.value in
    let fits : Fits t (slot.One (content.Node class.Module)) = subst (λ n. Fits n (slot.One (content.Node class.Module))) before c.in_ok-node.ensures.1 in
    let hygienic : IsHygienic c.args.globals.now c.args.self.now.config t (module_node c.from_node.result)
    = subst (λ n. IsHygienic c.args.globals.now c.args.self.now.config n (module_node c.from_node.result)) before
    (subst (λ u. IsHygienic c.args.globals.now c.args.self.now.config c.in_ok-node.node u) (sym c.from_node.ensures) c.in_ok-answer.ensures.hygienic) in
    record {
      hygienic = hygienic;
      spans = λ plain writable. c.hygiene_keeps_spans.ensures c.args.globals.now c.args.self.now.config (slot.One (content.Node class.Module)) t (module_node c.from_node.result) refl plain fits writable hygienic;
      same = refl;
      marks = refl;
    }
