use Rattle.std.proofs.Common.{◌∙◌, ap, subst, sym}
use Rattle.swc_tree_modules.specs.Nodes.{module_node}
use Rattle.swc_base_resolver_program.specs.Marked.{MarksOk}
use Rattle.swc_ecma_transforms_base.specs.Lower.swc_ecma_transforms_base_laws.specs.Settled.{IsAnswer}
use Rattle.example_passes.proofs.twice.finish_and_chain.Goals as goal

pub returns : goal.returns
returns c = record {
  again = λ finishable unread scoped ok.
      let answer = subst (λ m. IsAnswer (module_node m)) (sym c.in_ok-chained.ensures.cases) (c.in_ok-finish_module.ensures.answer finishable unread scoped) in
      let known = subst (λ table. MarksOk table c.args.unresolved c.args.top) (sym c.in_ok-finish_module.ensures.marks) ok in
      c.in_ok-chain_module.ensures.again answer finishable.plain.renames_classes known ∙ ap module_node c.in_ok-chained.ensures.cases;
}
