use Rattle.std.proofs.Common.{◌∙◌, ap, subst, sym}
use Rattle.swc_tree_modules.specs.Nodes.{script_node}
use Rattle.swc_base_resolver_program.specs.Marked.{MarksOk}
use Rattle.swc_ecma_transforms_base.specs.Lower.swc_ecma_transforms_base_laws.specs.Settled.{IsAnswer}
use Rattle.example_passes.proofs.twice.finish_and_chain_script.Goals as goal

pub returns : goal.returns
returns c = record {
  again = λ finishable plain unread scoped ok.
      let answer = subst (λ s. IsAnswer (script_node s)) (sym c.in_ok-chained.ensures.cases) (c.in_ok-finish_script.ensures.answer finishable plain unread scoped) in
      let known = subst (λ table. MarksOk table c.args.unresolved c.args.top) (sym c.in_ok-finish_script.ensures.marks) ok in
      c.in_ok-chain_script.ensures.again answer finishable.plain.renames_classes known ∙ ap script_node c.in_ok-chained.ensures.cases;
}
