use Rattle.std.proofs.Common.{refl, subst}
use Rattle.swc_tree_node.specs.declared.kind.Class.TheVariants as class
use Rattle.swc_tree_node.specs.declared.slot.Content.TheVariants as content
use Rattle.swc_tree_node.specs.declared.slot.Slot.TheVariants as slot
use Rattle.swc_tree_modules.specs.Nodes.{module_node}
use Rattle.swc_base_covers.specs.Covered.{Tells, HasPath}
use Rattle.swc_ecma_transforms_base.proofs.Sources.{told_source}
use Rattle.swc_ecma_transforms_base.proofs.covering.covers_module.Goals as goal

pub returns-clause-told : goal.returns-clause-told
returns-clause-told c =
    subst (λ t. Tells c.args.config.now t c.in_ok-gap.gap) c.in_ok-node.ensures.value
    (c.in_ok-gap.ensures.told (slot.One (content.Node class.Module)) refl c.in_ok-node.ensures.fits)

pub returns-clause-source : goal.returns-clause-source
returns-clause-source c = λ none.
    let told : Tells c.args.config.now (module_node c.args.program.now) c.in_ok-gap.gap = returns-clause-told c in
    told_source c.args.config.now (module_node c.args.program.now) c.in_ok-gap.gap told none

pub returns-clause-path : goal.returns-clause-path
returns-clause-path c = subst (λ t. HasPath t c.in_ok-gap.gap) c.in_ok-node.ensures.value c.in_ok-gap.ensures.path
