use Rattle.std.proofs.Common.{subst, sym}
use Rattle.swc_tree_node.specs.declared.kind.Class.TheVariants as class
use Rattle.swc_tree_node.specs.declared.slot.Content.TheVariants as content
use Rattle.swc_tree_node.specs.declared.slot.Slot.TheVariants as slot
use Rattle.swc_tree_node.specs.Fits.{AllFit}
use Rattle.swc_base_tables_injection.specs.Alone.{all_bodies}
use Rattle.swc_base_tables_program.specs.Given.{bodies_in}
use Rattle.swc_base_tables_program.proofs.Steps.{bodies_fit}
use Rattle.swc_base_tables_program.proofs.inject.inject_helpers.Goals as goal

pub returns-clause-fits : goal.returns-clause-fits
returns-clause-fits c s all h =
    c.inject_bodies.ensures.fits s (subst (λ bodies. AllFit (slot.One (content.Node class.Stmt)) (all_bodies bodies)) (sym c.in_ok-all.ensures)
    (bodies_fit (slot.One (content.Node class.Stmt)) (bodies_in c.args.bodies c.args.helpers.now.enabled) all)) h
