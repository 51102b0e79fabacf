use Rattle.std.proofs.Common.{subst, sym}
use Rattle.swc_tree_node.specs.Fits.{AllFit}
use Rattle.swc_base_tables_injection.specs.Alone.{all_bodies}
use Rattle.swc_base_tables_injection.proofs.AloneFit.{alone_fits}
use Rattle.swc_base_tables_injection.proofs.alone.resolve_alone.Goals as goal

pub returns-clause-fits : goal.returns-clause-fits
returns-clause-fits c s h =
    subst (AllFit s) (sym c.statements_of.ensures) (alone_fits c.args.kind c.args.strict (all_bodies c.args.bodies) c.in_ok-program.program c.in_ok-answer.answer s c.in_ok-program.ensures.alone c.in_ok-answer.ensures.contexts h)
