use Rattle.swc_tree.proofs.WholePrograms.{whole_module}
use Rattle.swc_tree.proofs.fitting.module_fits.Goals as goal

-- src/fitting.rt
pub returns : goal.returns
returns c = whole_module c.args.program.now c.as_slice.result.now c.as_slice.ensures.same c.as_slice.ensures.fit
