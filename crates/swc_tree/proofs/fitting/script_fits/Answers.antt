use Rattle.swc_tree.proofs.WholePrograms.{whole_script}
use Rattle.swc_tree.proofs.fitting.script_fits.Goals as goal

-- src/fitting.rt
pub returns : goal.returns
returns c = whole_script c.args.program.now c.as_slice.result.now c.as_slice.ensures.same c.as_slice.ensures.fit
