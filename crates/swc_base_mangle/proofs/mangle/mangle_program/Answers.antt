use Rattle.swc_base_rename_program.proofs.Fitting.{by_texts_fits}
use Rattle.swc_base_mangle.proofs.mangle.mangle_program.Goals as goal

pub returns-clause-mangled : goal.returns-clause-mangled
returns-clause-mangled c = record { given = c.in_ok-given.given; shortened = c.in_ok-given.ensures.named; cleared = c.clear_contexts.ensures }

pub returns-clause-fits : goal.returns-clause-fits
returns-clause-fits c = rw c.clear_contexts.ensures (by_texts_fits c.args.tree c.in_ok-given.given c.in_ok-given.ensures.fits)
