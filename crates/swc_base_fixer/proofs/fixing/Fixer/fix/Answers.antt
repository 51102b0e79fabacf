use Rattle.swc_base_fixer.proofs.Fixed.{still_fits}
use Rattle.swc_base_fixer.proofs.fixing.Fixer.fix.Goals as goal

-- src/fixing.rt
pub returns-in-None-clause-fits : goal.returns-in-None-clause-fits
returns-in-None-clause-fits g c = still_fits c.args.node c.fix_parens.result c.fix_parens.ensures.answer c.fix_parens.ensures.not_assignable

pub returns-in-Some-clause-fits : goal.returns-in-Some-clause-fits
returns-in-Some-clause-fits g c = still_fits c.args.node c.fix_parens_with.result c.fix_parens_with.ensures.answer c.fix_parens_with.ensures.not_assignable
