use Rattle.swc_base_plain_form.proofs.Fitting.{plain_fits}
use Rattle.swc_base_plain_form.proofs.plain_form_fits.Goals as goal

pub returns : goal.returns
returns c = plain_fits
