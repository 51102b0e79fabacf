use Rattle.swc_base_normal_form_laws.proofs.Kept.{program}
use Rattle.swc_base_normal_form_laws.proofs.normal_form_is_program.Goals as goal

pub returns : goal.returns
returns c = program
