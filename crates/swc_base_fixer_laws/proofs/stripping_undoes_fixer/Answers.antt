use Rattle.swc_base_fixer_laws.proofs.stripping_undoes_fixer.Goals as goal
use Rattle.swc_base_fixer_laws.proofs.AgainLaws.{all_stripping_undoes_fixer}

-- src/lib.rt
pub returns : goal.returns
returns c = all_stripping_undoes_fixer
