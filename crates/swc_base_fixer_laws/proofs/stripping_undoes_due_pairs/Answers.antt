use Rattle.swc_base_fixer_laws.proofs.stripping_undoes_due_pairs.Goals as goal
use Rattle.swc_base_fixer_laws.proofs.Answer.{stripping_undoes}

-- src/lib.rt
pub returns : goal.returns
returns c = stripping_undoes
