use Rattle.swc_base_fixer.proofs.Promised.{answers_keep_promises}
use Rattle.swc_base_fixer.proofs.laws.answers_keep_promises.Goals as goal

-- src/laws.rt
pub returns : goal.returns
returns c = answers_keep_promises
