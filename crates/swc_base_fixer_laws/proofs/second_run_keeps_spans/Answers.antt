use Rattle.swc_base_fixer_laws.proofs.second_run_keeps_spans.Goals as goal
use Rattle.swc_base_fixer_laws.proofs.AgainLaws.{all_second_run_keeps_spans}

-- src/lib.rt
pub returns : goal.returns
returns c = all_second_run_keeps_spans
