use Rattle.swc_base_rename_laws.proofs.NormalFormSpans.{normal_form_keeps_spans}
use Rattle.swc_base_rename_laws.proofs.normal_form_keeps_spans.Goals as goal

-- src/lib.rt
pub returns : goal.returns
returns c = normal_form_keeps_spans
