use Rattle.swc_base_renaming_laws.proofs.NewTextsSpans.{renaming_keeps_spans}
use Rattle.swc_base_renaming_laws.proofs.new_texts_laws.renaming_keeps_spans.Goals as goal

-- src/new_texts_laws.rt
pub returns : goal.returns
returns c = renaming_keeps_spans
