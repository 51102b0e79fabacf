use Rattle.swc_base_renaming_laws.proofs.NewTextsSpans.{hygiene_keeps_spans}
use Rattle.swc_base_renaming_laws.proofs.new_texts_laws.hygiene_keeps_spans.Goals as goal

-- src/new_texts_laws.rt
pub returns : goal.returns
returns c = hygiene_keeps_spans
