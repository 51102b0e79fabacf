use Rattle.text_kept_laws.proofs.resolved_laws.texts_are_as_shaped.Goals as goal
use Rattle.text_kept_laws.proofs.ResolvedWhole.{texts_shaped}

-- src/resolved_laws.rt
pub returns : goal.returns
returns c = texts_shaped
