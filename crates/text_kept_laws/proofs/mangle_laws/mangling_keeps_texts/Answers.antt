use Rattle.text_kept_laws.proofs.mangle_laws.mangling_keeps_texts.Goals as goal
use Rattle.text_kept_laws.proofs.MangleWhole.{mangling_texts}

-- src/mangle_laws.rt
pub returns : goal.returns
returns c = mangling_texts
