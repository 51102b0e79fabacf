use Rattle.swc_base_renaming_laws.proofs.named_meetings_laws.substitution_keeps_meetings.Goals as goal
use Rattle.swc_base_renaming_laws.proofs.Names.{substitution_keeps_meetings}

-- src/named_meetings_laws.rt
pub returns : goal.returns
returns c = substitution_keeps_meetings
