use Rattle.swc_base_renaming_laws.proofs.kept_meetings_laws.due_pairs_keep_meetings.Goals as goal
use Rattle.swc_base_renaming_laws.proofs.KeptMeetingsPairs.{due_pairs_keep_meetings}

-- src/kept_meetings_laws.rt
pub returns : goal.returns
returns c = due_pairs_keep_meetings
