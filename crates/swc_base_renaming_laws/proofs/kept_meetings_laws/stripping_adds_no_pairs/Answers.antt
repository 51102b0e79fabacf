use Rattle.swc_base_renaming_laws.proofs.kept_meetings_laws.stripping_adds_no_pairs.Goals as goal
use Rattle.swc_base_renaming_laws.proofs.KeptMeetingsStripped.{stripping_adds_no_pairs}

-- src/kept_meetings_laws.rt
pub returns : goal.returns
returns c = stripping_adds_no_pairs
