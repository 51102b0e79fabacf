use Rattle.swc_base_fixer_laws.proofs.places_change_spans.Goals as goal
use Rattle.swc_base_fixer_laws.proofs.AgainLaws.{all_places_same}

-- src/lib.rt
pub returns : goal.returns
returns c = all_places_same
