use Rattle.mucwathi_laws.proofs.Kept.{targets_are_spared}
use Rattle.mucwathi_laws.proofs.laws.targets_are_spared.Goals as goal

pub returns : goal.returns
returns c = targets_are_spared c.chaining_keeps_forms.ensures c.mangled_sources_keep_forms.ensures
