use Rattle.text_kept_laws.proofs.renames_laws.new_names_keep_shape.Goals as goal
use Rattle.text_kept_laws.proofs.RenamesWhole.{shape_stays}

-- src/renames_laws.rt
pub returns : goal.returns
returns c = shape_stays
