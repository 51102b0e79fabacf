use Rattle.swc_base_plain_form.proofs.Places.{no_places}
use Rattle.swc_base_plain_form.proofs.plain_form_adds_no_places.Goals as goal

pub returns : goal.returns
returns c = no_places
