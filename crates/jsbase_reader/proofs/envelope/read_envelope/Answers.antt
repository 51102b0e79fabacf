use Rattle.json.specs.Value.{value_view}
use Rattle.jsbase_reader.proofs.Sound.{envelope_fits, envelope_known}
use Rattle.jsbase_reader.proofs.envelope.read_envelope.Goals as goal

pub returns-clause-fits : goal.returns-clause-fits
returns-clause-fits c = envelope_fits c.args.class (value_view c.args.value.now) _ c.in_ok-envelope.ensures

pub returns-clause-known : goal.returns-clause-known
returns-clause-known c = envelope_known c.args.class (value_view c.args.value.now) _ c.in_ok-envelope.ensures
