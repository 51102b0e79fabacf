use Rattle.jsbase_reader.specs.Envelopes.{envelope_in, text_in}
use Rattle.jsbase_form.proofs.Successes.{bound}
use Rattle.jsbase_reader.proofs.Sound.{envelope_fits, envelope_known}
use Rattle.jsbase_reader.proofs.envelope.read_bytes.Goals as goal

pub returns-clause-fits : goal.returns-clause-fits
returns-clause-fits c =
    let d = bound (text_in c.args.bytes.now) (envelope_in c.args.class) c.in_ok-envelope.envelope c.in_ok-envelope.ensures in
    envelope_fits c.args.class d.0 c.in_ok-envelope.envelope d.2

pub returns-clause-known : goal.returns-clause-known
returns-clause-known c =
    let d = bound (text_in c.args.bytes.now) (envelope_in c.args.class) c.in_ok-envelope.envelope c.in_ok-envelope.ensures in
    envelope_known c.args.class d.0 c.in_ok-envelope.envelope d.2
