use Rattle.std.proofs.Common.{◌≡◌, Ok, Err, sym, ap, subst, arith}
use Rattle.jsbase_form.specs.Reads.{◌>>=◌}
use Rattle.jsbase_reader.specs.Answers.{Gives}
use Rattle.jsbase_reader.specs.Envelopes.{envelope_in}
use Rattle.jsbase_reader.specs.Streamed.{envelope_in_document}
use Rattle.jsbase_reader.proofs.Texts.{no_text, text_envelope, text_refused}
use Rattle.jsbase_reader.proofs.envelope.read_text.Goals as goal

pub returns-in_default : goal.returns-in_default
returns-in_default c =
    let none = no_text c.args.bytes.now (λ utf8. absurd (c.in_default.ensures.cases.0 utf8)) in
    subst (Gives c.fault.result) (ap (λ r. r >>= envelope_in c.args.class) (sym none)) c.fault.ensures

pub returns-in-Some : goal.returns-in-Some
returns-in-Some c =
    let read : envelope_in_document c.args.class c.in-Ok.text.now ≡ Ok c.in-Some.envelope = rw c.in-Some.is at c.in_ok-envelope.ensures in
    text_envelope c.args.class c.args.bytes.now c.in-Ok.text.now (Ok c.in-Some.envelope) c.in-Ok.ensures.cases.1 c.in-Ok.ensures.cases.0 read

pub returns-in_err-envelope : goal.returns-in_err-envelope
returns-in_err-envelope c =
    let is : c.from_residual.result ≡ Err c.in_err-envelope.field-0.0 = grind arith in
    text_refused c.args.class c.args.bytes.now c.in-Ok.text.now c.from_residual.result c.in_err-envelope.field-0.0 is c.in-Ok.ensures.cases.1 c.in-Ok.ensures.cases.0 c.in_err-envelope.ensures
