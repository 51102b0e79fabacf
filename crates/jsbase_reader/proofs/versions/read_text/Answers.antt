use Rattle.std.proofs.Common.{◌≡◌, Ok, Err, sym, ap, subst, arith}
use Rattle.jsbase_form.specs.Reads.{◌>>=◌}
use Rattle.jsbase_reader.specs.Answers.{Gives}
use Rattle.jsbase_reader.specs.Versions.{versions_in, versions_in_document}
use Rattle.jsbase_reader.proofs.Texts.{no_text}
use Rattle.jsbase_reader.proofs.Documents.{text_read, text_refused}
use Rattle.jsbase_reader.proofs.versions.read_text.Goals as goal

pub returns-in_default : goal.returns-in_default
returns-in_default c =
    let none = no_text c.args.bytes.now (λ utf8. absurd (c.in_default.ensures.cases.0 utf8)) in
    subst (Gives c.fault.result) (ap (λ r. r >>= versions_in c.args.class) (sym none)) c.fault.ensures

pub returns-in-Some : goal.returns-in-Some
returns-in-Some c =
    let read : versions_in_document c.args.class c.in-Ok.text.now ≡ Ok c.in-Some.versions = rw c.in-Some.is at c.in_ok-versions.ensures in
    text_read (versions_in c.args.class) c.args.bytes.now c.in-Ok.text.now (Ok c.in-Some.versions) c.in-Ok.ensures.cases.1 c.in-Ok.ensures.cases.0 read

pub returns-in_err-versions : goal.returns-in_err-versions
returns-in_err-versions c =
    let is : c.from_residual.result ≡ Err c.in_err-versions.field-0.0 = grind arith in
    text_refused (versions_in c.args.class) c.args.bytes.now c.in-Ok.text.now c.from_residual.result c.in_err-versions.field-0.0 is c.in-Ok.ensures.cases.1 c.in-Ok.ensures.cases.0 c.in_err-versions.ensures
