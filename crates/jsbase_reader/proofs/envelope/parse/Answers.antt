use Rattle.std.proofs.Common.{subst, sym}
use Rattle.jsbase_reader.specs.Answers.{GivesView}
use Rattle.jsbase_reader.proofs.Texts.{document_there, fault_viewed, no_text, text_there}
use Rattle.jsbase_reader.proofs.envelope.parse.Goals as goal

pub returns-in_default : goal.returns-in_default
returns-in_default c =
    let none = no_text c.args.bytes.now (λ utf8. absurd (c.in_default.ensures.cases.0 utf8)) in
    subst (GivesView c.fault.result) (sym none) (fault_viewed c.fault.result c.fault.ensures)

pub returns-in-Ok-read : goal.returns-in-Ok-read
returns-in-Ok-read c =
    text_there c.args.bytes.now _ (c.in-Ok.ensures.cases.1, document_there c.args.bytes.now c.in-Ok.text.now _ _ _ c.in-Ok.ensures.cases.0 c.in_ok-reader.ensures.ok c.in-Ok-read.ensures.ok c.in-None.ensures.value.0)
