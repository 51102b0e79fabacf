use Rattle.std.proofs.Common.{get_or, ap, ◌∙◌}
use Rattle.jsbase_reader.proofs.Numbers.{whole_is}
use Rattle.jsbase_reader.proofs.leaves.whole.Goals as goal

pub returns : goal.returns
returns c = c.ok.ensures.value ∙ whole_is c.args.text.now c.parse.result (λ plus. c.if-bytes-eq43.false (ap (λ bytes. get_or bytes 0 0) c.as_bytes-bytes.ensures.value ∙ plus)) c.parse.ensures.value.0
