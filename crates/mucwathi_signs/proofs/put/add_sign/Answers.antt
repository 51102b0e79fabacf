use Rattle.std.proofs.Common.{◌∙◌}
use Rattle.std.proofs.lemmas.Result.{on_ok_weaker}
use Rattle.mucwathi_signs.proofs.Signing.{sign_added}
use Rattle.mucwathi_signs.proofs.put.add_sign.Goals as goal

pub returns : goal.returns
returns c =
    on_ok_weaker c.add_more.result
    (sign_added c.args.marks.now c.args.out.now.items c.extend_from_slice.new.self.items c.add_more.new.out.items c.as_bytes.result.now c.in-len1-up.len_at_least (c.as_bytes.ensures.value ∙ c.in_ok-text.ensures.ok)
    c.in_ok-extend_from_slice.ensures.items)
    c.add_more.ensures
