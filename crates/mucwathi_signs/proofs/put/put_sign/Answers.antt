use Rattle.std.proofs.Common.{arith}
use Rattle.mucwathi_signs.proofs.Signing.{sign_put}
use Rattle.mucwathi_signs.proofs.put.put_sign.Goals as goal

pub returns : goal.returns
returns c =
    sign_put c.args.text.now c.args.from c.near-to.result c.args.sign.now c.args.out.now.items c.extend_from_slice.new.self.items c.add_sign.new.out.items c.as_slice.result.now c.near-to.ensures.low (omega arith)
    (λ low high. c.near-to.ensures.same low (omega arith)) c.as_slice.ensures.value c.in_ok-extend_from_slice.ensures.items c.in_ok-add_sign.ensures
