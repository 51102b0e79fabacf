use Rattle.std.proofs.Common.{◌∙◌, ap, get_or, if◌then◌else◌, length}
use Rattle.mucwathi_signs.proofs.Blanking.{same_between}
use Rattle.mucwathi_signs.proofs.put.blank.Goals as goal

pub returns : goal.returns
returns c =
    let text = c.args.text.now in
    let inv = c.bytes.invariant in
    record {
      as_long = inv.blanked.as_long;
      bytes = λ i d within. inv.blanked.bytes i d within ∙ ap (λ b. if b then 32 else get_or text i d) (same_between c.args.from c.args.to (length text) c.bytes.i i within (rw (← c.min-end.ensures) c.bytes-test.false) (rw (← c.min-end.ensures) inv.ended));
    }
