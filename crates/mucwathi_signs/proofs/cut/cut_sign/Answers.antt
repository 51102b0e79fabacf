use Rattle.std.proofs.Common.{List, ℕ, length, ap, subst}
use Rattle.mucwathi_signs.specs.Cut.{IsWrittenAt}
use Rattle.mucwathi_signs.proofs.Cutting.{cut_step}
use Rattle.mucwathi_signs.proofs.cut.cut_sign.Goals as goal

pub returns : goal.returns
returns c =
    let written = subst (λ (l : List ℕ). IsWrittenAt c.args.text.now c.args.found.from c.args.found.to l) c.as_slice.ensures.value (c.in_ok-is_sign.ensures c.if-not-is_sign.false) in
    record {
      within = written.high;
      marked = cut_step c.args.text.now c.args.from c.args.found.from c.args.found.to (record { at = (length c.as_slice-at.result.now); marks = c.args.found.marks }) c.args.cut.now.signs.items c.push.new.self.items c.args.cut.now.text.items
          c.extend_from_slice.new.self.items c.if-begin-from.false written (ap length c.as_slice-at.ensures.value) c.in_ok-extend_from_slice.ensures.items c.in_ok-push.ensures.items c.requires.marked;
    }
