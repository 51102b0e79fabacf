use Rattle.std.proofs.Common.{sym, ◌∙◌}
use Rattle.mucwathi_mappings.proofs.Quoting.{backslash_added, byte_added, control_added}
use Rattle.mucwathi_mappings.proofs.quoted.add_byte.Goals as goal

pub returns-in_ok-extend_from_slice : goal.returns-in_ok-extend_from_slice
returns-in_ok-extend_from_slice c =
    backslash_added c.args.byte c.args.out.now.items c.extend_from_slice.new.self.items (sym c.takes_backslash.ensures ∙ c.if-takes_backslash.true) c.in_ok-extend_from_slice.ensures.items

pub returns-in_ok-extend_from_slice-2 : goal.returns-in_ok-extend_from_slice-2
returns-in_ok-extend_from_slice-2 c =
    control_added c.args.byte c.hex-high.result c.hex-low.result c.args.out.now.items c.extend_from_slice-then-byte-lt32.new.self.items (sym c.takes_backslash.ensures ∙ c.if-takes_backslash.false) c.if-byte-lt32.true c.hex-high.ensures
    c.hex-low.ensures c.in_ok-extend_from_slice-2.ensures.items

pub returns-in_ok-push : goal.returns-in_ok-push
returns-in_ok-push c = byte_added c.args.byte c.args.out.now.items c.push.new.self.items (sym c.takes_backslash.ensures ∙ c.if-takes_backslash.false) c.if-byte-lt32.false c.in_ok-push.ensures.items
