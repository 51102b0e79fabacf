use Rattle.std.proofs.Common.{[], arith}
use Rattle.mucwathi_mappings.proofs.Quoting.{more_end, more_push}
use Rattle.mucwathi_mappings.proofs.quoted.add_more.Goals as goal

pub loop-text-preserved : goal.loop-text-preserved
loop-text-preserved c =
    more_push c.args.texts.now c.loop-text.text-index (record { ref_ptr = (0, 0); now = [] }) c.args.out.now.items c.loop-text.out.items c.push.new.self.items c.add_text.new.out.items c.loop-text-test.true c.loop-text.invariant c.in_ok-push.ensures.items c.in_ok-add_text.ensures

pub returns : goal.returns
returns c = more_end c.args.texts.now c.loop-text.text-index c.args.out.now.items c.loop-text.out.items (omega arith) c.loop-text.invariant
