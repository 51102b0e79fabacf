use Rattle.std.proofs.Common.{ap, ◌∙◌, arith, take_all}
use Rattle.std.specs.Hash as fed
use Rattle.std.specs.Hash.DefaultHasher as sip
use Rattle.swc_base_fixer_due.specs.Keyed.{hashed}
use Rattle.swc_base_fixer_due.proofs.Digests.{one_hashed}
use Rattle.swc_base_fixer_due.proofs.keyed.digest_of.Goals as goal

pub loop-pair-preserved : goal.loop-pair-preserved
loop-pair-preserved c = one_hashed c.args.beginning c.args.pairs.now _ c.loop-pair.pair-index c.loop-pair.hasher c.write_u64-in-loop-pair.new.self (omega arith) c.loop-pair.invariant
    (c.write_u64-in-loop-pair.ensures ∙ ap (λ w. sip.write c.loop-pair.hasher (fed.le_bytes 8 w)) c.word.ensures)

pub returns : goal.returns
returns c = c.finish.ensures ∙ ap sip.finish (c.loop-pair.invariant ∙ ap (hashed c.args.beginning) (take_all c.loop-pair.pair-index c.args.pairs.now c.loop-pair-test.false))
