use Rattle.std.proofs.Common.{◌+◌, drop, ap, ◌∙◌, arith}
use Rattle.std.proofs.lemmas.List.{drop_more, drop_all}
use Rattle.swc_base_rename_analysis.specs.Hashed.{mixed}
use Rattle.swc_base_rename_analysis.proofs.Hashes.{one_mixed, all_mixed}
use Rattle.swc_base_rename_analysis.proofs.hashed.mix_bytes.Goals as goal

pub loop-byte-preserved : goal.loop-byte-preserved
loop-byte-preserved c =
    let ns = c.args.bytes.now in
    let i = c.loop-byte.byte-index in
    one_mixed _ c.loop-byte.hash _ _ (drop i ns) (drop (i + 1) ns) c.loop-byte.invariant (drop_more ns i 0 (omega arith)) (c.mixed-hash.ensures ∙ ap (mixed c.loop-byte.hash) c.from.ensures)

pub returns : goal.returns
returns c = all_mixed _ c.loop-byte.hash (drop c.loop-byte.byte-index c.args.bytes.now) c.loop-byte.invariant (drop_all c.loop-byte.byte-index c.args.bytes.now (omega arith))
