use Rattle.std.proofs.Common.{◌≡◌, ◌+◌, ◌∷◌, drop, sym, ap, ◌∙◌, arith}
use Rattle.std.proofs.lemmas.List.{drop_more, drop_all}
use Rattle.swc_base_rename_analysis.specs.Hashed.{mixed}
use Rattle.swc_base_rename_analysis.proofs.Hashes.{one_mixed, all_mixed}
use Rattle.swc_base_rename_analysis.proofs.hashed.mix_marks.Goals as goal

pub loop-mark-preserved : goal.loop-mark-preserved
loop-mark-preserved c =
    let ns = c.args.marks.now in
    let i = c.loop-mark.mark-index in
    let n = c.mark-item.result in
    let here : drop i ns ≡ n ∷ drop (i + 1) ns = drop_more ns i n (omega arith) ∙ ap (λ n. n ∷ drop (i + 1) ns) (sym c.mark-item.is) in
    one_mixed _ c.loop-mark.hash _ n (drop i ns) (drop (i + 1) ns) c.loop-mark.invariant here (c.mixed-hash.ensures ∙ ap (mixed c.loop-mark.hash) (c.from.ensures ∙ c.as_u32.ensures))

pub returns : goal.returns
returns c = all_mixed _ c.loop-mark.hash (drop c.loop-mark.mark-index c.args.marks.now) c.loop-mark.invariant (drop_all c.loop-mark.mark-index c.args.marks.now (omega arith))
