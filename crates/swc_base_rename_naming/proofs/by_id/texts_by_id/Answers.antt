use Rattle.std.proofs.Common.{◌≡◌, suc, ◌+◌, true, sym, ◌∙◌, subst, arith}
use Rattle.swc_base_rename_naming.specs.Steps.{text_at}
use Rattle.swc_base_rename_naming.proofs.ByIds.{IsMade, made_with, made_without}
use Rattle.swc_base_rename_naming.proofs.by_id.texts_by_id.Goals as goal
use Rattle.swc_base_rename_naming.proofs.by_id.texts_by_id.Goals.{then-ne+in_ok-put, else-ne}

pub loop-number-preserved : goal.loop-number-preserved
loop-number-preserved g c =
    let id_of = g.A.Asked.id_of c.args.asked.now in
    let texts = text_at c.args.texts.now in
    let n = c.loop-number.number-counter in
    let next : suc n ≡ n + 1 = omega arith in
    elim c.if-ne.branch [
      | then-ne+in_ok-put w ↦ rw w.by_id-is (subst (λ k. IsMade id_of texts k true w.put.new.texts) next (made_with id_of texts n c.loop-number.any c.loop-number.by_id c.in-Some.id.now c.in-Some-get.text.now c.loop-number.invariant c.in-Some.ensures (sym c.in-Some-get.ensures.value) w.put.new.texts (sym c.ne.ensures ∙ w.if-ne.true) w.in_ok-put.ensures))
      | else-ne w ↦ rw w.by_id-is (subst (λ k. IsMade id_of texts k true c.loop-number.by_id) next (made_without id_of texts n c.loop-number.any c.loop-number.by_id c.in-Some.id.now c.in-Some-get.text.now c.loop-number.invariant c.in-Some.ensures (sym c.in-Some-get.ensures.value) c.requires (sym c.ne.ensures ∙ w.if-ne.false)))
    ]
