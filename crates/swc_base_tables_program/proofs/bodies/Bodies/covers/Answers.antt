use Rattle.std.proofs.Common.{◌≡◌, true, false, sym, ◌∙◌, arith}
use Rattle.swc_base_tables_program.proofs.Steps.{not_covered, still_in, still_out, tested}
use Rattle.swc_base_tables_program.proofs.bodies.Bodies.covers.Goals as goal
use Rattle.swc_base_tables_program.proofs.bodies.Bodies.covers.Goals.{else-is_enabled-via-then-is_enabled+else-not-has, else-is_enabled-via-else-is_enabled}

pub returns-then-not-has : goal.returns-then-not-has
returns-then-not-has c =
    let chosen = tested c.args.helpers.now.enabled c.helper-item.result c.is_enabled.result (rw (← c.helper-item.is) at c.is_enabled.ensures) ∙ c.if-is_enabled.true in
    let none = sym (rw (← c.helper-item.is) at c.has.ensures) ∙ c.if-not-has.true in (
      λ never. absurd (let wrong : false ≡ true = never in cc),
      λ covers. absurd (not_covered c.args.self.now c.args.helpers.now.enabled c.all-helper-items.result c.loop-helper.helper-index c.helper-item.result c.all-helper-items.ensures (omega arith) c.helper-item.is chosen none covers),
    )

pub loop-helper-preserved : goal.loop-helper-preserved
loop-helper-preserved c =
    let chosen = tested c.args.helpers.now.enabled c.helper-item.result c.is_enabled.result (rw (← c.helper-item.is) at c.is_enabled.ensures) in
    elim c.else-is_enabled.branch [
      | else-is_enabled-via-then-is_enabled+else-not-has w ↦
          still_in c.args.self.now c.args.helpers.now.enabled c.all-helper-items.result c.loop-helper.helper-index c.helper-item.result (omega arith) c.helper-item.is c.loop-helper.invariant
          (chosen ∙ w.if-is_enabled.true) (sym (rw (← c.helper-item.is) at w.has.ensures) ∙ w.if-not-has.false)
      | else-is_enabled-via-else-is_enabled w ↦
          still_out c.args.self.now c.args.helpers.now.enabled c.all-helper-items.result c.loop-helper.helper-index c.helper-item.result (omega arith) c.helper-item.is c.loop-helper.invariant
          (chosen ∙ w.if-is_enabled.false)
    ]
