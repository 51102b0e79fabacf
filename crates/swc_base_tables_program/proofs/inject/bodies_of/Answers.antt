use Rattle.std.proofs.Common.{arith, ap, unwrap_or, [], ◌∙◌}
use Rattle.swc_base_tables_injection.proofs.Lists.{one_pushed}
use Rattle.swc_base_tables_program.specs.Given.{body_of, body_or_none}
use Rattle.swc_base_tables_program.proofs.Steps.{body_here, in_order_rises, yet_after}
use Rattle.swc_base_tables_program.proofs.inject.bodies_of.Goals as goal

pub loop-helper-preserved : goal.loop-helper-preserved
loop-helper-preserved c =
    let hs = c.as_slice-helper-items.result.now in
    let same = body_here hs c.loop-helper.helper-index c.helper-item.result (body_of c.loop-helper.bodies) (body_of c.args.bodies) (omega arith) c.helper-item.is c.loop-helper.invariant.rest in
    record {
      done = one_pushed (body_or_none c.args.bodies) hs _ _ c.loop-helper.helper-index c.helper-item.result _ (omega arith) c.loop-helper.invariant.done c.helper-item.is
          (c.take-body.ensures.taken ∙ ap (λ o. unwrap_or o []) same) c.in_ok-push.ensures.ok;
      rest = yet_after hs c.loop-helper.helper-index c.helper-item.result (body_of c.loop-helper.bodies) (body_of c.args.bodies) (body_of c.take-body.new.self)
          (in_order_rises c.args.helpers.now.enabled hs (c.as_slice-helper-items.ensures ∙ c.in_ok-helpers.ensures)) (omega arith) c.helper-item.is c.take-body.ensures.left c.loop-helper.invariant.rest;
    }
