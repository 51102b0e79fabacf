use Rattle.std.proofs.Common.{◌≡◌, ◌∙◌, ◌+◌, ap, sym, Err, arith}
use Rattle.swc_tree_marks.specs.declared.error.PassError.TheVariants as pass
use Rattle.swc_tree_marks.specs.Globals.{greatest}
use Rattle.swc_tree_marks.proofs.Fresh.{greatest-with_fresh_marks}
use Rattle.swc_base_resolver_program.proofs.Fresh.{marks_more, fresh_more}
use Rattle.swc_base_resolver_program.proofs.marks.marks_of.Goals as goal

pub returns-in_err-mark-clause-spent : goal.returns-in_err-mark-clause-spent
returns-in_err-mark-clause-spent c = λ h.
    let spent = c.in_err-mark.ensures.spent in let e = c.from_residual-in_err-mark.ensures in
    let total = ap greatest c.loop-made.invariant.table ∙ greatest-with_fresh_marks c.args.globals.now c.args.top c.loop-made.made in
    let same : pass.MarksSpent ≡ c.in_err-mark.field-0.0 = rw h at e.1 in
    omega (arith, total, spent (ap (λ e. Err e) (sym same)))

pub returns-in_err-push-2-clause-gained : goal.returns-in_err-push-2-clause-gained
returns-in_err-push-2-clause-gained c =
    (c.loop-made.made + 1, omega arith, fresh_more c.args.globals.now c.loop-made.globals _ c.args.top c.loop-made.made c.loop-made.invariant.table c.in_ok-mark.ensures.table)

pub loop-made-preserved : goal.loop-made-preserved
loop-made-preserved c =
    let total = ap greatest c.loop-made.invariant.table ∙ greatest-with_fresh_marks c.args.globals.now c.args.top c.loop-made.made in
    record {
      marks = marks_more c.args.top (greatest c.args.globals.now + 1) c.loop-made.made _ _ _ c.loop-made.invariant.marks (omega (arith, c.in_ok-mark.ensures.mark, total)) c.in_ok-push-2.ensures.items;
      table = fresh_more c.args.globals.now c.loop-made.globals _ c.args.top c.loop-made.made c.loop-made.invariant.table c.in_ok-mark.ensures.table;
    }
