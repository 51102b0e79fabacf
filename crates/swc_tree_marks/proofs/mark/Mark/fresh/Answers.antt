use Rattle.std.proofs.Common.{Contains, subst, sym, ◌∙◌}
use Rattle.std.proofs.lemmas.Result.{err_from_is_err_and}
use Rattle.swc_tree_marks.specs.Globals.{numbers}
use Rattle.swc_tree_marks.proofs.Fresh.{IsTable-fresh}
use Rattle.swc_tree_marks.proofs.mark.Mark.fresh.Goals as goal

pub returns-in_err-push-clause-spent : goal.returns-in_err-push-clause-spent
returns-in_err-push-clause-spent c =
    let refused = err_from_is_err_and c.from_residual.result c.from_residual.ensures.1 in
    let table = c.deref.ensures.value ∙ c.globals.view_is in (
      λ h. absurd (cc (h, refused.1, refused.2)),
      λ has.
          let none = c.in-Some.ensures.spent.1 (subst (λ t. Contains (numbers t) 4294967295) (sym table) has) in cc,
    )

pub invariant_of-globals-2 : goal.invariant_of-globals-2
invariant_of-globals-2 c =
    let next = c.in-Some.ensures.next in
    let parent = c.recorded_parent-recorded.ensures in
    rw c.in_ok-push.ensures.items (IsTable-fresh c.globals.inside.table.items c.args.parent c.in-Some.number c.recorded_parent-recorded.result c.globals.invariant
    (cc) (cc))

pub returns-clause-spent : goal.returns-clause-spent
returns-clause-spent c =
    let table = c.deref.ensures.value ∙ c.globals.view_is in (
      λ h. cc,
      λ has.
          let none = c.in-Some.ensures.spent.1 (subst (λ t. Contains (numbers t) 4294967295) (sym table) has) in cc,
    )
