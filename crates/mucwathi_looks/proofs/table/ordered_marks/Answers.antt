use Rattle.std.proofs.Common.{◌++◌, subst, ap, ◌∙◌}
use Rattle.std.specs.List.{flat_map}
use Rattle.std.specs.List.Sorted.{IsPermutation}
use Rattle.mucwathi_looks.proofs.Rows.{two_put}
use Rattle.mucwathi_looks.proofs.table.ordered_marks.Goals as goal

pub returns : goal.returns
returns c =
    let two = two_put _ _ c.new-marks.result.items c.push.new.self.items c.push-2.new.self.items c.new-marks.ensures.items c.in_ok-push.ensures.items c.in_ok-push-2.ensures.items (c.as_u32.ensures ∙ c.unresolved.ensures)
    (c.as_u32-2.ensures ∙ c.top.ensures) in
    let same = c.in_ok-add_marks.ensures ∙ ap (λ l. l ++ flat_map (λ s. s.marks.items) c.args.signs.now) two in
    subst (λ l. IsPermutation l c.sort.new.self.items) same c.in_ok-sort.ensures.permutation
