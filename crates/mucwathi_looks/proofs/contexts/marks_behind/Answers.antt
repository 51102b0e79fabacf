use Rattle.std.proofs.Common.{rules, sym, ◌∙◌}
use Rattle.std.proofs.lemmas.List.Sorted.{answers_always}
use Rattle.mucwathi_looks.proofs.NamedSigns.{found_at, found_nowhere}
use Rattle.mucwathi_looks.proofs.contexts.marks_behind.Goals as goal

pub returns-in-Ok : goal.returns-in-Ok
returns-in-Ok c = λ rises.
    let by_place = c.in-Ok.ensures.position (λ s. s.at) (answers_always _ _ _ (λ f a r g called. search rules)) in
    c.as_slice.ensures.value ∙ sym (found_at c.args.signs.now rises c.args.place c.in-Ok.index _ c.in-Ok.ensures.bound by_place)

pub returns-in-Err : goal.returns-in-Err
returns-in-Err c = λ rises.
    let by_place = c.in-Err.ensures.position (λ s. s.at) (answers_always _ _ _ (λ f a r g called. search rules)) in
    sym (found_nowhere c.args.signs.now rises c.args.place c.in-Err.field-0 by_place)
