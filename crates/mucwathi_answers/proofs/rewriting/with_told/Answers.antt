use Rattle.std.proofs.Common.{List, ℕ, refl, ap, ◌∙◌}
use Rattle.mucwathi_lists.specs.Listed.{lost_listed}
use Rattle.mucwathi_answers.proofs.Worked.{memory_told}
use Rattle.mucwathi_answers.proofs.rewriting.with_told.Goals as goal

pub with_map-requires : goal.with_map-requires
with_map-requires c = (c.args.made.lost.items, c.requires, c.in-Ok.ensures ∙ ap (λ (l : List ℕ). lost_listed c.args.of.name.now c.args.of.text.now l) c.as_slice-places.ensures.value)

pub returns-in-Err : goal.returns-in-Err
returns-in-Err c = memory_told c.args.order.now c.args.of.text.now _ refl
