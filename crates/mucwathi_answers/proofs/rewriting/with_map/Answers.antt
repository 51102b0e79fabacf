use Rattle.std.proofs.Common.{refl, subst}
use Rattle.mucwathi_answers.specs.Answers.{HasMap}
use Rattle.mucwathi_answers.proofs.rewriting.with_map.Goals as goal

pub returns-in-Ok : goal.returns-in-Ok
returns-in-Ok c = (
  refl,
  record {
    lost = c.requires.0;
    rewritten = c.requires.1;
    told = c.requires.2;
    mapped = subst (λ out. HasMap c.args.task.now.map c.args.order.now c.args.of out c.in-Ok.map.items) c.as_slice.ensures.value c.in-Ok.ensures;
  },
)
