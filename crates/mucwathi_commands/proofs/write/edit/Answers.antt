use Rattle.std.proofs.Common.{subst}
use Rattle.mucwathi_commands.specs.Written.{IsKept}
use Rattle.mucwathi_commands.proofs.write.edit.Goals as goal

pub returns-in-Ok-clause-kept : goal.returns-in-Ok-clause-kept
returns-in-Ok-clause-kept c =
    let kept : IsKept c.comments_of.result c.args.source.now c.args.answer.now c.args.text.now c.in-Ok.out.items = record {
      follows = c.in-Ok.ensures.follows;
      edited = c.in-Ok.ensures.edited;
      same = c.in-Ok.ensures.same;
      names = c.in-Ok.ensures.names;
    } in
    subst (λ comments. IsKept comments c.args.source.now c.args.answer.now c.args.text.now c.in-Ok.out.items) c.comments_of.ensures kept
