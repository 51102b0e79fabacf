use Rattle.std.proofs.Common.{subst, sym}
use Rattle.mucwathi_looks.specs.Looks.{IsUnlooked}
use Rattle.mucwathi_looks.proofs.Unlooked.{unlooked}
use Rattle.mucwathi_looks.proofs.show.show.Goals as goal

pub returns-in-Err : goal.returns-in-Err
returns-in-Err c =
    subst (IsUnlooked c.args.goal c.args.of.text.now) (sym c.of_text.ensures) (unlooked c.args.goal c.args.of.text.now c.in-Err.fault c.in-Err.ensures.refusal)

pub draw_source-requires-clause-read : goal.draw_source-requires-clause-read
draw_source-requires-clause-read c = c.in-Ok.ensures.tree

pub draw_source-requires-clause-stands : goal.draw_source-requires-clause-stands
draw_source-requires-clause-stands c = c.in-Ok.ensures.spans
