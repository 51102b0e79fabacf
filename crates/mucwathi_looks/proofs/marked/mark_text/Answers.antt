use Rattle.std.proofs.Common.{subst, sym}
use Rattle.mucwathi_looks.specs.Looks.{IsUnlooked}
use Rattle.mucwathi_looks.proofs.Unlooked.{unlooked}
use Rattle.mucwathi_looks.proofs.marked.mark_text.Goals as goal

pub returns-in-Err : goal.returns-in-Err
returns-in-Err c =
    subst (IsUnlooked c.args.goal c.args.text.now) (sym c.of_text.ensures) (unlooked c.args.goal c.args.text.now c.in-Err.fault c.in-Err.ensures.refusal)

pub mark_source-requires-clause-read : goal.mark_source-requires-clause-read
mark_source-requires-clause-read c = c.in-Ok.ensures.tree

pub mark_source-requires-clause-stands : goal.mark_source-requires-clause-stands
mark_source-requires-clause-stands c = c.in-Ok.ensures.spans
