use Rattle.std.proofs.Common.{subst, sym}
use Rattle.mucwathi_commands.specs.Looks.{IsUncovered}
use Rattle.mucwathi_commands.proofs.Rewritten.{uncovered}
use Rattle.mucwathi_commands.proofs.cover.cover_text.Goals as goal

pub cover-requires : goal.cover-requires
cover-requires c = (c.in-Ok.ensures.tree, c.in-Ok.ensures.formed, c.in-Ok.ensures.pinned, c.in-Ok.ensures.clean)

pub returns-in-Err : goal.returns-in-Err
returns-in-Err c = subst (IsUncovered c.args.text.now) (sym c.of_text.ensures) (uncovered c.args.text.now c.in-Err.fault c.in-Err.ensures.refusal)
