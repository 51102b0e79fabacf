use Rattle.std.proofs.Common.{inl, refl}
use Rattle.mucwathi_commands.proofs.rewrite.rewrite_in_lines.Goals as goal

pub returns-in-Err : goal.returns-in-Err
returns-in-Err c = inl refl
