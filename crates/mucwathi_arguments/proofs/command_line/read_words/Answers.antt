use Rattle.std.proofs.Common.{IfSome, map, string_bytes, subst, sym}
use Rattle.mucwathi_arguments.specs.Asked.{IsTaskOf, rows}
use Rattle.mucwathi_arguments.proofs.Found.{asked_by}
use Rattle.mucwathi_arguments.proofs.command_line.read_words.Goals as goal

pub returns : goal.returns
returns c =
    let asked = subst (λ o. IfSome o (IsTaskOf c.in-Some.name.now (rows c.in-Some.given.now))) c.in-Some-2.is c.in_ok-task.ensures in
    asked_by _ c.in_ok-matches.matches (map string_bytes c.args.words.now) c.in-Some.name.now (rows c.in-Some.given.now) c.in-Some-2.task c.in_ok-program.ensures c.in_ok-matches.ensures.matches (sym c.in-Some.ensures.name) (sym c.in-Some.ensures.rows) asked
