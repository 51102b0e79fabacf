use Rattle.std.proofs.Common.{◌≡◌, ◌++◌, map, take, drop, IsTrue}
use Rattle.json.specs.Value.{items_of}
use Rattle.jsbase_form.specs.Known.{marks_short}
use Rattle.jsbase_form.specs.Writing.{natural, numbers_json}
use Rattle.jsbase_writer.specs.Tokens.{tokens_of, tokens_of_items}
use Rattle.jsbase_writer.proofs.numbers.write_marks.Given as goal

-- what is left to be written
abbrev pub invariant-loop-mark : goal.invariant-loop-mark
invariant-loop-mark l =
    (l.fn.out.tokens ++ tokens_of (numbers_json l.marks) ≡ l.out.tokens ++ tokens_of_items (items_of (map natural (drop l.mark-index l.marks))))
    × (l.out.before ≡ l.fn.out.before) × IsTrue (marks_short (take l.mark-index l.marks))
