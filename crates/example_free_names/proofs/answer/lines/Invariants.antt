use Rattle.std.proofs.Common.{◌≡◌, map, take, string_bytes}
use Rattle.example_free_names.specs.Answers.{lines}
use Rattle.example_free_names.specs.Free.{text_of}
use Rattle.example_free_names.proofs.answer.lines.Given as goal

abbrev pub invariant-loop-name : goal.invariant-loop-name
invariant-loop-name l = string_bytes l.text ≡ lines (map text_of (take l.name-index l.names))
