use Rattle.std.proofs.Common.{refl, string_bytes, []}
use Rattle.example_free_names.specs.Free.{text_of}
use Rattle.example_free_names.proofs.Once.{line_more}
use Rattle.example_free_names.proofs.answer.lines.Goals as goal

pub loop-name-preserved : goal.loop-name-preserved
loop-name-preserved c =
    line_more text_of c.args.names.now c.loop-name.name-index (record { ref_ptr = (0, 0); now = [] }) _ (string_bytes c.loop-name.text) (string_bytes c.push_str.new.self) (string_bytes c.push_str-in-loop-name.new.self)
    c.loop-name-test.true refl c.loop-name.invariant c.in_ok-push_str.ensures.bytes c.in_ok-push_str-2.ensures.bytes
