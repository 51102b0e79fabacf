use Rattle.std.proofs.Common.{subst}
use Rattle.std.specs.Io.KnownBytes.{Appends}
use Rattle.jsbase_stream.specs.Bytes.{TakesBeginning}
use Rattle.jsbase_commands.specs.Run.{Makes}
use Rattle.jsbase_commands.proofs.served.serve.Goals as goal

pub returns-in-Ok : goal.returns-in-Ok
returns-in-Ok g c = record {
  input = c.in_ok-read.read.items;
  answer = c.in_ok-answer.answer.items;
  is_read = c.in_ok-read.ensures.whole;
  answers = subst (λ input. Makes c.args.command c.args.kind input c.in_ok-answer.answer.items) c.as_slice.ensures.value c.in_ok-answer.ensures;
  written = subst (λ bytes. Appends (g.W.Write.contents c.args.output.now) (g.W.Write.contents c.write_counted.new.writer) bytes) c.as_slice-2.ensures.value c.in-Ok.ensures.whole;
}

pub returns : goal.returns
returns g c = record {
  input = c.in_ok-read.read.items;
  answer = c.in_ok-answer.answer.items;
  is_read = c.in_ok-read.ensures.whole;
  answers = subst (λ input. Makes c.args.command c.args.kind input c.in_ok-answer.answer.items) c.as_slice.ensures.value c.in_ok-answer.ensures;
  written = subst (λ bytes. TakesBeginning (g.W.Write.contents c.args.output.now) (g.W.Write.contents c.write_counted.new.writer) bytes c.in-Err.taken) c.as_slice-2.ensures.value c.in-Err.ensures.beginning;
}
