use Rattle.std.proofs.Common.{rules}
use Rattle.example_free_names.proofs.answer.names_of.Goals as goal

pub returns : goal.returns
returns c = record {
  table = c.resolve_program.new.globals;
  program = c.in_ok-program.program;
  resolved = c.in_ok-program.ensures.resolved c.requires.program c.requires.marks;
  written = search rules;
}
