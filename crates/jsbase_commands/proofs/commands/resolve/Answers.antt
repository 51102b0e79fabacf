use Rattle.jsbase_commands.proofs.commands.resolve.Goals as goal

pub returns : goal.returns
returns c = record {
  table = c.resolve_program.new.globals;
  answer = c.in_ok-resolved.resolved;
  resolved = c.in_ok-resolved.ensures.resolved c.requires.program c.requires.marks;
  well_formed = c.in_ok-text.ensures.well_formed;
  written = c.in_ok-text.ensures.text;
}
