use Rattle.std.proofs.Common.{◌∙◌, ap, sym}
use Rattle.jsbase_reader.specs.Versions.{versions_in_text}
use Rattle.jsbase_commands.proofs.judge.tell_difference.Goals as goal

pub returns : goal.returns
returns c = record {
  versions = c.in-Ok.versions;
  read = ap (λ class. versions_in_text class c.args.input.now) (sym c.class_of.ensures) ∙ c.in-Ok.ensures.versions;
  difference = c.in_ok-difference.difference;
  why = c.in_ok-difference.ensures.why;
  paths = (c.in_ok-difference.ensures.before, c.in_ok-difference.ensures.after);
  written = c.in_ok-text.ensures;
}
