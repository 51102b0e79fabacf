use Rattle.std.proofs.Common.{subst}
use Rattle.swc_base_covers.specs.Covered.{Tells}
use Rattle.jsbase_commands.proofs.covers.cover.Goals as goal

pub returns : goal.returns
returns c = record {
  gap = c.in_ok-gap.gap;
  tells = subst (λ config. Tells config c.args.envelope.now.tree c.in_ok-gap.gap) c.config-config.ensures (c.in_ok-gap.ensures.told c.requires.0 c.requires.1 c.requires.2);
  path = c.in_ok-gap.ensures.path;
  written = c.in_ok-text.ensures;
}
