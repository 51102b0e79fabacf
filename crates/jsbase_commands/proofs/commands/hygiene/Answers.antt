use Rattle.std.proofs.Common.{subst}
use Rattle.swc_base_rename_program.specs.Renamed.{IsHygienic}
use Rattle.jsbase_commands.proofs.commands.hygiene.Goals as goal

pub returns : goal.returns
returns c = record {
  no_types = c.requires;
  answer = c.in_ok-renamed.renamed;
  hygienic = subst (λ config. IsHygienic c.args.envelope.globals config c.args.envelope.tree c.in_ok-renamed.renamed) c.config-config.ensures c.in_ok-renamed.ensures.hygienic;
  written = c.in_ok-text.ensures.text;
}
