use Rattle.std.proofs.Common.{◌≡◌, string_bytes, subst}
use Rattle.jsbase_writer.specs.Envelopes.{envelope_text}
use Rattle.mucwathi_looks.proofs.trees.envelope_of.Goals as goal

pub returns : goal.returns
returns c = record {
  table = c.resolve.new.globals;
  resolved = c.in_ok-resolved.resolved;
  is_resolved = c.in_ok-resolved.ensures.resolved;
  written =
      subst (λ top. string_bytes c.in_ok-out.out ≡ envelope_text c.resolve.new.globals top c.in_ok-resolved.resolved 1) c.top.ensures
      (subst (λ unresolved. string_bytes c.in_ok-out.out ≡ envelope_text c.resolve.new.globals c.top.result c.in_ok-resolved.resolved unresolved) c.unresolved.ensures c.in_ok-out.ensures.text);
}
