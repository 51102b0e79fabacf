use Rattle.std.proofs.Common.{Some, ap, ◌∙◌}
use Rattle.std.proofs.lemmas.Map.Text.{btree_map_updates_text}
use Rattle.swc_base_resolver_program.specs.Names.{both_ways}
use Rattle.swc_base_resolver_program.proofs.Inserts.{inserted}
use Rattle.swc_base_resolver_program.proofs.names.ScopeNames.insert.Goals as goal

pub returns : goal.returns
returns c = λ x.
    inserted c.args.name.now _ x _ _ _ _ c.in_ok-copy.ensures.ok (c.joined-ways.ensures ∙ ap (λ w. both_ways w c.args.more) c.get.ensures)
    (btree_map_updates_text _ c.args.self.now.names c.insert.new.self (Some c.joined-ways.result) c.in_ok-insert.ensures.updates x)
