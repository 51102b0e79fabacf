use Rattle.std.proofs.Common.{◌≡◌}
use Rattle.serde_json.specs.View.{members_view}
use Rattle.swc_base_tables_settings.specs.Assumptions.{first_fault}
use Rattle.swc_base_tables_settings.proofs.assumptions.first_fault_of.Given as goal

abbrev pub invariant-loop-key : goal.invariant-loop-key
invariant-loop-key l = first_fault (members_view l.members.entries) ≡ first_fault (members_view l.key-iterator)
