use Rattle.std.proofs.Common.{◌≡◌, ◌≤◌, drop}
use Rattle.serde_json.specs.View.{members_view}
use Rattle.swc_base_tables_settings.specs.Assumptions.{keys, members_with}
use Rattle.swc_base_tables_settings.proofs.assumptions.members_of.Given as goal

abbrev pub invariant-loop-place : goal.invariant-loop-place
invariant-loop-place l = (l.place ≤ 23) × (members_view l.members.entries ≡ members_with (drop l.place keys) (drop l.place l.flags))

abbrev pub decreases-loop-place : goal.decreases-loop-place
decreases-loop-place l = l.place
