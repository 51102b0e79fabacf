use Rattle.std.proofs.Common.{◌≡◌, false, take}
use Rattle.std.specs.List.{list_any}
use Rattle.swc_base_rename_naming.specs.Stretches.{is_within}
use Rattle.gate_renamers.specs.Flat.{stretch_at}
use Rattle.gate_renamers.proofs.name_rows.PlacesAsked.occurs.Given as goal

abbrev pub invariant-loop-position : goal.invariant-loop-position
invariant-loop-position l = list_any (is_within (stretch_at l.self.stretches.now l.scope)) (take l.position-index l.position-items) ≡ false
