use Rattle.std.proofs.Common.{◌≡◌, false, take}
use Rattle.std.specs.List.{list_any}
use Rattle.swc_base_rename_substitution.specs.Names.{same_id}
use Rattle.gate_renamers.proofs.name_rows.PlacesAsked.keeps.Given as goal

abbrev pub invariant-loop-kept : goal.invariant-loop-kept
invariant-loop-kept l = list_any (λ id. same_id id l.id) (take l.kept-index l.self.kept.now) ≡ false
