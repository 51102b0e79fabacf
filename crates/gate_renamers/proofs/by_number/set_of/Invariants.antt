use Rattle.std.proofs.Common.{take}
use Rattle.std.specs.List.{list_any}
use Rattle.swc_base_rename_substitution.specs.Names.{same_id}
use Rattle.swc_base_rename_naming.specs.Ids.{HasJust}
use Rattle.gate_renamers.proofs.by_number.set_of.Given as goal

abbrev pub invariant-loop-id : goal.invariant-loop-id
invariant-loop-id l = HasJust (λ x. list_any (λ id. same_id id x) (take l.id-index l.ids)) l.set
