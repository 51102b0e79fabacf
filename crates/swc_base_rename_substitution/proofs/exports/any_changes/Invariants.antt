use Rattle.std.proofs.Common.{◌≡◌, false, take}
use Rattle.std.specs.Prelude.{is_some}
use Rattle.std.specs.List.{list_any}
use Rattle.swc_base_rename_substitution.specs.Names.{new_id}
use Rattle.swc_base_rename_substitution.proofs.exports.any_changes.Given as goal

abbrev pub invariant-loop-id : goal.invariant-loop-id
invariant-loop-id l = list_any (λ x. is_some (new_id l.names x)) (take l.id-index l.ids) ≡ false
