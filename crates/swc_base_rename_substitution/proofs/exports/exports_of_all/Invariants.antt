use Rattle.std.proofs.Common.{◌≡◌, map, take}
use Rattle.swc_base_rename_substitution.specs.Names.{new_id}
use Rattle.swc_base_rename_substitution.specs.Exports.{exports_of, exported_ids}
use Rattle.swc_base_rename_substitution.proofs.exports.exports_of_all.Given as goal

abbrev pub invariant-loop-item : goal.invariant-loop-item
invariant-loop-item l = l.all ≡ map (λ t. exports_of (new_id l.names) (exported_ids t)) (take l.item-index l.items)
