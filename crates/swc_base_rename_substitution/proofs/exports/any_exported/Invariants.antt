use Rattle.std.proofs.Common.{◌≡◌, false, take}
use Rattle.std.specs.List.{list_any}
use Rattle.swc_base_rename_substitution.proofs.exports.any_exported.Given as goal
use Rattle.swc_base_rename_substitution.specs.Walk.{is_exported_declaration}

abbrev pub invariant-loop-item : goal.invariant-loop-item
invariant-loop-item l = list_any is_exported_declaration (take l.item-index l.items) ≡ false
