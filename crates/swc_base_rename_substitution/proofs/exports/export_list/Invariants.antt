use Rattle.std.proofs.Common.{◌≡◌, map}
use Rattle.swc_base_rename_substitution.specs.Names.{new_id}
use Rattle.swc_base_rename_substitution.specs.Exports.{specifier}
use Rattle.swc_base_rename_substitution.proofs.exports.export_list.Given as goal

abbrev pub invariant-loop-id : goal.invariant-loop-id
invariant-loop-id l = l.specifiers ≡ map (specifier (new_id l.names)) l.yielded
