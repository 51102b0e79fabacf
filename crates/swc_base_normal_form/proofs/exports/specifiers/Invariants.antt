use Rattle.std.proofs.Common.{◌≡◌}
use Rattle.std.specs.BTreeSet.{contains}
use Rattle.swc_tree_scoping.specs.BoundNames.{Id}
use Rattle.swc_base_normal_form.specs.Exports.{id_cmp}
use Rattle.swc_base_normal_form.proofs.Once.{met, specifiers}
use Rattle.swc_base_normal_form.proofs.exports.specifiers.Given as goal

abbrev pub invariant-loop-id : goal.invariant-loop-id
invariant-loop-id l = record {
  specifiers : l.specifiers ≡ specifiers l.yielded;
  met : (x : Id) → contains id_cmp l.met x ≡ met l.yielded x;
}
