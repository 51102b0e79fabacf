use Rattle.std.proofs.Common.{◌≡◌}
use Rattle.std.specs.List.{flat_map}
use Rattle.swc_tree_grammar.specs.Normal.{split}
use Rattle.swc_base_normal_form.proofs.exports.split_all.Given as goal

abbrev pub invariant-loop-item : goal.invariant-loop-item
invariant-loop-item l = l.all ≡ flat_map split l.yielded
