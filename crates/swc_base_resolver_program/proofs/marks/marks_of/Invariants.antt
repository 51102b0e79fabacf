use Rattle.std.proofs.Common.{◌≡◌, ◌+◌, ◌∷◌}
use Rattle.std.specs.List.{range_with_len}
use Rattle.swc_tree_marks.specs.Globals.{greatest, with_fresh_marks}
use Rattle.swc_base_resolver_program.proofs.marks.marks_of.Given as goal

abbrev pub invariant-loop-made : goal.invariant-loop-made
invariant-loop-made l = record {
  marks : l.marks.items ≡ l.top ∷ range_with_len (greatest l.initial.globals + 1) l.made;
  table : l.globals ≡ with_fresh_marks l.initial.globals l.top l.made;
}
