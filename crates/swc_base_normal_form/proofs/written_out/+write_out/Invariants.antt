use Rattle.std.proofs.Common.{◌≡◌, ◌++◌, map, take, drop, length}
use Rattle.swc_tree_grammar.specs.Normal.{written_out}
use Rattle.swc_base_normal_form.proofs.written_out.+write_out.Given as goal

abbrev pub invariant-write_out_all-loop-i : goal.invariant-write_out_all-loop-i
invariant-write_out_all-loop-i l = record {
  long : length l.items ≡ length l.initial.items;
  written : l.items ≡ map written_out (take l.i l.initial.items) ++ drop l.i l.initial.items;
}
