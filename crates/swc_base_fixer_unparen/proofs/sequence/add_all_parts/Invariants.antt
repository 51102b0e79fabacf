use Rattle.std.proofs.Common.{◌≡◌, ◌++◌, take, length}
use Rattle.std.specs.List.{flat_map}
use Rattle.swc_tree_node.specs.declared.node.Node.{Absent}
use Rattle.swc_tree_grammar.specs.Stripped.{parts}
use Rattle.swc_base_fixer_unparen.proofs.Each.{from}
use Rattle.swc_base_fixer_unparen.proofs.sequence.add_all_parts.Given as goal

abbrev pub invariant-loop-i : goal.invariant-loop-i
invariant-loop-i l = record {
  long : length l.exprs ≡ length l.initial.exprs;
  gone : l.exprs ≡ from Absent l.i l.initial.exprs;
  added : l.out ≡ l.initial.out ++ flat_map parts (take l.i l.initial.exprs);
}
