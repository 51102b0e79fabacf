use Rattle.std.proofs.Common.{◌≡◌, ◌++◌, map, take, drop, length}
use Rattle.std.specs.List.{flat_map}
use Rattle.swc_tree_node.specs.declared.node.Node.{Absent}
use Rattle.swc_tree_grammar.specs.Stripped.{stripped}
use Rattle.swc_base_fixer_unparen.specs.Gathered.{Gathered, parts_left}
use Rattle.swc_base_fixer_unparen.proofs.Each.{from}
use Rattle.swc_base_fixer_unparen.proofs.stripping.+strip.Given as goal

abbrev pub invariant-strip_all-loop-i : goal.invariant-strip_all-loop-i
invariant-strip_all-loop-i l =
    (length l.items ≡ length l.initial.items) × (l.items ≡ map stripped (take l.i l.initial.items) ++ drop l.i l.initial.items)

abbrev pub invariant-gather_each-loop-i : goal.invariant-gather_each-loop-i
invariant-gather_each-loop-i l = record {
  long : length l.exprs ≡ length l.initial.exprs;
  gone : l.exprs ≡ from Absent l.i l.initial.exprs;
  gathered : Gathered l.initial.out (flat_map parts_left (take l.i l.initial.exprs)) l.out;
}
