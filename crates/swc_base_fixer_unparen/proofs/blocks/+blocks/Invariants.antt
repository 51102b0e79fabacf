use Rattle.std.proofs.Common.{◌≡◌, ◌++◌, map, take, drop, length}
use Rattle.swc_tree_grammar.specs.Blocks.{with_blocks}
use Rattle.swc_base_fixer_unparen.proofs.blocks.+blocks.Given as goal

abbrev pub invariant-block_all-loop-i : goal.invariant-block_all-loop-i
invariant-block_all-loop-i l =
    (length l.items ≡ length l.initial.items) × (l.items ≡ map with_blocks (take l.i l.initial.items) ++ drop l.i l.initial.items)
