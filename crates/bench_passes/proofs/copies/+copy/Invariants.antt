use Rattle.std.proofs.Common.{◌≡◌, map, take}
use Rattle.swc_tree_node.specs.Fits.{fits}
use Rattle.bench_passes.proofs.copies.+copy.Given as goal

abbrev pub invariant-copy_all-loop-node : goal.invariant-copy_all-loop-node
invariant-copy_all-loop-node l = map fits l.copies ≡ map fits (take l.node-index l.nodes)
