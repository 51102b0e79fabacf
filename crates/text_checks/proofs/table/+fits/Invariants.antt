use Rattle.std.proofs.Common.{◌≡◌, drop, map, length}
use Rattle.swc_tree_node.specs.Fits.{all_fit, each_fits, fits}
use Rattle.text_checks.proofs.table.+fits.Given as goal

abbrev pub invariant-all_fit-loop-i : goal.invariant-all_fit-loop-i
invariant-all_fit-loop-i l = all_fit (map fits l.nodes) l.slot ≡ all_fit (map fits (drop l.i l.nodes)) l.slot

abbrev pub invariant-each_fits-loop-i : goal.invariant-each_fits-loop-i
invariant-each_fits-loop-i l =
    (each_fits (map (λ f. f.slot) l.places) (map fits l.fields) ≡ each_fits (drop l.i (map (λ f. f.slot) l.places)) (map fits (drop l.i l.fields)))
    × (length l.places ≡ length l.fields)
