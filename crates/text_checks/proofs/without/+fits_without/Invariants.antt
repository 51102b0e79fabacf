use Rattle.std.proofs.Common.{◌≡◌, drop, map, length}
use Rattle.swc_tree_node.specs.Fits.{all_fit, each_fits, fits}
use Rattle.text_checks.proofs.Sought.{NoneBefore}
use Rattle.text_checks.proofs.without.+fits_without.Given as goal

abbrev pub invariant-all_fit_without-loop-i : goal.invariant-all_fit_without-loop-i
invariant-all_fit_without-loop-i g l = record {
  fits : all_fit (map fits l.nodes) l.slot ≡ all_fit (map fits (drop l.i l.nodes)) l.slot;
  none : NoneBefore (g.F.Finder.is_sought l.finder) l.nodes l.i;
}

abbrev pub invariant-each_fits_without-loop-i : goal.invariant-each_fits_without-loop-i
invariant-each_fits_without-loop-i g l = record {
  fits : each_fits (map (λ f. f.slot) l.places) (map fits l.fields) ≡ each_fits (drop l.i (map (λ f. f.slot) l.places)) (map fits (drop l.i l.fields));
  none : NoneBefore (g.F.Finder.is_sought l.finder) l.fields l.i;
  same : length l.places ≡ length l.fields;
}
