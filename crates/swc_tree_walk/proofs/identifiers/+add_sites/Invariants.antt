use Rattle.std.proofs.Common.{◌≡◌, ◌++◌, map, take}
use Rattle.swc_tree_scoping.specs.Below.{places_of}
use Rattle.swc_tree_scoping.specs.Folds.{each_in}
use Rattle.swc_tree_walk.specs.Sites.{joined, site_of, sites}
use Rattle.swc_tree_walk.proofs.identifiers.+add_sites.Given as goal

abbrev pub invariant-add_sites_below-loop-i : goal.invariant-add_sites_below-loop-i
invariant-add_sites_below-loop-i l = map site_of l.found.items ≡ map site_of l.initial.found.items ++ joined (each_in sites (places_of l.places l.nodes) (take l.i l.nodes))
