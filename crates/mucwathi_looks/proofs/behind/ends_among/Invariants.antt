use Rattle.std.proofs.Common.{◌≡◌, ◌++◌, drop, map}
use Rattle.swc_tree_walk.specs.Sites.{site_of}
use Rattle.mucwathi_looks.specs.Given.{end_of}
use Rattle.mucwathi_looks.proofs.behind.ends_among.Given as goal

abbrev pub invariant-sites : goal.invariant-sites
invariant-sites l = l.places.items ++ map end_of (map site_of (drop l.i l.found)) ≡ map end_of (map site_of l.found)
