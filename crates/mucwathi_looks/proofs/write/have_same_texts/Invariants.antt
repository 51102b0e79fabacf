use Rattle.std.proofs.Common.{◌≡◌, map, take}
use Rattle.swc_tree_walk.specs.Sites.{site_of}
use Rattle.mucwathi_looks.specs.Answered.{name_of}
use Rattle.mucwathi_looks.proofs.write.have_same_texts.Given as goal

abbrev pub invariant-sites : goal.invariant-sites
invariant-sites l = map name_of (map site_of (take l.i l.names)) ≡ map name_of (map site_of (take l.i l.places))
