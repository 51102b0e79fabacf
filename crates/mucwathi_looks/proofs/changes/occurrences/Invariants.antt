use Rattle.std.proofs.Common.{◌≡◌, map, take}
use Rattle.swc_tree_walk.specs.Sites.{site_of}
use Rattle.mucwathi_lists.specs.Changed.{seen}
use Rattle.mucwathi_looks.specs.Changes.{seen_of}
use Rattle.mucwathi_looks.proofs.changes.occurrences.Given as goal

abbrev pub invariant-loop-site : goal.invariant-loop-site
invariant-loop-site l = map seen l.names.items ≡ map seen_of (map site_of (take l.site-index l.found))
