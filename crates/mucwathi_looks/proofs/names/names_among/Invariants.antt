use Rattle.std.proofs.Common.{map, take}
use Rattle.swc_tree_walk.specs.Sites.{site_of}
use Rattle.mucwathi_looks.proofs.Noted.{HasSeen}
use Rattle.mucwathi_looks.proofs.names.names_among.Given as goal

abbrev pub invariant-loop-site : goal.invariant-loop-site
invariant-loop-site l = HasSeen (map site_of (take l.site-index l.found)) l.seen l.names.items
