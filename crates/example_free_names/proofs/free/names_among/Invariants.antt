use Rattle.std.proofs.Common.{◌≡◌, map, take}
use Rattle.swc_tree_walk.specs.Sites.{site_of}
use Rattle.example_free_names.specs.Free.{free_texts, once, text_of}
use Rattle.example_free_names.proofs.free.names_among.Given as goal

abbrev pub invariant-loop-site : goal.invariant-loop-site
invariant-loop-site l = map text_of l.names.items ≡ once (free_texts l.fn.unresolved (map site_of (take l.site-index l.found)))
