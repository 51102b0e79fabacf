use Rattle.std.proofs.Common.{map, take}
use Rattle.std.specs.List.{flat_map}
use Rattle.swc_tree_walk.specs.Sites.{site_of}
use Rattle.mucwathi_looks.specs.Coloured.{variables_at}
use Rattle.mucwathi_looks.specs.Numbered.{AreNumbered}
use Rattle.mucwathi_looks.proofs.variables.numbers_of.Given as goal

abbrev pub invariant-loop-site : goal.invariant-loop-site
invariant-loop-site l = AreNumbered (flat_map variables_at (map site_of (take l.site-index l.sites))) l.numbers
