use Rattle.std.proofs.Common.{◌≡◌, map, take}
use Rattle.std.specs.List.{flat_map}
use Rattle.swc_tree_walk.specs.Sites.{site_of}
use Rattle.mucwathi_looks.specs.Coloured.{told, told_at}
use Rattle.mucwathi_looks.specs.Numbered.{new_in, number_in}
use Rattle.mucwathi_looks.proofs.variables.all_uses.Given as goal

abbrev pub invariant-loop-site : goal.invariant-loop-site
invariant-loop-site l = map told l.uses.items ≡ flat_map (told_at (number_in l.numbers) (new_in l.news)) (map site_of (take l.site-index l.sites))
