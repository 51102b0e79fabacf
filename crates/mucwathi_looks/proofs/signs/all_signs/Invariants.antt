use Rattle.std.proofs.Common.{◌≡◌, ◌++◌, map}
use Rattle.swc_tree_walk.specs.Sites.{site_of}
use Rattle.mucwathi_looks.specs.Signs.{signs_between, told}
use Rattle.mucwathi_looks.proofs.signs.all_signs.Given as goal

abbrev pub invariant-loop-name : goal.invariant-loop-name
invariant-loop-name l =
    map told l.signs.items ++ signs_between (map site_of l.name-iterator.a.rest.now) (map site_of l.name-iterator.b.rest.now) ≡ signs_between (map site_of l.fn.names) (map site_of l.fn.places)
