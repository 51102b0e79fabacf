-- Steps of a path, as contracts see them.
use Rattle.std.specs.Prelude.{List, map, reverse}
use Rattle.jsbase_form.specs.declared.path.Step.{Step}
use Rattle.jsbase_form.specs.declared.path.Step.TheVariants as step
use Rattle.jsbase_form.specs.Reads.{Part, key, index, Path}

abbrev pub part_of : Step → Part
part_of (step.Key k) = key k.now
part_of (step.Index i) = index i

-- the path whose last step is the first of the list
abbrev pub path_of : List Step → Path
path_of steps = reverse (map part_of steps)
