-- Where the scopes and the ids of a program stand, by their numbers.
use Rattle.std.specs.Prelude.{ℕ, Option, List, []}
use Rattle.std.specs.List.{slice_get}
use Rattle.std.specs.Option.{option_map_or}
use Rattle.swc_base_rename_analysis.specs.declared.analysis.Analysis.{Analysis}
use Rattle.swc_base_rename_analysis.specs.declared.layout.Region.{Region}
use Rattle.swc_base_rename_analysis.specs.declared.numbers.Entry.{Entry}

abbrev pub positions_of : Option Entry → List ℕ
positions_of entry = option_map_or (λ e. e.positions.items) entry []

abbrev pub stretch_of : Option Region → ℕ × ℕ
stretch_of region = option_map_or (λ r. (r.start, r.end)) region (0, 0)

-- the positions of the id of a number
abbrev pub positions_in : Analysis → ℕ → List ℕ
positions_in a k = positions_of (slice_get a.ids.items k)

-- the stretch of positions of the scope of a number
abbrev pub stretch_in : Analysis → ℕ → ℕ × ℕ
stretch_in a s = stretch_of (slice_get a.regions.items s)
