use Rattle.std.proofs.Common.{◌≡◌, drop}
use Rattle.swc_tree_scoping.specs.Places.{by_keyword}
use Rattle.swc_tree_scoping.proofs.below.keyword_standing.Given as goal

abbrev pub invariant-loop-field : goal.invariant-loop-field
invariant-loop-field l = by_keyword l.fields ≡ by_keyword (drop l.field-index l.fields)
