-- Laws of the scopes that a renamer tells apart.
use Rattle.std.specs.Prelude.{◌≡◌, ◌⊎◌}
use Rattle.std.specs.declared.cmp.Ordering.TheVariants.{Less}
use Rattle.std.specs.Ordering.{nat_cmp}
use Rattle.std.specs.Cmp.Lexicographic.{slice_cmp}
use Rattle.swc_tree_node.specs.declared.node.Node.{Node}
use Rattle.swc_tree_scoping.specs.Places.{Path}
use Rattle.swc_base_rename_analysis.specs.Analysis.{IsRound}
use Rattle.swc_base_rename_analysis.specs.Order.{entry, turns}

-- what stands round a scope stands round all in it; of two scopes round one path one is the other or stands round it; and a
-- scope is entered before those in it
pub record ScopesAreNested (t : Node) : Type 0 where
  pub through : (s u p : Path) → IsRound t s u → IsRound t u p → IsRound t s p
  pub one_round_other : (s u p : Path) → IsRound t s p → IsRound t u p → (s ≡ u) ⊎ (IsRound t s u ⊎ IsRound t u s)
  pub entered_first : (s u : Path) → IsRound t s u → slice_cmp nat_cmp (turns entry t s) (turns entry t u) ≡ Less

abbrev pub EachTreesScopesAreNested : Type 0
EachTreesScopesAreNested = (t : Node) → ScopesAreNested t
