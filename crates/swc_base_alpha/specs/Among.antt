-- The same of lists of trees.
use Rattle.std.specs.Prelude.{◌≡◌, ◌<◌, ◌⊎◌, ℕ, Option, None, List, option_map, slice_get, map}
use Rattle.swc_tree_marks.specs.declared.span.Span.{Span}
use Rattle.swc_tree_node.specs.declared.node.Node.{Node}
use Rattle.swc_tree_node.specs.declared.node.Node.TheOpen.{Node-F}
use Rattle.swc_tree_scoping.specs.Places.{Path, given}
use Rattle.swc_base_rename_laws.specs.NewNames.{outline}
use Rattle.swc_base_alpha.specs.Shapes.{ComesBefore, nearest, stands}
use Rattle.swc_base_alpha.specs.declared.spans.Unplaced.{Unplaced}

abbrev pub SameOutlines : List Node → List Node → Type 0
SameOutlines ts ss = map outline ts ≡ map outline ss

-- so many have one outline each
abbrev pub AlikeBefore : List Node → List Node → ℕ → Type 0
AlikeBefore ts ss n = (j : ℕ) → j < n → option_map outline (slice_get ts j) ≡ option_map outline (slice_get ss j)

abbrev pub stands_among : List Node → ℕ → Path → Option (Node-F Node)
stands_among ts i p = given (slice_get ts i) None (λ c. stands c p)

abbrev pub nearest_among : Unplaced → Span → List Node → ℕ → Path → Span
nearest_among u round ts i p = given (slice_get ts i) round (λ c. nearest u round c p)

pub record FirstAmong (ts ss : List Node) (i : ℕ) (p : Path) : Type 0 where
  pub apart : ¬ (stands_among ts i p ≡ stands_among ss i p)
  pub first : (j : ℕ) (q : Path) → (j < i) ⊎ ((j ≡ i) × ComesBefore q p) → stands_among ts j q ≡ stands_among ss j q

pub record AmongShows (u : Unplaced) (round around : Span) (ts ss : List Node) (before after : Span) : Type 0 where
  pub number : ℕ
  pub path : Path
  pub apart : FirstAmong ts ss number path
  pub is_before : before ≡ nearest_among u round ts number path
  pub is_after : after ≡ nearest_among u around ss number path
