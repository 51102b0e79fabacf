-- What is among the identifiers of a program that pass a test.
use Rattle.std.specs.Prelude.{Bool, IsTrue, List, Contains, ◌↔◌}
use Rattle.std.specs.List.{filter}
use Rattle.swc_tree_marks.specs.declared.ident.Ident.{Ident}
use Rattle.swc_tree_node.specs.declared.node.Node.{Node}
use Rattle.swc_tree_scoping.specs.declared.places.Standing.{Standing}
use Rattle.swc_tree_scoping.specs.Places.{program_place}
use Rattle.swc_tree_walk.specs.Sites.{StandsIn, sites}

-- it is among them exactly if it passes, and stands so at some path
abbrev pub FilteredSitesStand : Type 0
FilteredSitesStand = (test : Standing × Ident → Bool) (t : Node) (r : Standing) (i : Ident) → Contains (filter test (sites program_place t)) (r, i) ↔ (StandsIn program_place t r i × IsTrue (test (r, i)))
