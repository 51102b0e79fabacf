-- What is among the identifiers of a program that pass a test.
use Rattle.std.proofs.Common.{refl}
use Rattle.swc_tree_scoping.specs.Places.{program_place}
use Rattle.swc_tree_walk.specs.Sites.{sites}
use Rattle.swc_tree_walk.proofs.Paths.{sites_stand}
use Rattle.swc_tree_walk_laws.specs.Filtered.{FilteredSitesStand}
use Rattle.swc_tree_walk_laws.proofs.Lists.{filtered_from, filtered_to}

pub filtered_sites_stand : FilteredSitesStand
filtered_sites_stand test t r i = (
  λ h. let (among, passes) = filtered_from test (sites program_place t) (r, i) h in ((sites_stand t (sites program_place t) refl r i).0 among, passes),
  λ (stands, passes). filtered_to test (sites program_place t) (r, i) ((sites_stand t (sites program_place t) refl r i).1 stands) passes,
)
