-- Which ids meet in a tree whose names are given anew.
use Rattle.std.specs.Prelude.{◌≡◌, false, [], map, unwrap_or}
use Rattle.swc_tree_node.specs.declared.slot.Slot.{Slot}
use Rattle.swc_tree_node.specs.declared.node.Node.{Node}
use Rattle.swc_tree_node.specs.Fits.{Fits}
use Rattle.swc_tree_scoping.specs.BoundNames.{Id}
use Rattle.swc_tree_sites.specs.Smaller.{In}
use Rattle.swc_base_rename_substitution.specs.Identifiers.{Changes}
use Rattle.swc_base_rename_substitution.specs.Substituted.{Substituted}
use Rattle.swc_base_renaming_laws.specs.Meetings.{Bound, Met, met}

-- the new id of an id: its own where none is given
abbrev pub anew : Changes → Id → Id
anew m x = unwrap_or (m x) x

abbrev pub other_bound : (Id → Id) → Bound → Bound
other_bound g b = (b.0, g b.1)

abbrev pub other_pair : (Id → Id) → Id × Id → Id × Id
other_pair g z = (g z.0, g z.1)

-- what meets, with other ids in place of those that are there
abbrev pub mapped : (Id → Id) → Met → Met
mapped g a = record { pending = map (other_bound g) a.pending; names = map g a.names; pairs = map (other_pair g) a.pairs }

-- in the first nothing is pending, its names are names of the second, and what meets in it meets there
pub record MeetsNoMore (a b : Met) : Type 0 where
  pub pending : a.pending ≡ []
  pub names : (x : Id) → In x a.names → In x b.names
  pub pairs : (z : Id × Id) → In z a.pairs → In z b.pairs

-- in a tree that fits some place, as each module and each script does, in which a scope takes each binding, where names are given anew
-- and no class keeps its name, new ids meet of ids that met: what is added to export lists meets what the bindings meet
abbrev pub SubstitutionKeepsMeetings : Type 0
SubstitutionKeepsMeetings = (m : Changes) (place : Slot) (t answer : Node) → Fits t place → (met t).pending ≡ [] → Substituted m false t answer → MeetsNoMore (met answer) (mapped (anew m) (met t))
