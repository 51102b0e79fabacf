-- What becomes of the names that a module exports and declares.
use Rattle.std.specs.Prelude.{◌≡◌, false, ◌⊎◌, IsTrue, Some}
use Rattle.swc_tree_marks.specs.declared.ident.Ident.{Ident}
use Rattle.swc_tree_node.specs.declared.kind.Kind.{Kind}
use Rattle.swc_tree_node.specs.declared.kind.Class.TheVariants as class
use Rattle.swc_tree_node.specs.declared.slot.Content.TheVariants as content
use Rattle.swc_tree_node.specs.declared.slot.Slot.TheVariants as slot
use Rattle.swc_tree_node.specs.declared.node.Node.{Node, Identifier}
use Rattle.swc_tree_node.specs.Fits.{Fits}
use Rattle.swc_tree_scoping.specs.declared.places.Place.{Place}
use Rattle.swc_tree_scoping.specs.declared.places.Standing.TheVariants as standing
use Rattle.swc_tree_scoping.specs.Places.{Path, place_at, program_place}
use Rattle.swc_tree_scoping.specs.WellScoped.{InExportList}
use Rattle.swc_tree_grammar.specs.Normal.{written_out}
use Rattle.swc_tree_grammar.specs.Stripped.{stripped}
use Rattle.swc_tree_grammar.specs.Targets.{all_bare}
use Rattle.swc_tree_renaming.specs.Apart.{SameId}
use Rattle.swc_tree_spaces.specs.NoTypes.{ListsAreItems}
use Rattle.swc_tree_sites.specs.Sites.{Binding, taken_at}
use Rattle.swc_tree_sites.specs.Smaller.{In}
use Rattle.swc_tree_sites_written.specs.Tame.{is_tame}
use Rattle.swc_tree_sites_kept.specs.Exported.{exported_locals}

-- a stripped module exports the same
abbrev pub StrippedExportsTheSame : Type 0
StrippedExportsTheSame = (t : Node) → Fits t (slot.One (content.Node class.Module)) → IsTrue (all_bare t) → exported_locals (stripped t) ≡ exported_locals t

-- the program takes a binding of the id
abbrev pub ProgramTakes : Node → Ident → Type 0
ProgramTakes t i = (b : Binding) × In b (taken_at program_place t) × SameId b.1 i

-- a module that is tame, written out, exports what it did, and else only what its program takes
pub record Exports (t : Node) : Type 0 where
  pub kept : (i : Ident) → In i (exported_locals t) → In i (exported_locals (written_out t))
  pub gained : (i : Ident) → In i (exported_locals (written_out t)) → In i (exported_locals t) ⊎ ProgramTakes t i

abbrev pub WrittenOutExports : Type 0
WrittenOutExports = (t : Node) → Fits t (slot.One (content.Node class.Module)) → IsTrue (is_tame t false) → Exports t

-- the references in export lists are what is exported so, where each export list is an item of the module
abbrev pub ExportListsAreListed : Type 0
ExportListsAreListed = (t : Node) → Fits t (slot.One (content.Node class.Module)) → ListsAreItems t → (p : Path) (w : Place) (k : Kind) (i : Ident) → InExportList t p → place_at program_place t p ≡ Some (w, Identifier k i) → w.standing ≡ standing.Reference
    → In i (exported_locals t)
