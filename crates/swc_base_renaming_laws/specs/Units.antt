-- Which names count where something reads names, and units are named alone.
use Rattle.std.specs.Prelude.{ℕ, Bool, Option, List}
use Rattle.swc_tree_marks.specs.Globals.{Table}
use Rattle.swc_tree_node.specs.declared.slot.Slot.{Slot}
use Rattle.swc_tree_node.specs.declared.node.Node.{Node}
use Rattle.swc_tree_node.specs.Fits.{Fits}
use Rattle.swc_tree_scoping.specs.BoundNames.{Id}
use Rattle.swc_tree_scoping.specs.Places.{Path}
use Rattle.swc_tree_scoping.specs.WellScoped.{WellScoped}
use Rattle.swc_base_rename_analysis.specs.Named.{Named, Renaming, all_count, outer_count}
use Rattle.swc_base_rename_units.specs.Units.{IsOutermost}
use Rattle.swc_base_rename_program.specs.Renamed.{IsPreservedByTop, IsPreservedInUnit, IsRenamedByUnits}

-- the map is named both where all names count, and where only those of a scope and of the scopes round it do
abbrev pub IsNamedEitherWay : Node → Renaming → (List ℕ → Type 0) → (Id → Option (List ℕ)) → Type 0
IsNamedEitherWay t r preserved new_texts = Named t r preserved all_count new_texts × Named t r preserved (outer_count t) new_texts

-- where something reads names in a well-scoped tree that fits some place, it is one which of the two count: for the map of the
-- tree, and for that of each outermost unit without a reader of names
abbrev pub MapsByUnitsAreFlat : Type 0
MapsByUnitsAreFlat = (table : Table) (top : ℕ) (r : Renaming) (keeps : Bool) (before after : Node) (s : Slot) (renamed : IsRenamedByUnits table top r keeps before after) → Fits before s → WellScoped before
    → IsNamedEitherWay before renamed.kept (IsPreservedByTop top before r.preserves) renamed.new_texts
    × ((p : Path) (u : Node) (o : IsOutermost before p u) → IsNamedEitherWay u r (IsPreservedInUnit top before r.preserves u) (renamed.units.units p u o).2.new_texts)
