-- In units, and in all maps where something reads names, the names that count are those of a scope and of the scopes round it.
use Rattle.std.proofs.Common.{◌↔◌, ℕ, Bool, true, false, Option, List}
use Rattle.swc_tree_node.specs.declared.slot.Slot.{Slot}
use Rattle.swc_tree_node.specs.declared.node.Node.{Node}
use Rattle.swc_tree_node.specs.Fits.{Fits}
use Rattle.swc_tree_scoping.specs.BoundNames.{Id}
use Rattle.swc_tree_scoping.specs.Places.{Path}
use Rattle.swc_tree_scoping.specs.WellScoped.{WellScoped}
use Rattle.swc_base_rename_units.specs.Units.{IsUnit}
use Rattle.swc_base_rename_analysis.specs.Named.{Named, Renaming, all_count, outer_count}
use Rattle.swc_base_rename_naming_laws.specs.Rules.{counting, counting_by}
use Rattle.swc_base_rename_program.specs.Renamed.{IsPreservedByTop, IsPreservedInUnit}
use Rattle.swc_base_rename_scoped_laws.proofs.Chained.{chained_is_flat, counts_outside, flat_where_outside}
use Rattle.swc_base_renaming_laws.specs.Units.{IsNamedEitherWay, MapsByUnitsAreFlat}
use Rattle.swc_base_renaming_laws.proofs.Units.{unit_at}
use Rattle.swc_base_renaming_laws.proofs.Whole.{counts_in_unit}

-- a unit
in_unit : (t unit : Node) (s : Slot) (p : Path) (r : Renaming) (preserved : List ℕ → Type 0) (new_texts : Id → Option (List ℕ)) → Fits t s → WellScoped t → IsUnit t p unit
    → Named unit r preserved all_count new_texts ↔ Named unit r preserved (outer_count unit) new_texts
in_unit t unit s p r preserved new_texts fit scoped is = flat_where_outside unit (counts_in_unit t unit p (unit_at t s p unit fit is) (counts_outside t s fit scoped)) r preserved new_texts

pub either_way : (t : Node) (r q : Renaming) (preserved : List ℕ → Type 0) (new_texts : Id → Option (List ℕ)) → Named t r preserved all_count new_texts ↔ Named t r preserved (outer_count t) new_texts
    → Named t r preserved (counting t q) new_texts → IsNamedEitherWay t r preserved new_texts
either_way t r q preserved new_texts law = by q.mangles
  where
    by : (b : Bool) → Named t r preserved (counting_by b t) new_texts → IsNamedEitherWay t r preserved new_texts
    by true m = (law.1 m, m)
    by false m = (m, law.0 m)

pub maps_by_units_are_flat : MapsByUnitsAreFlat
maps_by_units_are_flat table top r keeps before after s renamed fit scoped = (
  either_way before renamed.kept r (IsPreservedByTop top before r.preserves) renamed.new_texts (chained_is_flat before s fit scoped renamed.kept (IsPreservedByTop top before r.preserves) renamed.new_texts) renamed.named,
  λ p u o. either_way u r r (IsPreservedInUnit top before r.preserves u) (renamed.units.units p u o).2.new_texts
      (in_unit before u s p r (IsPreservedInUnit top before r.preserves u) (renamed.units.units p u o).2.new_texts fit scoped o.unit) (renamed.units.units p u o).2.named,
)
