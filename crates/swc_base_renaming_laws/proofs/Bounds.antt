-- The bounds follow from the map, by the laws of names.
use Rattle.std.proofs.Common.{◌⊎◌, inl, inr}
use Rattle.swc_tree_marks.specs.Globals.{Table}
use Rattle.swc_tree_marks.specs.declared.error.PassError.{PassError}
use Rattle.swc_tree_marks.specs.declared.error.PassError.TheVariants as pass
use Rattle.swc_tree_node.specs.declared.node.Node.{Node}
use Rattle.swc_tree_node.specs.declared.slot.Slot.{Slot}
use Rattle.swc_tree_node.specs.Fits.{Fits}
use Rattle.swc_base_rename_substitution.specs.declared.config.Config.{Config}
use Rattle.swc_base_rename_analysis.specs.Named.{Renaming}
use Rattle.swc_base_rename_analysis.specs.Preserved.{IsPreserved}
use Rattle.swc_base_rename_naming_laws.specs.Rules.{counting}
use Rattle.swc_base_rename_program.specs.Renamed.{IsPreservedByTop, IsPreservedInUnit, IsRenamedBy, IsRenameRefusal, IsSpentAtTop, IsSpentBy, IsSpentInUnit}
use Rattle.swc_base_renaming_laws.proofs.Few.{named_few, spent_crowded, tries_by_units_are_few}
use Rattle.swc_base_rename_scoped_laws.proofs.Chained.{chained_is_flat}
use Rattle.swc_base_renaming_laws.proofs.Laws.{either_way, maps_by_units_are_flat}
use Rattle.swc_base_renaming_laws.specs.Bounds.{IsCrowdedBy, IsCrowdedByUnits, IsFlat, IsOfCrowding, MapsHaveBounds, RefusalsAreOfCrowding, TakesFew}

pub takes_few : (table : Table) (config : Config) (r : Renaming) (before after : Node) (h : IsRenamedBy table config r before after) → TakesFew table config r before after h
takes_few table config r before after h = record {
  whole = λ unread. named_few before r (IsPreserved before r.preserves) (counting before r) (h.whole unread).new_texts (h.whole unread).named;
  top = λ read. (tries_by_units_are_few table config.top_level_mark r config.keep_class_names before after (h.by_units read)).0;
  units = λ read. (tries_by_units_are_few table config.top_level_mark r config.keep_class_names before after (h.by_units read)).1;
}

pub is_flat : (table : Table) (config : Config) (r : Renaming) (before after : Node) (place : Slot) → Fits before place → (h : IsRenamedBy table config r before after) → IsFlat table config r before after h
is_flat table config r before after place fit h = record {
  whole = λ scoped unread. either_way before r r (IsPreserved before r.preserves) (h.whole unread).new_texts (chained_is_flat before place fit scoped r (IsPreserved before r.preserves) (h.whole unread).new_texts) (h.whole unread).named;
  top = λ scoped read. (maps_by_units_are_flat table config.top_level_mark r config.keep_class_names before after place (h.by_units read) fit scoped).0;
  units = λ scoped read. (maps_by_units_are_flat table config.top_level_mark r config.keep_class_names before after place (h.by_units read) fit scoped).1;
}

pub maps_have_bounds : MapsHaveBounds
maps_have_bounds table config r before after place fit h = (takes_few table config r before after h, is_flat table config r before after place fit h)

module _ (table : Table) (config : Config) (r : Renaming) (t : Node) where
  crowded_by_units : (s : IsSpentAtTop table config.top_level_mark r t ⊎ IsSpentInUnit config.top_level_mark r t) → IsCrowdedByUnits table config r t s
  crowded_by_units (inl s) = spent_crowded t s.kept (IsPreservedByTop config.top_level_mark t r.preserves) (counting t r) s.spent
  crowded_by_units (inr s) = spent_crowded s.1 r (IsPreservedInUnit config.top_level_mark t r.preserves s.1) (counting s.1 r) s.3

  crowded_by : (h : IsSpentBy table config r t) → IsCrowdedBy table config r t h
  crowded_by h = record {
    whole = λ unread. spent_crowded t r (IsPreserved t r.preserves) (counting t r) (h.whole unread);
    by_units = λ read. crowded_by_units (h.by_units read);
  }

  pub of_crowding : (e : PassError) (h : IsRenameRefusal table config r t e) → IsOfCrowding table config r t e h
  of_crowding pass.CounterSpent h = crowded_by h
  of_crowding pass.NoMemory h = tt
  of_crowding pass.MarksSpent h = h
  of_crowding pass.NotAssignable h = h
  of_crowding pass.TypesLeft h = h

pub refusals_are_of_crowding : RefusalsAreOfCrowding
refusals_are_of_crowding = of_crowding
