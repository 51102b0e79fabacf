-- What a renamer's pass promises beside its map: that few texts were tried, that on well-scoped programs it is one which names count, and
-- that counters are spent only where many texts are taken.
use Rattle.std.specs.Prelude.{◌⊎◌}
use Rattle.std.proofs.Common.{inl, inr}
use Rattle.swc_tree_marks.specs.Globals.{Table}
use Rattle.swc_tree_marks.specs.declared.error.PassError.{PassError}
use Rattle.swc_tree_marks.specs.declared.error.PassError.TheVariants as pass
use Rattle.swc_tree_node.specs.declared.node.Node.{Node}
use Rattle.swc_tree_node.specs.declared.slot.Slot.{Slot}
use Rattle.swc_tree_node.specs.Fits.{Fits}
use Rattle.swc_tree_scoping.specs.Places.{Path}
use Rattle.swc_tree_scoping.specs.WellScoped.{WellScoped}
use Rattle.swc_base_rename_substitution.specs.declared.config.Config.{Config}
use Rattle.swc_base_rename_analysis.specs.Named.{Renaming}
use Rattle.swc_base_rename_analysis.specs.Preserved.{IsPreserved}
use Rattle.swc_base_rename_naming_laws.specs.Rules.{counting}
use Rattle.swc_base_rename_units.specs.Units.{IsOutermost}
use Rattle.swc_base_rename_program.specs.Renamed.{IsPreservedByTop, IsPreservedInUnit, IsRead, IsRenamedBy, IsRenameRefusal, IsSpentAtTop, IsSpentBy, IsSpentInUnit}
use Rattle.swc_base_renaming_laws.specs.Tries.{EachTakesFewTries, IsCrowded}
use Rattle.swc_base_renaming_laws.specs.Units.{IsNamedEitherWay}

module _ (table : Table) (config : Config) (r : Renaming) (before after : Node) (h : IsRenamedBy table config r before after) where
  -- the counter of each id is at most as far past its start as there are preserved texts and ids named before it
  pub record TakesFew : Type 0 where
    pub whole : (unread : ¬ IsRead config before) → EachTakesFewTries before r (IsPreserved before r.preserves) (h.whole unread).named.taken
    pub top : (read : IsRead config before) → EachTakesFewTries before (h.by_units read).kept (IsPreservedByTop config.top_level_mark before r.preserves) (h.by_units read).named.taken
    pub units : (read : IsRead config before) (p : Path) (u : Node) (o : IsOutermost before p u) → EachTakesFewTries u r (IsPreservedInUnit config.top_level_mark before r.preserves u) ((h.by_units read).units.units p u o).2.named.taken

  -- on a well-scoped program each map is named both where all names count and where only those of a scope and of the scopes round it do
  pub record IsFlat : Type 0 where
    pub whole : WellScoped before → (unread : ¬ IsRead config before) → IsNamedEitherWay before r (IsPreserved before r.preserves) (h.whole unread).new_texts
    pub top : WellScoped before → (read : IsRead config before) → IsNamedEitherWay before (h.by_units read).kept (IsPreservedByTop config.top_level_mark before r.preserves) (h.by_units read).new_texts
    pub units : WellScoped before → (read : IsRead config before) (p : Path) (u : Node) (o : IsOutermost before p u)
        → IsNamedEitherWay u r (IsPreservedInUnit config.top_level_mark before r.preserves u) ((h.by_units read).units.units p u o).2.new_texts

module _ (table : Table) (config : Config) (r : Renaming) (t : Node) where
  abbrev pub IsCrowdedByUnits : IsSpentAtTop table config.top_level_mark r t ⊎ IsSpentInUnit config.top_level_mark r t → Type 0
  IsCrowdedByUnits (inl s) = IsCrowded t s.kept (IsPreservedByTop config.top_level_mark t r.preserves) (counting t r) s.spent
  IsCrowdedByUnits (inr s) = IsCrowded s.1 r (IsPreservedInUnit config.top_level_mark t r.preserves s.1) (counting s.1 r) s.3

  -- where the counters are spent at an id there are as many preserved texts and ids named before it as counters from its start on
  pub record IsCrowdedBy (h : IsSpentBy table config r t) : Type 0 where
    pub whole : (unread : ¬ IsRead config t) → IsCrowded t r (IsPreserved t r.preserves) (counting t r) (h.whole unread)
    pub by_units : (read : IsRead config t) → IsCrowdedByUnits (h.by_units read)

  abbrev pub IsOfCrowding : (e : PassError) → IsRenameRefusal table config r t e → Type 0
  IsOfCrowding pass.CounterSpent h = IsCrowdedBy h
  IsOfCrowding pass.NoMemory h = Unit {0}
  IsOfCrowding pass.MarksSpent h = ⊥
  IsOfCrowding pass.NotAssignable h = ⊥
  IsOfCrowding pass.TypesLeft h = ⊥

-- all of it follows from what a renamer makes of a tree that fits some place, as each module and each script does, and from why it refuses one
abbrev pub MapsHaveBounds : Type 0
MapsHaveBounds = (table : Table) (config : Config) (r : Renaming) (before after : Node) (place : Slot) → Fits before place → (h : IsRenamedBy table config r before after)
    → TakesFew table config r before after h × IsFlat table config r before after h

abbrev pub RefusalsAreOfCrowding : Type 0
RefusalsAreOfCrowding = (table : Table) (config : Config) (r : Renaming) (t : Node) (e : PassError) (h : IsRenameRefusal table config r t e) → IsOfCrowding table config r t e h
