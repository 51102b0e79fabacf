-- What a renamer's pass makes of a program.
use Rattle.std.specs.Prelude.{◌≡◌, ℕ, Bool, List}
use Rattle.swc_tree_marks.specs.declared.error.PassError.{PassError}
use Rattle.swc_tree_marks.specs.Globals.{Table}
use Rattle.swc_tree_node.specs.declared.node.Node.{Node}
use Rattle.swc_tree.specs.Types.{IsDeclined, IsMade}
use Rattle.swc_tree_scoping.specs.BoundNames.{Id}
use Rattle.swc_tree_spaces.specs.Spaces.{has_types}
use Rattle.swc_base_rename_analysis.specs.Named.{Renaming}
use Rattle.swc_base_rename_program.specs.Renamed.{IsRenameRefusal, IsRenamedBy}
use Rattle.swc_base_rename_naming.specs.Counters.{greatest}
use Rattle.swc_base_renaming_laws.specs.Tries.{TellsApart}
use Rattle.swc_base_renaming_laws.specs.Bounds.{IsFlat, IsOfCrowding, TakesFew}
use Rattle.swc_base_rename_substitution.specs.declared.config.Config.{Config}
use Rattle.swc_base_renaming_laws.specs.Renamers.{IsRenamedAndCleared}
use Rattle.swc_base_rename.specs.declared.renaming.RenamePass.{RenamePass}

module _ {X : Type 0} (text : X → Id → ℕ → List ℕ) (preserved : X → Node → Id → Bool) (asked : X → Node → X → Type 0) (mangles resets : Bool) where
  -- the texts are those of the renamer as its call for the preserved ids left it, and these those that it said then
  abbrev pub renaming_in : X → X → Node → Renaming
  renaming_in was is program = record { text = text is; mangles = mangles; resets = resets; preserves = preserved was program }

  -- names are given as the renamer has them, which was asked once for the ids that it preserves; few texts were tried for each, since it
  -- tells counters apart; on a well-scoped program it is one which names count; the configuration and the table of marks are as they were
  pub record RenamesNames (pass : RenamePass X) (old : Table) (before : Node) (kept : RenamePass X) (new : Table) (after : Node) : Type 0 where
    pub renamed : IsRenamedBy old pass.config (renaming_in pass.renamer kept.renamer before) before after
    pub apart : TellsApart (renaming_in pass.renamer kept.renamer before) greatest
    pub few : TakesFew old pass.config (renaming_in pass.renamer kept.renamer before) before after renamed
    pub flat : IsFlat old pass.config (renaming_in pass.renamer kept.renamer before) before after renamed
    pub once : asked pass.renamer before kept.renamer
    pub same : kept.config ≡ pass.config
    pub marks : new ≡ old

  -- a program is refused for want of memory, and where the counters are spent: as many texts are preserved and ids named before an id as there
  -- are counters from its start on; the renamer was asked once, and configuration and table are as they were
  pub record RefusesNames (pass : RenamePass X) (old : Table) (before : Node) (kept : RenamePass X) (new : Table) (e : PassError) : Type 0 where
    pub refusal : IsRenameRefusal old pass.config (renaming_in pass.renamer kept.renamer before) before e
    pub apart : TellsApart (renaming_in pass.renamer kept.renamer before) greatest
    pub crowded : IsOfCrowding old pass.config (renaming_in pass.renamer kept.renamer before) before e refusal
    pub once : asked pass.renamer before kept.renamer
    pub same : kept.config ≡ pass.config
    pub marks : new ≡ old

  -- so it is of a program in which no types stand; where some do, they are to blame, and the renamer was not asked
  abbrev pub RenamesProgram : RenamePass X → Table → Node → RenamePass X → Table → Node → Type 0
  RenamesProgram pass old before kept new after = IsMade (has_types before) (RenamesNames pass old before kept new after)

  abbrev pub RefusesProgram : RenamePass X → Table → Node → RenamePass X → Table → PassError → Type 0
  RefusesProgram pass old before kept new e = IsDeclined (has_types before) pass old kept new e (RefusesNames pass old before kept new e)

  -- hygiene by a renamer: names are given so, and then each context is empty; the renamer was asked once
  pub record SettlesNames (config : Config) (table : Table) (was : X) (before : Node) (is : X) (after : Node) : Type 0 where
    pub named : IsRenamedAndCleared table config (renaming_in was is before) before after
    pub once : asked was before is

  -- it is refused for want of memory, and where the counters are spent
  pub record RefusesSettling (config : Config) (table : Table) (was : X) (before : Node) (is : X) (e : PassError) : Type 0 where
    pub refusal : IsRenameRefusal table config (renaming_in was is before) before e
    pub once : asked was before is
