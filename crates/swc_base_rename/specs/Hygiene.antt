-- What hygiene makes of a program.
use Rattle.std.specs.Prelude.{◌≡◌}
use Rattle.swc_tree_marks.specs.declared.error.PassError.{PassError}
use Rattle.swc_tree_marks.specs.Globals.{Table}
use Rattle.swc_tree_node.specs.declared.node.Node.{Node}
use Rattle.swc_tree_grammar.specs.Normal.{normal_form}
use Rattle.swc_tree_grammar.specs.Writable.{Writable}
use Rattle.swc_base_rename_program.specs.Renamed.{IsHygienic, IsRenameRefusal, hygiene_renaming}
use Rattle.swc_base_rename_laws.specs.NewNames.{SameButForNames}
use Rattle.swc_base_renaming_laws.specs.Hygiene.{IsPlain}
use Rattle.swc_base_rename.specs.declared.hygienic.Hygiene.{Hygiene}

-- names are given and contexts are empty; where no name is kept for a reader, the normal form of a module that can be written down is
-- what it was, spans too, but for texts and contexts; the pass and the table of marks are as they were
pub record MakesHygienic (pass : Hygiene) (old : Table) (before : Node) (kept : Hygiene) (new : Table) (after : Node) : Type 0 where
  pub hygienic : IsHygienic old pass.config before after
  pub spans : IsPlain pass.config before → Writable before → SameButForNames (normal_form before) (normal_form after)
  pub same : kept ≡ pass
  pub marks : new ≡ old

-- so it is of a program of the goal Script, of whose normal form nothing is said
pub record MakesScriptHygienic (pass : Hygiene) (old : Table) (before : Node) (kept : Hygiene) (new : Table) (after : Node) : Type 0 where
  pub hygienic : IsHygienic old pass.config before after
  pub same : kept ≡ pass
  pub marks : new ≡ old

-- a program is refused for want of memory, and where the counters are spent; the pass and the table are as they were
pub record RefusesHygiene (pass : Hygiene) (old : Table) (before : Node) (kept : Hygiene) (new : Table) (e : PassError) : Type 0 where
  pub refusal : IsRenameRefusal old pass.config hygiene_renaming before e
  pub same : kept ≡ pass
  pub marks : new ≡ old
