-- A renamer's pass over a program, by what it makes of the tree.
use Rattle.std.proofs.Common.{◌≡◌, ℕ, Bool, List, refl, subst, sym, ◌∙◌}
use Rattle.std.specs.HashSet.{HashSet, contains}
use Rattle.swc_tree_marks.specs.declared.error.PassError.{PassError}
use Rattle.swc_tree_marks.specs.Globals.{Table}
use Rattle.swc_tree_node.specs.declared.node.Node.{Node}
use Rattle.swc_tree_scoping.specs.BoundNames.{Id}
use Rattle.swc_base_rename_naming.specs.Ids.{HasJust}
use Rattle.swc_base_rename_program.specs.declared.mode.Mode.{Mode}
use Rattle.swc_base_rename_program.specs.Renamed.{IsRenameRefusal, IsRenamedBy, renaming}
use Rattle.swc_base_renaming_laws.specs.Renamers.{IsRenamedAndCleared}
use Rattle.swc_base_rename_substitution.specs.declared.config.Config.{Config}
use Rattle.swc_base_rename_substitution.specs.Names.{same_id}

module _ {S : Type 0} (text : Id → ℕ → List ℕ) (mode mode' : Mode) (ids : HashSet Id S) (preserves : Id → Bool) (set : mode ≡ mode') (just : HasJust preserves ids) where
  same_renaming : renaming text mode (contains same_id ids) ≡ renaming text mode' preserves
  same_renaming j = renaming text (set j) (λ x. just x j)

  pub renamed_by : (table : Table) (config : Config) (before before' after after' : Node) → before ≡ before' → after ≡ after' → IsRenamedBy table config (renaming text mode (contains same_id ids)) before after
      → IsRenamedBy table config (renaming text mode' preserves) before' after'
  renamed_by table config before before' after after' e f h =
      subst (λ r. IsRenamedBy table config r before' after') same_renaming
      (subst (λ t. IsRenamedBy table config (renaming text mode (contains same_id ids)) before' t) f (subst (λ t. IsRenamedBy table config (renaming text mode (contains same_id ids)) t after) e h))

  pub refused_by : (table : Table) (config : Config) (before before' : Node) (e : PassError) → before ≡ before' → IsRenameRefusal table config (renaming text mode (contains same_id ids)) before e → IsRenameRefusal table config (renaming text mode' preserves) before' e
  refused_by table config before before' e same h =
      subst (λ r. IsRenameRefusal table config r before' e) same_renaming (subst (λ t. IsRenameRefusal table config (renaming text mode (contains same_id ids)) t e) same h)

-- so it is where contexts are emptied then
module _ {S : Type 0} (text : Id → ℕ → List ℕ) (mode : Mode) (ids : HashSet Id S) (preserves : Id → Bool) (just : HasJust preserves ids) where
  pub settled_by : (table : Table) (config : Config) (before before' after after' : Node) → before ≡ before' → after ≡ after' → IsRenamedAndCleared table config (renaming text mode (contains same_id ids)) before after
      → IsRenamedAndCleared table config (renaming text mode preserves) before' after'
  settled_by table config before before' after after' e f (given, named, cleared) =
      (given, renamed_by text mode mode ids preserves refl just table config before before' given given e refl named, sym f ∙ cleared)
