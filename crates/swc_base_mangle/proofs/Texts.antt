-- Renamings by short texts.
use Rattle.std.proofs.Common.{◌≡◌, Bool, true, false}
use Rattle.swc_tree_scoping.specs.BoundNames.{Id}
use Rattle.swc_base_rename_analysis.specs.Named.{Renaming}
use Rattle.swc_base_rename_by_use.specs.ByUse.{text_by_use}
use Rattle.swc_base_rename_by_use.specs.declared.by_use.TextsByUse.{TextsByUse}
use Rattle.swc_base_rename_program.specs.Renamed.{renaming}

abbrev pub by_test : TextsByUse → (Id → Bool) → Renaming
by_test texts test = renaming (λ x n. text_by_use texts x n) (record { mangles = false; resets = true }) test

-- two that preserve the same ids are one
pub same_test : (texts : TextsByUse) (a b : Id → Bool) → ((x : Id) → a x ≡ b x) → by_test texts a ≡ by_test texts b
same_test texts a b e j = by_test texts (λ x. e x j)
