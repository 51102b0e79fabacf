-- What naming asks of a program, by what was read off it.
use Rattle.std.specs.Prelude.{◌≡◌, ℕ, ◌<◌, ◌≤◌, ◌⊎◌, Bool, ◌||◌, Option, Some, List, length, slice_get}
use Rattle.std.specs.BTreeMap.{BTreeMap}
use Rattle.std.specs.List.Sorted.{IsNonDecreasingBy}
use Rattle.std.specs.BTreeSet.{BTreeSet, contains_text}
use Rattle.std.specs.Prelude.{String}
use Rattle.swc_tree_scoping.specs.BoundNames.{Id}
use Rattle.swc_base_rename_analysis.specs.declared.analysis.Analysis.{Analysis}
use Rattle.swc_base_rename_analysis.specs.declared.layout.Region.{Region}
use Rattle.swc_base_rename_analysis.specs.Read.{PositionsRise}
use Rattle.swc_base_rename_analysis_laws.specs.Means.{surrounds}
use Rattle.swc_base_rename_naming.specs.ByIds.{AreApart, AreChanged}
use Rattle.swc_base_rename_naming.specs.Inside.{IsInPreorder}
use Rattle.swc_base_rename_naming.specs.InOrder.{NamedInOrder, Rules}
use Rattle.swc_base_rename_naming_laws.specs.Rules.{id_in, numbered_sites, rules_of}
use Rattle.swc_base_rename_program.specs.declared.mode.Mode.{Mode}
use Rattle.swc_base_rename_program.specs.Renamed.{renaming}

-- the texts that no new name may be: those of loose ids, and these
abbrev pub is_preserved_text : {S : Type 0} → Analysis → BTreeSet (String S) → List ℕ → Bool
is_preserved_text a texts x = contains_text a.loose x || contains_text texts x

-- the rules by which the ids of a program get their names
abbrev pub program_rules : {S : Type 0} → (Id → ℕ → List ℕ) → Mode → Analysis → (Id → Bool) → BTreeSet (String S) → Rules
program_rules text mode a keeps texts = rules_of (renaming text mode keeps) a (is_preserved_text a texts)

-- of two scopes the later one begins no earlier, and lies in the other or behind it
abbrev pub AreNested : List Region → Type 0
AreNested rs = (m n : ℕ) (r q : Region) → m < n → slice_get rs m ≡ Some r → slice_get rs n ≡ Some q → (r.start ≤ q.start) × ((q.end ≤ r.end) ⊎ (r.end ≤ q.start))

-- what was read off a tree is such that names can be given by it
pub record IsWellRead (a : Analysis) : Type 0 where
  pub in_preorder : IsInPreorder (surrounds a) (numbered_sites a)
  pub apart : AreApart (id_in a)
  pub rising : PositionsRise a
  pub by_scopes : IsNonDecreasingBy (λ s. s.scope) a.sites.items
  pub nested : AreNested a.regions.items

-- the table is of the texts that the rules give to the ids by their numbers
pub record AreNamedTexts (rules : Rules) (a : Analysis) (table : Option (BTreeMap Id (List ℕ))) : Type 0 where
  pub texts : ℕ → Option (List ℕ)
  pub named : NamedInOrder rules (numbered_sites a) texts
  pub count : ℕ
  pub enough : length a.ids.items ≤ count
  pub is_table : AreChanged (id_in a) count texts table
