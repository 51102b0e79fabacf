-- The table of marks: pairs of a mark's number and its parent's, in the order in which they were made.
use Rattle.std.specs.Prelude.{◌≡◌, ℕ, ◌+◌, ◌<◌, ◌==◌, zero, suc, max, List, [], ◌∷◌, ◌++◌, ◌⊎◌, length, take, map, Contains, slice_index_or, if◌then◌else◌, find}
use Rattle.std.specs.List.{list_any}
use Rattle.std.specs.Option.{option_map_or}
use Rattle.swc_tree_marks.specs.declared.error.MarkError.{MarkError}
use Rattle.swc_tree_marks.specs.declared.error.MarkError.TheVariants.{MarksSpent, NoMemory, BadTable}

-- a mark's number, then its parent's
abbrev pub Table : Type 0
Table = List (ℕ × ℕ)

abbrev pub numbers : Table → List ℕ
numbers table = map (λ row. row.0) table

-- the greatest number, or 0 in the empty table
abbrev pub greatest : Table → ℕ
greatest [] = 0
greatest (row ∷ rest) = max row.0 (greatest rest)

-- the root, or a mark of the table
abbrev pub Knows : Table → ℕ → Type 0
Knows table mark = (mark ≡ 0) ⊎ Contains (numbers table) mark

-- a pair that may stand after the others: its number is above theirs and not 0, and they know its parent
abbrev pub Follows : Table → ℕ × ℕ → Type 0
Follows before row = (greatest before < row.0) × Knows before row.1

abbrev pub row_at : Table → ℕ → ℕ × ℕ
row_at table i = slice_index_or table i (0, 0)

-- the pair at i is the number's
pub record IsPlaceOf (table : Table) (number i : ℕ) : Type 0 where
  pub within : i < length table
  pub is : (row_at table i).0 ≡ number

-- each pair follows those before it
abbrev pub IsTable : Table → Type 0
IsTable table = (i : ℕ) → i < length table → Follows (take i table) (row_at table i)

-- the pair at i is the first that does not follow those before it
pub record IsFirstBad (table : Table) (i : ℕ) : Type 0 where
  pub within : i < length table
  pub before : IsTable (take i table)
  pub bad : ¬ Follows (take i table) (row_at table i)

-- what a refusal says of the table: it blames the first bad pair, or memory where there is none
abbrev pub RefusesTable : Table → MarkError → Type 0
RefusesTable table (BadTable i) = IsFirstBad table i
RefusesTable table NoMemory = IsTable table
RefusesTable table MarksSpent = ⊥

-- the parent of a mark of the table, and the root for any other
abbrev pub parent_in : Table → ℕ → ℕ
parent_in table mark = option_map_or (λ row. row.1) (find (λ row. row.0 == mark) table) 0

-- the parent as the table records it: one that the table does not know counts as the root
abbrev pub recorded : Table → ℕ → ℕ
recorded table parent = if list_any (λ row. row.0 == parent) table then parent else 0

-- the table with one fresh mark more
abbrev pub with_fresh : Table → ℕ → Table
with_fresh table parent = table ++ (greatest table + 1, recorded table parent) ∷ []

-- the mark that lies so many steps above another on the way through parents
abbrev pub ancestor_at : Table → ℕ → ℕ → ℕ
ancestor_at table mark zero = mark
ancestor_at table mark (suc steps) = ancestor_at table (parent_in table mark) steps

-- the ancestor is the mark itself, or is met on the way through parents
abbrev pub IsDescendant : Table → ℕ → ℕ → Type 0
IsDescendant table mark ancestor = (steps : ℕ) × (ancestor_at table mark steps ≡ ancestor)

-- the table with so many fresh marks more, each under the same parent
abbrev pub with_fresh_marks : Table → ℕ → ℕ → Table
with_fresh_marks table parent zero = table
with_fresh_marks table parent (suc count) = with_fresh (with_fresh_marks table parent count) parent
