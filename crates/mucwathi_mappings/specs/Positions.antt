-- Lines and columns as source maps have them.
use Rattle.std.specs.Prelude.{◌≡◌, ℕ, zero, suc, ◌+◌, ◌-◌, ◌≤◌, List, Bool, ◌||◌, nat_le, if◌then◌else◌, length, slice_index}
use Rattle.text_places.specs.Places.{begins_character, ends_line}
use Rattle.mucwathi_mappings.specs.declared.positions.Mark.{Mark}
use Rattle.mucwathi_mappings.specs.declared.positions.Position.{Position}

-- a byte stands for a unit of UTF-16: the first of a character, and the second of one past U+FFFF, which begins with 240 or more
abbrev pub is_unit : List ℕ → ℕ → Bool
is_unit text i = begins_character (slice_index text i) || nat_le 240 (slice_index text (i - 1))

-- the line of what stands behind so many bytes, from 0
abbrev pub line : List ℕ → ℕ → ℕ
line text zero = 0
line text (suc i) = if ends_line text i then line text i + 1 else line text i

-- its column: how many units of its line are before it
abbrev pub column : List ℕ → ℕ → ℕ
column text zero = 0
column text (suc i) = if ends_line text i then 0 else if is_unit text i then column text i + 1 else column text i

-- a position is that of what stands behind so many bytes
pub record IsPosition (text : List ℕ) (at : ℕ) (p : Position) : Type 0 where
  pub line_is : p.line ≡ line text at
  pub column_is : p.column ≡ column text at
  pub low_line : p.line ≤ at
  pub low_column : p.column ≤ at

-- a mark is in a text, with its position
pub record IsMark (text : List ℕ) (m : Mark) : Type 0 where
  pub within : m.at ≤ length text
  pub placed : IsPosition text m.at m.position
