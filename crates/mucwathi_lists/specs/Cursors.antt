-- Where a place is, and what is known of it.
use Rattle.std.specs.Prelude.{◌≡◌, ℕ, ◌+◌, ◌≤◌, List, length, min}
use Rattle.text_places.specs.Places as spec
use Rattle.text_places.specs.declared.place.Place.{Place}
use Rattle.mucwathi_lists.specs.declared.cursor.Cursor.{Cursor}

-- the line and the column of what stands behind so many bytes of a text, or of its end
pub record IsPlaceOf (text : List ℕ) (at : ℕ) (p : Place) : Type 0 where
  pub line : p.line ≡ spec.line text (min at (length text))
  pub column : p.column ≡ spec.column text (min at (length text))

-- a cursor is in a text, and knows its line and column
pub record IsIn (text : List ℕ) (c : Cursor) : Type 0 where
  pub within : c.at ≤ length text
  pub line : c.place.line ≡ spec.line text c.at
  pub column : c.place.column ≡ spec.column text c.at
  pub low_line : c.place.line ≤ c.at + 1
  pub low_column : c.place.column ≤ c.at + 1
