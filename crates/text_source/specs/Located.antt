-- Where a fault is, for people.
use Rattle.std.specs.Prelude.{ℕ, List, Option, Some, None, length, min}
use Rattle.text_places.specs.declared.place.Place.{Place}
use Rattle.text_places.specs.Places as places
use Rattle.text_reader.specs.declared.fault.TextFault.{TextFault}
use Rattle.text_reader.specs.Faults.{place_of}

-- the line and the column of what stands behind so many bytes (ECMA-262, 12.3); more bytes than the text has are its end
abbrev pub place_behind : List ℕ → ℕ → Place
place_behind text at = record { line = places.line text (min at (length text)); column = places.column text (min at (length text)) }

-- the same where there is a place
abbrev pub place_at : List ℕ → Option ℕ → Option Place
place_at text None = None
place_at text (Some at) = Some (place_behind text at)

-- that of a fault
abbrev pub place_told : List ℕ → TextFault → Option Place
place_told text fault = place_at text (place_of fault)
