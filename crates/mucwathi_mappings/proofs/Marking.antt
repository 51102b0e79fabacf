-- Marks in a text.
use Rattle.std.proofs.Common.{◌≡◌, ℕ, ◌<◌, List, All, get_or, length, refl, sym, subst, arith}
use Rattle.std.proofs.lemmas.List.Elements.{All-get_or}
use Rattle.mucwathi_mappings.specs.declared.positions.Mark.{Mark}
use Rattle.mucwathi_mappings.specs.declared.positions.Position.{Position}
use Rattle.mucwathi_mappings.specs.Positions.{IsMark, IsPosition}

abbrev start : Position
start = record { line = 0; column = 0 }

pub first_position : (text : List ℕ) → IsPosition text 0 start
first_position text = record { line_is = refl; column_is = refl; low_line = omega arith; low_column = omega arith }

pub first_mark : (text : List ℕ) → IsMark text (record { at = 0; position = start })
first_mark text = record { within = omega arith; placed = first_position text }

pub mark_at : (text : List ℕ) (marks : List Mark) (i : ℕ) (m : Mark) → i < length marks → m ≡ get_or marks i m → All (IsMark text) marks → IsMark text m
mark_at text marks i m below is all = subst (IsMark text) (sym is) (All-get_or (IsMark text) marks i m below all)
