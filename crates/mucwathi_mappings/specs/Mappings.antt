-- The mappings of a source map: of line after line, what each place is told of.
use Rattle.std.specs.Borrow.{Bor}
use Rattle.std.specs.BTreeMap.{BTreeMap, IsOrdered}
use Rattle.std.specs.List.{AllZip}
use Rattle.std.specs.Ordering.{nat_cmp}
use Rattle.std.specs.Prelude.{◌≡◌, ℕ, ◌+◌, All, Bool, true, false, List, [], ◌∷◌, ◌++◌, Option, Some, None, length, min, unwrap_or}
use Rattle.mucwathi_mappings.specs.Names.{AreNumbered, texts_of}
use Rattle.mucwathi_mappings.specs.Nodes.{IsNumberOf, old_names, with_old}
use Rattle.mucwathi_mappings.specs.Numbers.{IsNumber, way}
use Rattle.mucwathi_mappings.specs.Positions.{IsMark, column, line}
use Rattle.mucwathi_mappings.specs.declared.encode.Entry.{Entry}
use Rattle.mucwathi_mappings.specs.declared.encode.Sides.{Sides}
use Rattle.mucwathi_mappings.specs.declared.encode.Told.{Told}
use Rattle.mucwathi_mappings.specs.declared.names.Names.{Names}
use Rattle.mucwathi_mappings.specs.declared.nodes.Mapped.{Mapped}

-- before all entries
abbrev pub start : Told
start = record { line = 0; column = 0; source_line = 0; source_column = 0; name = 0; begun = false }

-- behind a line
abbrev pub line_behind : Told → Told
line_behind t = record { line = t.line + 1; column = 0; source_line = t.source_line; source_column = t.source_column; name = t.name; begun = false }

-- behind an entry
abbrev pub entry_behind : Told → Entry → Told
entry_behind t e = record { line = t.line; column = e.column; source_line = e.source_line; source_column = e.source_column; name = unwrap_or e.name t.name; begun = true }

-- a comma between entries of one line
abbrev pub comma : Bool → List ℕ
comma true = 44 ∷ []
comma false = []

-- what is written for the number of a name, told against the last
abbrev pub IsName : ℕ → Option ℕ → List ℕ → Type 0
IsName last None ds = ds ≡ []
IsName last (Some n) ds = IsNumber (way last n) ds

-- what is written for an entry: the ways to its column, to the first source, to the line and the column there, and to its name
pub record IsEntry (t : Told) (e : Entry) (text : List ℕ) : Type 0 where
  pub column_way : List ℕ
  pub line_way : List ℕ
  pub source_way : List ℕ
  pub name_way : List ℕ
  pub column_is : IsNumber (way t.column e.column) column_way
  pub line_is : IsNumber (way t.source_line e.source_line) line_way
  pub source_is : IsNumber (way t.source_column e.source_column) source_way
  pub name_is : IsName t.name e.name name_way
  pub whole : text ≡ column_way ++ 65 ∷ line_way ++ source_way ++ name_way

-- what is told of a place and of the node there, if its old name has that number
abbrev pub entry_of : List ℕ → List ℕ → (ℕ × Mapped) → Option ℕ → Entry
entry_of read written (place, m) number = record {
  line = line written (min place (length written));
  column = column written (min place (length written));
  source_line = line read (min m.read (length read));
  source_column = column read (min m.read (length read));
  name = number;
}

-- an entry tells of a place and of the node there
pub record TellsOf (read written : List ℕ) (names : List (List ℕ)) (place : ℕ × Mapped) (e : Entry) : Type 0 where
  pub is : e ≡ entry_of read written place e.name
  pub named : IsNumberOf names place.1.old e.name

-- entries, and what is written for them: where one follows a semicolon goes to the next line
pub data AreMappings : Told → List Entry → List ℕ → Type 0 where
  ended : (t : Told) → AreMappings t [] []
  next_line : (t : Told) (e : Entry) (es : List Entry) (text : List ℕ) → AreMappings (line_behind t) (e ∷ es) text → AreMappings t (e ∷ es) (59 ∷ text)
  entry : (t : Told) (e : Entry) (es : List Entry) (one text : List ℕ) → e.line ≡ t.line → IsEntry t e one → AreMappings (entry_behind t e) es text → AreMappings t (e ∷ es) (comma t.begun ++ one ++ text)

-- ---- as the code goes on

-- what is written for entries was added, and what follows is told against the last
pub record Continues (t : Told) (es : List Entry) (old new : List ℕ) (there : Told) : Type 0 where
  pub text : List ℕ
  pub whole : new ≡ old ++ text
  pub goes_on : (us : List Entry) (rest : List ℕ) → AreMappings there us rest → AreMappings t (es ++ us) (text ++ rest)

-- semicolons were added, and where an entry follows it is told against the beginning of a line
pub record GoesToLine (t : Told) (old new : List ℕ) (there : Told) : Type 0 where
  pub text : List ℕ
  pub whole : new ≡ old ++ text
  pub goes_on : (e : Entry) (us : List Entry) (rest : List ℕ) → AreMappings there (e ∷ us) rest → AreMappings t (e ∷ us) (text ++ rest)

pub record AddsName (last : ℕ) (name : Option ℕ) (old new : List ℕ) : Type 0 where
  pub text : List ℕ
  pub whole : new ≡ old ++ text
  pub is : IsName last name text

-- marks in a source and in what is written
pub record AreMarked (sides : Sides) : Type 0 where
  pub of_read : All (IsMark sides.read.now) sides.read_marks.now
  pub of_written : All (IsMark sides.written.now) sides.written_marks.now

-- an old name has that number, where there is one, and was added unless it was there
pub record HasNumber (old new : Names) (name : Option (Bor (List ℕ))) (n : Option ℕ) : Type 0 where
  pub texts_are : texts_of new ≡ with_old name (texts_of old)
  pub numbered : AreNumbered new
  pub is : IsNumberOf (texts_of new) name n

-- the mappings of places, which rise, were added, and these are the old names there
pub record AddsMappings (read written : List ℕ) (places : BTreeMap ℕ Mapped) (old new : List ℕ) (names : Names) : Type 0 where
  pub entries : List Entry
  pub mappings : List ℕ
  pub whole : new ≡ old ++ mappings
  pub rise : IsOrdered nat_cmp places
  pub named : texts_of names ≡ old_names places.entries
  pub told : AllZip (TellsOf read written (texts_of names)) places.entries entries
  pub are : AreMappings start entries mappings
