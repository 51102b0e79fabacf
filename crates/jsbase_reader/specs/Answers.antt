-- What a reader's answer says.
use Rattle.std.specs.Prelude.{◌≡◌, List, [], ◌∷◌, ◌++◌, Option, Some, None, Result, Ok, Err, ⊤}
use Rattle.json.specs.Json.{Json}
use Rattle.json.specs.Value.{value_view}
use Rattle.json.specs.declared.value.Value.{Value}
use Rattle.jsbase_form.specs.Reads.{Read}
use Rattle.jsbase_reader.specs.declared.error.ReadError.{ReadError}
use Rattle.jsbase_reader.specs.declared.error.ReadError.TheVariants as error

-- what a function answered is this, unless memory ran out
abbrev pub Gives : {A : Type 0} → Result A ReadError → Read A → Type 0
Gives (Ok x) read = read ≡ Ok x
Gives (Err error.NoMemory) read = ⊤
Gives (Err (error.Fault path)) read = read ≡ Err path

-- the same of a JSON value that was answered, as contracts see it
abbrev pub GivesView : {A : Type 0} → Result (Value A) ReadError → Read Json → Type 0
GivesView (Ok value) read = read ≡ Ok (value_view value)
GivesView (Err error.NoMemory) read = ⊤
GivesView (Err (error.Fault path)) read = read ≡ Err path

-- what was read of a part stands behind what was read before it, unless memory ran out
abbrev pub GivesMore : {A T : Type 0} → Result T ReadError → List A → List A → Read A → Type 0
GivesMore (Ok t) before after read = (x : _) × (read ≡ Ok x) × (after ≡ before ++ x ∷ [])
GivesMore (Err error.NoMemory) before after read = ⊤
GivesMore (Err (error.Fault path)) before after read = read ≡ Err path

-- what a function answered is this, unless memory ran out or it did not read
abbrev pub GivesIfRead : {A : Type 0} → Result (Option A) ReadError → Read A → Type 0
GivesIfRead (Ok (Some x)) read = read ≡ Ok x
GivesIfRead (Ok None) read = ⊤
GivesIfRead (Err error.NoMemory) read = ⊤
GivesIfRead (Err (error.Fault path)) read = read ≡ Err path
