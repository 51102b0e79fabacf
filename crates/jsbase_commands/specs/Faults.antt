-- What a fault is reported as.
use Rattle.std.specs.Prelude.{ℕ, Option, List, [], ◌∷◌, ◌++◌, codes, string_bytes, take}
use Rattle.std.specs.Io.KnownBytes.{Appends}
use Rattle.swc_tree_marks.specs.Errors.{name_of}
use Rattle.swc_tree_marks.specs.declared.error.PassError.TheVariants as refusal
use Rattle.jsbase_stream.specs.declared.input.InputFault.{InputFault}
use Rattle.jsbase_stream.specs.declared.input.InputFault.TheVariants as input
use Rattle.jsbase_commands.specs.declared.fault.Fault.{Fault}
use Rattle.jsbase_commands.specs.declared.fault.Fault.TheVariants.{Usage, Refused, NotATree}
use Rattle.jsbase_commands.specs.declared.fault.ServeFault.{ServeFault}
use Rattle.jsbase_commands.specs.declared.fault.ServeFault.TheVariants.{Run, Read, Write, NoMemory}

-- why an input was not read
abbrev pub of_input : InputFault → ServeFault
of_input input.Read = Read
of_input input.NoMemory = NoMemory

abbrev pub status_of : ServeFault → ℕ
status_of (Run (Refused e)) = 1
status_of (Run Usage) = 2
status_of (Run (NotATree path)) = 3
status_of Read = 4
status_of (Write n) = 4
status_of NoMemory = 1

abbrev pub cause_of : Fault → List ℕ
cause_of Usage = codes "usage: jsbase resolve|hygiene|fix|unparen|chain module|script"
cause_of (Refused e) = codes "refused: " ++ name_of e
cause_of (NotATree path) = codes "not a tree: " ++ string_bytes path

abbrev pub text_of : ServeFault → List ℕ
text_of (Run fault) = cause_of fault
text_of Read = codes "read failed"
text_of (Write n) = codes "write failed"
text_of NoMemory = codes "refused: " ++ name_of refusal.NoMemory

-- the line on standard error
abbrev pub line_of : ServeFault → List ℕ
line_of fault = text_of fault ++ 10 ∷ []

-- the writer took the first of the bytes, or all of them, and no other
abbrev pub IsBeginning : Option (List ℕ) → Option (List ℕ) → List ℕ → Type 0
IsBeginning old new bytes = (n : ℕ) × Appends old new (take n bytes)
