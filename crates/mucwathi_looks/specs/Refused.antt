-- Why nothing is made of a text with marks.
use Rattle.std.specs.Prelude.{◌≡◌, ◌⊎◌, ℕ, List, Some, None}
use Rattle.swc_tree_marks.specs.declared.error.PassError.{PassError}
use Rattle.swc_tree_marks.specs.declared.error.PassError.TheVariants as refusal
use Rattle.jsbase_reader.specs.declared.envelope.Envelope.{Envelope}
use Rattle.text_parser.specs.declared.programs.Goal.{Goal}
use Rattle.text_reader.specs.declared.fault.TextFault.{TextFault}
use Rattle.text_reader.specs.declared.fault.TextFault.TheVariants as fault
use Rattle.text_source.specs.Texts.{Tells}
use Rattle.mucwathi_settings.specs.declared.command.Command.{Command}
use Rattle.mucwathi_order.specs.declared.order.Order.{Order}
use Rattle.mucwathi_order.specs.declared.fault.RunFault.{RunFault}
use Rattle.mucwathi_order.specs.declared.fault.RunFault.TheVariants.{NotKept, NotWritten, Refused, Text}
use Rattle.mucwathi_given.specs.Given.{IsMade}
use Rattle.mucwathi_given.specs.Refusals.{IsUnmade}
use Rattle.mucwathi_signs.specs.declared.find.Found.{Found}
use Rattle.mucwathi_signs.specs.Blanked.{IsBlanked, is_covered}
use Rattle.mucwathi_signs.specs.Cut.{AreWritten}
use Rattle.mucwathi_looks.specs.declared.given.Marked.{Marked}
use Rattle.mucwathi_looks.specs.Answered.{with_settings}
use Rattle.mucwathi_looks.specs.Given.{IsGiven}

abbrev pub IsWantOfMemory : RunFault → Type 0
IsWantOfMemory f = f ≡ Refused refusal.NoMemory

-- a text is not read, or memory was refused
abbrev pub IsUnread : List ℕ → RunFault → Type 0
IsUnread text (Text f) = Tells text f
IsUnread text (Refused e) = e ≡ refusal.NoMemory
IsUnread text NotWritten = ⊥
IsUnread text NotKept = ⊥

-- with blanks where marks are written in it, the text is not read
pub record IsUnreadBlank (text : List ℕ) (f : TextFault) : Type 0 where
  pub found : List Found
  pub blank : List ℕ
  pub written : AreWritten text found
  pub blanked : IsBlanked (is_covered found) text blank
  pub tells : Tells blank f

-- the fault is the reader's own, or tells of such a text; or memory was refused
abbrev pub IsUngiven : List ℕ → RunFault → Type 0
IsUngiven text (Text f) = (f ≡ fault.NotTheText) ⊎ IsUnreadBlank text f
IsUngiven text (Refused e) = e ≡ refusal.NoMemory
IsUngiven text NotWritten = ⊥
IsUngiven text NotKept = ⊥

-- what is done with the program of a text with marks is refused
pub record IsRefusedMarked (Refuses : Envelope → PassError → Type 0) (goal : Goal) (text : List ℕ) (e : PassError) : Type 0 where
  pub given : Marked
  pub is_given : IsGiven goal text given
  pub refused : Refuses given.program e

-- its names get no marks
abbrev pub IsUnresolvedMarked : Goal → List ℕ → RunFault → Type 0
IsUnresolvedMarked goal text (Refused e) = (e ≡ refusal.NoMemory) ⊎ IsRefusedMarked (IsUnmade None) goal text e
IsUnresolvedMarked goal text f = IsUngiven text f

-- a command is refused
abbrev pub IsUnmadeBy : Command → Envelope → RunFault → Type 0
IsUnmadeBy c program (Refused e) = IsUnmade (Some c) program e
IsUnmadeBy c program (Text f) = ⊥
IsUnmadeBy c program NotWritten = ⊥
IsUnmadeBy c program NotKept = ⊥

-- a program that was given is refused a command
abbrev pub IsRefusedOrder : Order → Envelope → PassError → Type 0
IsRefusedOrder order program e = IsUnmade (Some order.command) (with_settings order.settings program) e

-- what a command makes of it is not written
pub record IsUnwrittenMade (order : Order) (program : Envelope) : Type 0 where
  pub made : Envelope
  pub is_made : IsMade (Some order.command) (with_settings order.settings program) made

-- ... or memory was refused, or the command
abbrev pub IsUnmadeOf : Order → Envelope → RunFault → Type 0
IsUnmadeOf order program (Text f) = ⊥
IsUnmadeOf order program (Refused e) = (e ≡ refusal.NoMemory) ⊎ IsRefusedOrder order program e
IsUnmadeOf order program NotWritten = IsUnwrittenMade order program
IsUnmadeOf order program NotKept = IsUnwrittenMade order program

-- ... of the program of a text with marks
pub record IsUnmadeMarked (order : Order) (text : List ℕ) (f : RunFault) : Type 0 where
  pub given : Marked
  pub is_given : IsGiven order.goal text given
  pub refused : IsUnmadeOf order given.program f

abbrev pub IsUnrewrittenMarked : Order → List ℕ → RunFault → Type 0
IsUnrewrittenMarked order text f = IsUngiven text f ⊎ IsUnmadeMarked order text f
