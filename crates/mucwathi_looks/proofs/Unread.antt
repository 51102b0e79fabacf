-- Why a text is not read.
use Rattle.std.proofs.Common.{◌≡◌, ℕ, List, Some, inl, inr, refl, subst, sym}
use Rattle.text_reader.specs.declared.fault.TextFault.{TextFault}
use Rattle.text_reader.specs.declared.fault.TextFault.TheVariants as text
use Rattle.text_source.specs.Texts.{Tells}
use Rattle.mucwathi_order.specs.Faults.{of_text}
use Rattle.mucwathi_order.specs.declared.fault.RunFault.{RunFault}
use Rattle.mucwathi_order.specs.declared.fault.RunFault.TheVariants.{NotKept, NotWritten, Refused, Text}
use Rattle.text_parser.specs.declared.programs.Goal.{Goal}
use Rattle.jsbase_reader.specs.declared.envelope.Envelope.{Envelope}
use Rattle.mucwathi_order.specs.declared.order.Order.{Order}
use Rattle.mucwathi_commands.specs.Faults.{IsWriteFault}
use Rattle.mucwathi_given.specs.Given.{IsMade}
use Rattle.mucwathi_given.specs.Refusals.{IsUnmade}
use Rattle.mucwathi_signs.specs.declared.find.Found.{Found}
use Rattle.mucwathi_signs.specs.Blanked.{IsBlanked, is_covered}
use Rattle.mucwathi_signs.specs.Cut.{AreWritten}
use Rattle.mucwathi_looks.specs.Refused.{IsUngiven, IsUnmadeBy, IsUnmadeOf, IsUnread, IsUnresolvedMarked, IsWantOfMemory}
use Rattle.mucwathi_looks.specs.Answered.{with_settings}

pub unread : (bytes : List ℕ) (f : TextFault) → Tells bytes f → IsUnread bytes (of_text f)
unread bytes text.NoMemory h = refl
unread bytes text.TooLong h = h
unread bytes text.NotTheText h = h
unread bytes (text.NotUtf8 at) h = h
unread bytes (text.Unexpected at expected) h = h
unread bytes (text.Unterminated at) h = h
unread bytes (text.BadEscape at) h = h
unread bytes (text.BadNumber at) h = h
unread bytes (text.BadRegex at) h = h
unread bytes (text.HalfSurrogate at) h = h
unread bytes (text.EscapedDirective at) h = h
unread bytes (text.NotRead at language) h = h
unread bytes (text.TooDeep at) h = h

-- with blanks where marks are written
pub ungiven : (bytes blank : List ℕ) (found : List Found) (f : RunFault) → AreWritten bytes found → IsBlanked (is_covered found) bytes blank → IsUnread blank f → IsUngiven bytes f
ungiven bytes blank found (Text f) written blanked h = inr (record { found = found; blank = blank; written = written; blanked = blanked; tells = h })
ungiven bytes blank found (Refused e) written blanked h = h
ungiven bytes blank found NotWritten written blanked h = h
ungiven bytes blank found NotKept written blanked h = h

-- what is said of a fault of a program that was given
pub unwritten_made : (order : Order) (program given made : Envelope) → given ≡ with_settings order.settings program → IsMade (Some order.command) given made → (f : RunFault) → IsWriteFault f → IsUnmadeOf order program f
unwritten_made order program given made is h (Text f) k = k
unwritten_made order program given made is h (Refused e) k = inl k
unwritten_made order program given made is h NotWritten k = record { made = made; is_made = subst (λ e. IsMade (Some order.command) e made) is h }
unwritten_made order program given made is h NotKept k = record { made = made; is_made = subst (λ e. IsMade (Some order.command) e made) is h }

pub unmade_of : (order : Order) (program given : Envelope) → given ≡ with_settings order.settings program → (f : RunFault) → IsUnmadeBy order.command given f → IsUnmadeOf order program f
unmade_of order program given is (Text f) k = k
unmade_of order program given is (Refused e) k = inr (subst (λ g. IsUnmade (Some order.command) g e) is k)
unmade_of order program given is NotWritten k = absurd k
unmade_of order program given is NotKept k = absurd k

pub memory_of : (order : Order) (program : Envelope) (f : RunFault) → IsWantOfMemory f → IsUnmadeOf order program f
memory_of order program f is = subst (IsUnmadeOf order program) (sym is) (inl refl)

pub unresolved_marked : (g : Goal) (text : List ℕ) (f : RunFault) → IsUngiven text f → IsUnresolvedMarked g text f
unresolved_marked g text (Text f) h = h
unresolved_marked g text (Refused e) h = inl h
unresolved_marked g text NotWritten h = h
unresolved_marked g text NotKept h = h
