-- Where a text is at fault.
use Rattle.std.specs.Prelude.{ℕ, Option, Some, None}
use Rattle.text_reader.specs.declared.fault.TextFault.{TextFault}
use Rattle.text_reader.specs.declared.fault.TextFault.TheVariants as fault

-- how many bytes are before what is at fault, where it has a place
abbrev pub place_of : TextFault → Option ℕ
place_of (fault.NotUtf8 at) = Some at
place_of (fault.Unexpected at e) = Some at
place_of (fault.Unterminated at) = Some at
place_of (fault.BadEscape at) = Some at
place_of (fault.BadNumber at) = Some at
place_of (fault.BadRegex at) = Some at
place_of (fault.HalfSurrogate at) = Some at
place_of (fault.EscapedDirective at) = Some at
place_of (fault.NotRead at l) = Some at
place_of (fault.TooDeep at) = Some at
place_of fault.NoMemory = None
place_of fault.TooLong = None
place_of fault.NotTheText = None
