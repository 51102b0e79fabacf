-- Why nothing is told of a text that is not read.
use Rattle.std.proofs.Common.{ℕ, List, inl, refl}
use Rattle.text_parser.specs.declared.programs.Goal.{Goal}
use Rattle.text_reader.specs.declared.fault.TextFault.{TextFault}
use Rattle.text_reader.specs.declared.fault.TextFault.TheVariants as text
use Rattle.text_source.specs.Texts.{Tells}
use Rattle.mucwathi_order.specs.Faults.{of_text}
use Rattle.mucwathi_looks.specs.Looks.{IsUnlooked}

pub unlooked : (g : Goal) (bytes : List ℕ) (f : TextFault) → Tells bytes f → IsUnlooked g bytes (of_text f)
unlooked g bytes text.NoMemory h = inl refl
unlooked g bytes text.TooLong h = h
unlooked g bytes text.NotTheText h = h
unlooked g bytes (text.NotUtf8 at) h = h
unlooked g bytes (text.Unexpected at expected) h = h
unlooked g bytes (text.Unterminated at) h = h
unlooked g bytes (text.BadEscape at) h = h
unlooked g bytes (text.BadNumber at) h = h
unlooked g bytes (text.BadRegex at) h = h
unlooked g bytes (text.HalfSurrogate at) h = h
unlooked g bytes (text.EscapedDirective at) h = h
unlooked g bytes (text.NotRead at language) h = h
unlooked g bytes (text.TooDeep at) h = h
