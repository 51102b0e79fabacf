-- Why a text is not read.
use Rattle.swc_tree_marks.specs.declared.error.PassError.TheVariants as refusal
use Rattle.text_reader.specs.declared.fault.TextFault.{TextFault}
use Rattle.text_reader.specs.declared.fault.TextFault.TheVariants as text
use Rattle.mucwathi_order.specs.declared.fault.RunFault.{RunFault}
use Rattle.mucwathi_order.specs.declared.fault.RunFault.TheVariants.{Refused, Text}

-- why a text is not read: want of memory is a refusal
abbrev pub of_text : TextFault → RunFault
of_text text.NoMemory = Refused refusal.NoMemory
of_text f = Text f
