-- The status to end with where there is no answer.
use Rattle.std.specs.Prelude.{ℕ}
use Rattle.text_reader.specs.declared.fault.TextFault.{TextFault}
use Rattle.text_reader.specs.declared.fault.TextFault.TheVariants as text
use Rattle.mucwathi_order.specs.declared.fault.JudgeFault.{JudgeFault}
use Rattle.mucwathi_order.specs.declared.fault.JudgeFault.TheVariants as judging
use Rattle.mucwathi_order.specs.declared.fault.RunFault.{RunFault}
use Rattle.mucwathi_order.specs.declared.fault.RunFault.TheVariants as running

-- 3 for a text that is not read, but 5 for a fault of the reader and for want of memory
abbrev pub text_status : TextFault → ℕ
text_status text.NotTheText = 5
text_status text.NoMemory = 5
text_status _ = 3

-- ... and 5 for each refusal
abbrev pub run_status : RunFault → ℕ
run_status (running.Text f) = text_status f
run_status (running.Refused e) = 5
run_status running.NotWritten = 5
run_status running.NotKept = 5

abbrev pub judge_status : JudgeFault → ℕ
judge_status (judging.Before f) = text_status f
judge_status (judging.After f) = text_status f
judge_status (judging.Refused e) = 5
