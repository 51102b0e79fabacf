-- Why there is no answer to a text.
use Rattle.std.specs.Prelude.{◌≡◌, ℕ, List}
use Rattle.swc_tree_marks.specs.declared.error.PassError.TheVariants as refusal
use Rattle.swc_tree_node.specs.declared.node.Node.{Node}
use Rattle.mucwathi_order.specs.Lower.text_source.specs.Texts.{Tells}
use Rattle.mucwathi_order.specs.declared.order.Order.{Order}
use Rattle.mucwathi_order.specs.declared.fault.RunFault.{RunFault}
use Rattle.mucwathi_order.specs.declared.fault.RunFault.TheVariants.{NotKept, NotWritten, Refused, Text}
use Rattle.mucwathi_commands.specs.Written.{IsReadAs, IsRefusedFor}
use Rattle.mucwathi_passes.specs.Passes.{Makes}

-- memory was refused, or the answer is not written
abbrev pub IsWriteFault : RunFault → Type 0
IsWriteFault (Refused e) = e ≡ refusal.NoMemory
IsWriteFault NotWritten = Unit {0}
IsWriteFault NotKept = Unit {0}
IsWriteFault (Text f) = ⊥

-- there is an answer to the text, which is not written
pub record IsUnwritten (order : Order) (text : List ℕ) : Type 0 where
  pub source : Node
  pub answer : Node
  pub read : IsReadAs order.goal source text
  pub made : Makes order.command order.settings source answer

-- the fault tells of the text; or the text is that of a program, and the fault tells of that
abbrev pub IsRunFault : Order → List ℕ → RunFault → Type 0
IsRunFault order text (Text f) = Tells text f
IsRunFault order text (Refused e) = IsRefusedFor order text e
IsRunFault order text NotWritten = IsUnwritten order text
IsRunFault order text NotKept = IsUnwritten order text
