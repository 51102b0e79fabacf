-- Why nothing is told of a text.
use Rattle.std.specs.Prelude.{◌≡◌, ◌⊎◌, ℕ, List}
use Rattle.swc_tree_marks.specs.declared.error.PassError.{PassError}
use Rattle.swc_tree_marks.specs.declared.error.PassError.TheVariants as refusal
use Rattle.swc_tree_node.specs.declared.node.Node.{Node}
use Rattle.text_parser.specs.declared.programs.Goal.{Goal}
use Rattle.text_source.specs.Texts.{IsTextOf, Tells}
use Rattle.mucwathi_order.specs.declared.fault.RunFault.{RunFault}
use Rattle.mucwathi_order.specs.declared.fault.RunFault.TheVariants.{NotKept, NotWritten, Refused, Text}
use Rattle.mucwathi_passes.specs.Passes.{TakesTooManyMarks}

-- memory was refused, or the program has more scopes than there are marks for
abbrev pub IsLookRefusal : Node → PassError → Type 0
IsLookRefusal t e = (e ≡ refusal.NoMemory) ⊎ ((e ≡ refusal.MarksSpent) × TakesTooManyMarks t)

-- the text is not read; or memory was refused, or what is done with its program
abbrev pub IsUnlooked : Goal → List ℕ → RunFault → Type 0
IsUnlooked goal text (Text f) = Tells text f
IsUnlooked goal text (Refused e) = (e ≡ refusal.NoMemory) ⊎ ((source : Node) × IsTextOf goal source text × IsLookRefusal source e)
IsUnlooked goal text NotWritten = ⊥
IsUnlooked goal text NotKept = ⊥
