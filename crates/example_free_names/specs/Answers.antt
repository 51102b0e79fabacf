-- What the program answers on an input.
use Rattle.std.specs.Prelude.{◌≡◌, ℕ, ◌+◌, ◌-◌, ◌<◌, ◌⊎◌, List, [], ◌∷◌, ◌++◌, Ok, Err}
use Rattle.swc_tree_marks.specs.Globals.{Table, greatest}
use Rattle.swc_tree_marks.specs.declared.error.PassError.{PassError}
use Rattle.swc_tree_marks.specs.declared.error.PassError.TheVariants as refusal
use Rattle.swc_tree_node.specs.declared.node.Node.{Node}
use Rattle.swc_tree_scoping.specs.Places.{program_place}
use Rattle.swc_tree_scoping.specs.Scopes.{scope_count}
use Rattle.swc_tree_spaces.specs.Spaces.{ResolvedBy}
use Rattle.jsbase_reader.specs.declared.envelope.Envelope.{Envelope}
use Rattle.jsbase_reader.specs.Envelopes.{envelope_in_text}
use Rattle.jsbase_programs.specs.declared.programs.Goal.{Goal}
use Rattle.jsbase_programs.specs.Goals.{class_of}
use Rattle.example_free_names.specs.declared.answer.Fault.{Fault}
use Rattle.example_free_names.specs.declared.answer.Fault.TheVariants.{NotATree, Refused}
use Rattle.example_free_names.specs.Free.{free_names}

-- each in a line
abbrev pub lines : List (List ℕ) → List ℕ
lines [] = []
lines (x ∷ xs) = x ++ 10 ∷ lines xs

-- the text has the free names of the envelope's program, each once, in the order of the source: those of the program with
-- each identifier resolved
pub record HasNames (envelope : Envelope) (text : List ℕ) : Type 0 where
  pub table : Table
  pub program : Node
  pub resolved : ResolvedBy envelope.unresolved envelope.top envelope.globals table envelope.tree program
  pub written : text ≡ lines (free_names envelope.unresolved program)

-- memory was refused, or the table has no room for a mark to each scope but the program
abbrev pub IsRefusedFor : Envelope → PassError → Type 0
IsRefusedFor envelope e = (e ≡ refusal.NoMemory) ⊎ ((e ≡ refusal.MarksSpent) × (4294967295 < greatest envelope.globals + (scope_count program_place envelope.tree - 1)))

-- the text has the free names of the envelope that the input is
abbrev pub IsAnswer : Goal → List ℕ → List ℕ → Type 0
IsAnswer goal input text = (envelope : Envelope) × (envelope_in_text (class_of goal) input ≡ Ok envelope) × HasNames envelope text

-- the fault is the input's first, by its path; or its program was refused
abbrev pub IsFaultOf : Goal → List ℕ → Fault → Type 0
IsFaultOf goal input (NotATree path) = envelope_in_text (class_of goal) input ≡ Err path
IsFaultOf goal input (Refused e) = (e ≡ refusal.NoMemory) ⊎ ((envelope : Envelope) × (envelope_in_text (class_of goal) input ≡ Ok envelope) × IsRefusedFor envelope e)
