-- What the engine answers on an input.
use Rattle.std.specs.Prelude.{◌≡◌, ◌≢◌, false, ℕ, ◌⊎◌, Option, None, List, Ok, Err, string_bytes}
use Rattle.swc_tree_marks.specs.Globals.{Table}
use Rattle.swc_tree_marks.specs.declared.error.PassError.{PassError}
use Rattle.swc_tree_marks.specs.declared.error.PassError.TheVariants as refusal
use Rattle.swc_tree_node.specs.declared.node.Node.{Node}
use Rattle.swc_tree_renaming.specs.Apart.{IsPlainIfScript, IsPlainScript}
use Rattle.swc_base_covers.specs.declared.gap.Gap.{Gap}
use Rattle.swc_base_fixer_program.specs.Answers.{answer_to}
use Rattle.swc_base_fixer.specs.Promises.{Promises}
use Rattle.swc_base_mangle_laws.specs.Lower.swc_ecma_transforms_base_laws.specs.Headline.{KeepsItsForm, KeepsItsSource}
use Rattle.swc_base_mangle_laws.specs.Lower.swc_ecma_transforms_base_laws.specs.Sources.{IsSource}
use Rattle.swc_ecma_transforms_base_laws.specs.Settled.{IsAnswer}
use Rattle.jsbase_form.specs.Reads.{Path, path_text}
use Rattle.jsbase_reader.specs.declared.envelope.Envelope.{Envelope}
use Rattle.jsbase_reader.specs.Envelopes.{envelope_in_text}
use Rattle.jsbase_commands.specs.declared.arguments.Command.{Command}
use Rattle.jsbase_commands.specs.declared.arguments.Command.TheVariants as command
use Rattle.jsbase_commands.specs.declared.arguments.Kind.{Kind}
use Rattle.jsbase_commands.specs.declared.arguments.Kind.TheVariants as kind
use Rattle.jsbase_commands.specs.declared.fault.Fault.{Fault}
use Rattle.jsbase_commands.specs.declared.fault.Fault.TheVariants.{Usage, Refused, NotATree}
use Rattle.jsbase_commands.specs.Judge.{IsToldOf, IsUntoldOf}
use Rattle.jsbase_commands.specs.Run.{Does, IsRefusalOf, class_of, config_of}

-- what `chain_module` promises of a module that is chained: of a source that its answer keeps it, and of what the chain answered
-- that it is answered again, spans too, where classes don't keep their names
pub record KeepsItsModule (envelope : Envelope) (table : Table) (answer : Node) : Type 0 where
  pub promises : IsSource (config_of envelope) envelope.tree → KeepsItsSource envelope.unresolved envelope.top envelope.globals table envelope.tree answer
  pub again : IsAnswer envelope.tree → envelope.keep_class_names ≡ false → answer ≡ envelope.tree

-- what `chain_script` promises of a script that is chained: of a source that its answer keeps its form, and where the script is plain
-- all that is promised of a source; and of what the chain answered that it is answered again, as of a module
pub record KeepsItsScript (envelope : Envelope) (table : Table) (answer : Node) : Type 0 where
  pub form : IsSource (config_of envelope) envelope.tree → KeepsItsForm envelope.tree answer
  pub promises : IsSource (config_of envelope) envelope.tree → IsPlainScript envelope.tree → KeepsItsSource envelope.unresolved envelope.top envelope.globals table envelope.tree answer
  pub again : IsAnswer envelope.tree → envelope.keep_class_names ≡ false → answer ≡ envelope.tree

-- what is promised of a program that is mangled: of a source that its answer keeps its form, and where it is a module or a plain script
-- all that is promised of a source
pub record IsKeptShort (envelope : Envelope) (table : Table) (answer : Node) : Type 0 where
  pub form : IsSource (config_of envelope) envelope.tree → KeepsItsForm envelope.tree answer
  pub promises : IsSource (config_of envelope) envelope.tree → IsPlainIfScript envelope.tree → KeepsItsSource envelope.unresolved envelope.top envelope.globals table envelope.tree answer

-- of a program that is told to be covered all that `chain_module` and `chain_script` ask of one
abbrev pub IsSourceIfCovered : Envelope → Option Gap → Type 0
IsSourceIfCovered envelope gap = gap ≡ None → IsSource (config_of envelope) envelope.tree × IsPlainIfScript envelope.tree

-- what is promised of it beside: of a program that is chained what `chain_module` or `chain_script` promises, of one that is mangled that
-- it is kept, of a program whose pairs are set what the fixer promises, and of one that is told to be covered that the former hold of it
abbrev pub Keeps : (c : Command) (k : Kind) (envelope : Envelope) (output : List ℕ) → Does c envelope output → Type 0
Keeps command.Chain kind.Module envelope output done = KeepsItsModule envelope done.table (answer_to done.renamed)
Keeps command.Chain kind.Script envelope output done = KeepsItsScript envelope done.table (answer_to done.renamed)
Keeps command.Mangle k envelope output done = IsKeptShort envelope done.table (answer_to done.mangled)
Keeps command.Fix k envelope output done = Promises envelope.tree (answer_to envelope.tree)
Keeps command.Covers k envelope output done = IsSourceIfCovered envelope done.gap
Keeps _ _ envelope output done = Unit {0}

-- of a program that is chained or mangled no target is to blame
abbrev pub SparesTargets : Command → Kind → Envelope → PassError → Type 0
SparesTargets command.Chain k envelope error = IsSource (config_of envelope) envelope.tree → error ≢ refusal.NotAssignable
SparesTargets command.Mangle k envelope error = IsSource (config_of envelope) envelope.tree → error ≢ refusal.NotAssignable
SparesTargets _ _ envelope error = Unit {0}

-- the output is what the command makes of the envelope of one program that the input is, with what is promised of it
abbrev pub AnswersOfOne : Command → Kind → List ℕ → List ℕ → Type 0
AnswersOfOne c k input output = (envelope : Envelope) × (envelope_in_text (class_of k) input ≡ Ok envelope) × (done : Does c envelope output) × Keeps c k envelope output done

-- the output is what the command makes of the input; of one that has two versions of a program what is said of them
abbrev pub Answers : Command → Kind → List ℕ → List ℕ → Type 0
Answers command.Judge k input output = IsToldOf (class_of k) input output
Answers c k input output = AnswersOfOne c k input output

-- the fault is the input's first, by its path; else memory was refused, or the command's pass for its own cause
abbrev pub IsSparingFault : Command → Kind → List ℕ → Fault → Type 0
IsSparingFault c k input Usage = ⊥
IsSparingFault c k input (NotATree text) = (path : Path) × (envelope_in_text (class_of k) input ≡ Err path) × (string_bytes text ≡ path_text path)
IsSparingFault c k input (Refused error) = (error ≡ refusal.NoMemory) ⊎ ((envelope : Envelope) × (envelope_in_text (class_of k) input ≡ Ok envelope) × IsRefusalOf c envelope error × SparesTargets c k envelope error)

abbrev pub IsFaultOf : Command → Kind → List ℕ → Fault → Type 0
IsFaultOf command.Judge k input fault = IsUntoldOf (class_of k) input fault
IsFaultOf c k input fault = IsSparingFault c k input fault
