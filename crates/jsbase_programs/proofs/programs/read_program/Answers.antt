use Rattle.std.proofs.Common.{◌≡◌, Some, Result, Ok, Err, IfOk, subst}
use Rattle.swc_tree_node.specs.declared.slot.Content.TheVariants as content
use Rattle.swc_tree_node.specs.declared.slot.Slot.TheVariants as slot
use Rattle.swc_tree_node.specs.declared.kind.Class.{Class}
use Rattle.swc_tree_node.specs.Fits.{Fits}
use Rattle.swc_tree_scoping.specs.declared.places.Scope.TheVariants as scope
use Rattle.swc_tree_scoping.specs.Places.{opened, program_place}
use Rattle.swc_base_resolver_program.specs.Marked.{MarksOk}
use Rattle.jsbase_reader.specs.declared.envelope.Envelope.{Envelope}
use Rattle.jsbase_reader.specs.declared.error.ReadError.{ReadError}
use Rattle.jsbase_reader.specs.Answers.{Gives}
use Rattle.jsbase_reader.specs.Envelopes.{envelope_in_text}
use Rattle.jsbase_programs.specs.declared.programs.Goal.{Goal}
use Rattle.jsbase_programs.specs.Goals.{class_of}
use Rattle.jsbase_programs.proofs.Marks.{envelope_marks}
use Rattle.jsbase_programs.proofs.Whole.{is_program}
use Rattle.jsbase_programs.proofs.programs.read_program.Goals as goal

marks_of_read : (class : Class) (bytes : _) (r : Result Envelope ReadError) → Gives r (envelope_in_text class bytes) → IfOk r (λ e. MarksOk e.globals e.unresolved e.top)
marks_of_read class bytes (Ok e) h = envelope_marks class bytes e h
marks_of_read class bytes (Err e) h = tt

program_of_read : (g : Goal) (class : Class) (r : Result Envelope ReadError) → class ≡ class_of g → IfOk r (λ e. Fits e.tree (slot.One (content.Node class))) → IfOk r (λ e. opened program_place e.tree ≡ Some scope.Program)
program_of_read g class (Ok e) same h = is_program g e.tree (subst (λ class. Fits e.tree (slot.One (content.Node class))) same h)
program_of_read g class (Err e) same h = tt

pub returns-clause-program : goal.returns-clause-program
returns-clause-program c = program_of_read c.args.goal c.class_of.result c.read_bytes.result c.class_of.ensures c.read_bytes.ensures.fits

pub returns-clause-marks : goal.returns-clause-marks
returns-clause-marks c = marks_of_read c.class_of.result c.args.bytes.now c.read_bytes.result c.read_bytes.ensures.envelope
