use Rattle.std.proofs.Common.{inl, inr, ⊎_elim, ap, sym, ◌∙◌, subst}
use Rattle.swc_tree_node.specs.declared.slot.Content.TheVariants as content
use Rattle.swc_tree_node.specs.declared.slot.Slot.TheVariants as slot
use Rattle.swc_tree_node.specs.Fits.{Fits}
use Rattle.jsbase_reader.specs.Envelopes.{envelope_in_text}
use Rattle.jsbase_programs.proofs.Marks.{envelope_marks}
use Rattle.jsbase_commands.specs.Run.{Does, class_of}
use Rattle.jsbase_commands.proofs.CleanPrograms.{goal_of}
use Rattle.jsbase_commands.proofs.Programs.{is_program}
use Rattle.jsbase_commands.proofs.commands.run_on_one.Goals as goal

pub answer-requires-clause-program : goal.answer-requires-clause-program
answer-requires-clause-program c = is_program c.args.kind c.in-Ok.envelope.tree
    (subst (λ class. Fits c.in-Ok.envelope.tree (slot.One (content.Node class))) c.class_of.ensures c.in-Ok.ensures.fits)

pub answer-requires-clause-fits : goal.answer-requires-clause-fits
answer-requires-clause-fits c = (
  slot.One (content.Node (class_of c.args.kind)),
  goal_of c.args.kind,
  subst (λ class. Fits c.in-Ok.envelope.tree (slot.One (content.Node class))) c.class_of.ensures c.in-Ok.ensures.fits,
)

pub answer-requires-clause-marks : goal.answer-requires-clause-marks
answer-requires-clause-marks c = envelope_marks c.class_of.result c.args.input.now c.in-Ok.envelope c.in-Ok.ensures.envelope

pub returns-in-Ok-answer : goal.returns-in-Ok-answer
returns-in-Ok-answer c = (
  c.in-Ok.envelope,
  ap (λ class. envelope_in_text class c.args.input.now) (sym c.class_of.ensures) ∙ c.in-Ok.ensures.envelope,
  subst (Does c.args.command c.in-Ok.envelope) (ap (λ v. v.items) (sym c.into_bytes.ensures.value)) c.in-Ok-answer.ensures,
)

pub returns-in-Err-answer : goal.returns-in-Err-answer
returns-in-Err-answer c = ⊎_elim inl
    (λ cause. inr (c.in-Ok.envelope, ap (λ class. envelope_in_text class c.args.input.now) (sym c.class_of.ensures) ∙ c.in-Ok.ensures.envelope, cause))
    c.in-Err-answer.ensures
