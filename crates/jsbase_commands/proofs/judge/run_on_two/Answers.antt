use Rattle.std.proofs.Common.{◌∙◌, ap, inr, subst, sym}
use Rattle.swc_tree_node.specs.declared.slot.Content.TheVariants as content
use Rattle.swc_tree_node.specs.declared.slot.Slot.TheVariants as slot
use Rattle.swc_tree_node.specs.Fits.{Fits}
use Rattle.jsbase_reader.specs.Versions.{versions_in_text}
use Rattle.jsbase_commands.specs.Judge.{IsTold}
use Rattle.jsbase_commands.proofs.CleanPrograms.{clean_program}
use Rattle.jsbase_commands.proofs.judge.run_on_two.Goals as goal

pub tell-requires-clause-read : goal.tell-requires-clause-read
tell-requires-clause-read c = ap (λ class. versions_in_text class c.args.input.now) (sym c.class_of.ensures) ∙ c.in-Ok.ensures.versions

pub tell-requires-clause-before : goal.tell-requires-clause-before
tell-requires-clause-before c = clean_program c.args.kind c.in-Ok.versions.before
    (subst (λ class. Fits c.in-Ok.versions.before (slot.One (content.Node class))) c.class_of.ensures c.in-Ok.ensures.before) c.in-Ok.ensures.clean_before

pub tell-requires-clause-after : goal.tell-requires-clause-after
tell-requires-clause-after c = clean_program c.args.kind c.in-Ok.versions.after
    (subst (λ class. Fits c.in-Ok.versions.after (slot.One (content.Node class))) c.class_of.ensures c.in-Ok.ensures.after) c.in-Ok.ensures.clean_after

pub returns-in-Ok-tell : goal.returns-in-Ok-tell
returns-in-Ok-tell c = (
  c.in-Ok.versions,
  ap (λ class. versions_in_text class c.args.input.now) (sym c.class_of.ensures) ∙ c.in-Ok.ensures.versions,
  subst (IsTold c.in-Ok.versions) (ap (λ v. v.items) (sym c.into_bytes.ensures.value)) c.in-Ok-tell.ensures,
)

pub returns-in-Err-tell : goal.returns-in-Err-tell
returns-in-Err-tell c = inr (c.in-Ok.versions, ap (λ class. versions_in_text class c.args.input.now) (sym c.class_of.ensures) ∙ c.in-Ok.ensures.versions, c.in-Err-tell.ensures)
