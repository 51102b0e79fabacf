use Rattle.std.proofs.Common.{ap, codes, ◌++◌, ◌∙◌, [], refl, rules}
use Rattle.std.specs.Fmt.{HasWritten}
use Rattle.std.proofs.Output.{has_written_append, has_written_of_eq}
use Rattle.jsbase_form.specs.Reads.{part_text}
use Rattle.jsbase_form.specs.Steps.{part_of}
use Rattle.jsbase_form.proofs.Paths.{text_begins, text_grows, text_ends}
use Rattle.jsbase_form.proofs.path.FaultPathDisplay.fmt.Goals as goal

pub loop-step-init : goal.loop-step-init
loop-step-init g c = λ plain. (
  [],
  search rules,
  text_begins (codes "$") c.self.inside.steps.items _ c.args.self.now refl
      (ap (λ r. r.iter.rest.now) c.into_iter-step-iterator.ensures.into_iter_gives ∙ ap (λ i. i.rest.now) c.rev-step-items.ensures.source ∙ c.iter.ensures.rest ∙ c.deref.ensures.value) c.self.view_is,
)

pub loop-step-preserved : goal.loop-step-preserved
loop-step-preserved g c = λ plain.
    let so_far = c.loop-step.invariant plain in (
      so_far.0 ++ part_text (part_of c.in-Some.step.now),
      has_written_append _ _ _ _ _ _ so_far.1 (search rules),
      text_grows (codes "$" ++ so_far.0) _ _ _ c.in-Some.step.now c.args.self.now so_far.2 c.in-Some.ensures.steps refl,
    )

pub returns-clause-writes : goal.returns-clause-writes
returns-clause-writes g c = λ plain _.
    let first : HasWritten g.W.Write.write_str_gives c.args.f.now (codes "$") c.write_str.new.self = search rules in
    let so_far = c.loop-step.invariant first.plain in
    has_written_of_eq _ _ _ _ _ (text_ends _ _ c.args.self.now so_far.2 c.in-None.ensures.steps.0) (has_written_append _ _ _ _ _ _ first so_far.1)
