use Rattle.std.proofs.Common.{ap, ◌∙◌}
use Rattle.jsbase_form.proofs.Paths.{text_begins, text_grows, text_ends}
use Rattle.jsbase_form.proofs.path.FaultPath.to_text.Goals as goal

pub loop-step-init : goal.loop-step-init
loop-step-init c =
    text_begins _ c.self.inside.steps.items _ c.args.self.now c.in_ok-text.ensures.ok
    (ap (λ r. r.iter.rest.now) c.into_iter-step-iterator.ensures.into_iter_gives ∙ ap (λ i. i.rest.now) c.rev-step-items.ensures.source ∙ c.iter.ensures.rest ∙ c.deref.ensures.value) c.self.view_is

pub loop-step-preserved : goal.loop-step-preserved
loop-step-preserved c = text_grows _ _ _ _ c.in-Some.step.now c.args.self.now c.loop-step.invariant c.in-Some.ensures.steps c.in_ok-push_step.ensures

pub returns : goal.returns
returns c = text_ends _ _ c.args.self.now c.loop-step.invariant c.in-None.ensures.steps.0
