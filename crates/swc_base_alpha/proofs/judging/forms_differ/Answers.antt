use Rattle.std.proofs.Common.{inl}
use Rattle.swc_base_alpha.proofs.FirstWord.{refuted}
use Rattle.swc_base_alpha.proofs.judging.forms_differ.Goals as goal

pub returns-then-not-same_outline-clause-decides : goal.returns-then-not-same_outline-clause-decides
returns-then-not-same_outline-clause-decides c = λ here there. inl (refuted c.same_outline.result _ c.same_outline.ensures c.if-not-same_outline.true, c.cause_of_shape.ensures.why)

pub returns-then-not-same_outline-clause-shows : goal.returns-then-not-same_outline-clause-shows
returns-then-not-same_outline-clause-shows c = λ here there. c.cause_of_shape.ensures.shows (refuted c.same_outline.result _ c.same_outline.ensures c.if-not-same_outline.true)
