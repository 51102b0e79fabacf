use Rattle.swc_base_alpha.proofs.CatchTexts.{all_kept}
use Rattle.swc_base_alpha.proofs.caught.note.Goals as goal

pub returns-clause-kept : goal.returns-clause-kept
returns-clause-kept c = all_kept _ _ _ c.in_ok-insert.ensures.updates

pub returns-clause-noted : goal.returns-clause-noted
returns-clause-noted c = λ catches. c.in_ok-insert.ensures.updates.1
