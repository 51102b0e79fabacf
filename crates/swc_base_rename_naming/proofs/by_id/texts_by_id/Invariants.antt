use Rattle.swc_base_rename_naming.specs.Steps.{text_at}
use Rattle.swc_base_rename_naming.proofs.ByIds.{IsMade}
use Rattle.swc_base_rename_naming.proofs.by_id.texts_by_id.Given as goal

abbrev pub invariant-loop-number : goal.invariant-loop-number
invariant-loop-number g l = IsMade (g.A.Asked.id_of l.asked) (text_at l.texts) l.number-counter l.any l.by_id
