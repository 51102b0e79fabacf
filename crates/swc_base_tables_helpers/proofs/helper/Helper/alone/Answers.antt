use Rattle.swc_base_tables_helpers.proofs.ClosedSets.{alone_has}
use Rattle.swc_base_tables_helpers.proofs.helper.Helper.alone.Goals as goal

pub returns : goal.returns
returns c = rw (← c.self.view_is) (alone_has c.self.inside.number c.self.invariant)
