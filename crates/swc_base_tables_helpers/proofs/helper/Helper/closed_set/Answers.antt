use Rattle.swc_base_tables_helpers.proofs.ClosedSets.{closed_sets, closed_is_closure}
use Rattle.swc_base_tables_helpers.proofs.helper.Helper.closed_set.Goals as goal

pub returns : goal.returns
unfolding closed_sets
returns c = rw (← c.self.view_is) (closed_is_closure c.self.inside.number c.self.invariant)
