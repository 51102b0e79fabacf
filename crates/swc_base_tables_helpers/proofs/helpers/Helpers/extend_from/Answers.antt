use Rattle.swc_base_tables_helpers.proofs.Unions.{Gains-union}
use Rattle.swc_base_tables_helpers.proofs.helpers.Helpers.extend_from.Goals as goal

pub returns-clause-set : goal.returns-clause-set
returns-clause-set c = rw (← c.self.view_is, ← c.self-inside.view_is, ← c.other.view_is, ← c.other-inside.view_is) (Gains-union _ _)
