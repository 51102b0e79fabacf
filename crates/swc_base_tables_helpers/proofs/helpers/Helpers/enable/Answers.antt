use Rattle.swc_base_tables_helpers.proofs.Unions.{Gains-by, opposed}
use Rattle.swc_base_tables_helpers.proofs.helpers.Helpers.enable.Goals as goal
use Rattle.swc_base_tables_helpers.proofs.helpers.Helpers.enable.Goals.{then-self, else-self}

pub returns-clause-inline : goal.returns-clause-inline
returns-clause-inline c inline = elim c.if-self.branch [
  | then-self w ↦ absurd (opposed _ w.if-self.true (rw (← c.self.view_is, ← c.self-inside.view_is) at inline))
  | else-self w ↦ rw (← c.self.view_is, ← c.self-inside.view_is, w.gained-is) (Gains-by _ _ _ w.closed_set-gained.ensures)
]

pub returns-clause-alone : goal.returns-clause-alone
returns-clause-alone c external = elim c.if-self.branch [
  | then-self w ↦ rw (← c.self.view_is, ← c.self-inside.view_is, w.gained-is) (Gains-by _ _ _ w.alone-gained.ensures)
  | else-self w ↦ absurd (opposed _ (rw (← c.self.view_is, ← c.self-inside.view_is) at external) w.if-self.false)
]
