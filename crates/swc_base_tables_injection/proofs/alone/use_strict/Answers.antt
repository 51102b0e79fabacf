use Rattle.swc_base_tables_injection.proofs.alone.use_strict.Goals as goal

pub returns : goal.returns
returns c = rw c.in_ok-text.ensures at c.string.ensures
