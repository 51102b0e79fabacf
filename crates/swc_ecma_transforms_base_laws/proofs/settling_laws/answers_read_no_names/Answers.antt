use Rattle.swc_ecma_transforms_base_laws.proofs.settling_laws.answers_read_no_names.Goals as goal
use Rattle.swc_ecma_transforms_base_laws.proofs.Unread.{answers_read_no_names}

-- src/settling_laws.rt
pub returns : goal.returns
returns c = answers_read_no_names c.hygiene_stays_fitting.ensures c.hygiene_stays_writable.ensures c.targets_stand_bare.ensures c.new_names_add_no_reader.ensures c.contexts_add_no_reader.ensures c.stripping_adds_no_reader.ensures c.blocks_add_no_reader.ensures c.due_pairs_add_no_reader.ensures
