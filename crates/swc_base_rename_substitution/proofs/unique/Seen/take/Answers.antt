use Rattle.std.proofs.Common.{None}
use Rattle.std.proofs.lemmas.Map.Text.{btree_map_updates_text}
use Rattle.swc_base_rename_substitution.proofs.unique.Seen.take.Goals as goal

pub returns-in-Some-clause-left : goal.returns-in-Some-clause-left
returns-in-Some-clause-left c = btree_map_updates_text c.args.text.now c.args.self.now.contexts c.remove.new.self None c.remove.ensures.updates

pub returns-in-None-clause-left : goal.returns-in-None-clause-left
returns-in-None-clause-left c = btree_map_updates_text c.args.text.now c.args.self.now.contexts c.remove.new.self None c.remove.ensures.updates
