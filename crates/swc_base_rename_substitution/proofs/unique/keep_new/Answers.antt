use Rattle.std.proofs.Common.{sym}
use Rattle.swc_base_rename_substitution.specs.Exports.{has_seen}
use Rattle.swc_base_rename_substitution.proofs.Distinct.{one_more_seen}
use Rattle.swc_base_rename_substitution.proofs.unique.keep_new.Goals as goal

pub returns-in_ok-insert-clause-seen : goal.returns-in_ok-insert-clause-seen
returns-in_ok-insert-clause-seen c =
    one_more_seen (has_seen c.args.seen.now.contexts) (has_seen c.insert.new.self.contexts) c.args.kept.now _ _ c.args.id
    (sym c.in_ok-copy.ensures) c.in_ok-push.ensures.ok c.requires c.in_ok-insert.ensures
