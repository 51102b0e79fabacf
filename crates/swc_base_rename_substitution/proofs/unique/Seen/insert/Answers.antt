use Rattle.std.proofs.Common.{None, Some, bytes_eq, ap, ◌∙◌}
use Rattle.std.specs.Prelude.{if◌then◌else◌}
use Rattle.std.specs.BTreeMap.{get_by_text}
use Rattle.std.proofs.lemmas.Map.Text.{btree_map_updates_text}
use Rattle.swc_base_rename_substitution.specs.Exports.{contexts_of}
use Rattle.swc_base_rename_substitution.proofs.Distinct.{one_seen}
use Rattle.swc_base_rename_substitution.proofs.unique.Seen.insert.Goals as goal

pub returns : goal.returns
returns c = λ x. (
    let before = c.args.self.now.contexts in
    let left = c.take-contexts.new.self.contexts in
    one_seen before left c.insert.new.self c.args.id c.take-contexts.result c.push.new.self x
    (c.take-contexts.ensures.taken ∙ ap (contexts_of before) c.as_str.ensures)
    c.in_ok-push.ensures.ok
    (c.take-contexts.ensures.left x.0 ∙ ap (λ t. if bytes_eq t x.0 then None else get_by_text before x.0) c.as_str.ensures)
    (btree_map_updates_text _ left c.insert.new.self (Some c.push.new.self) c.in_ok-insert.ensures.updates x.0 ∙ ap (λ t. if bytes_eq t x.0 then Some c.push.new.self else get_by_text left x.0) c.in_ok-key.ensures))
