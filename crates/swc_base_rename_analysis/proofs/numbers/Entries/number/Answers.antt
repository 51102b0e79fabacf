use Rattle.std.proofs.Common.{◌≡◌, rules, false, length, map, sym, ap, ◌∙◌}
use Rattle.swc_base_rename_analysis.specs.Numbers.{known_ids, known_of}
use Rattle.swc_base_rename_analysis.proofs.Numbered.{added, entry_added, known_length}
use Rattle.swc_base_rename_analysis.proofs.numbers.Entries.number.Goals as goal

pub returns-in_ok-push-in-None-clause-table : goal.returns-in_ok-push-in-None-clause-table
returns-in_ok-push-in-None-clause-table c =
    let last : c.len-number.result ≡ length c.args.self.now.entries.items = search rules in
    (added c.args.self.now.numbers c.insert.new.self c.key_of-key.result (known_ids c.args.self.now) _ (c.args.ident.now.sym, c.args.ident.now.ctxt) c.len-number.result c.key_of-key.ensures.hash (λ j. (c.key_of-key.ensures.text j, c.key_of-key.ensures.context j)) c.in-None.ensures.value
    (last ∙ sym (known_length c.args.self.now.entries.items)) c.in_ok-insert-in-None.ensures.updates c.requires
    (ap (map known_of) c.in_ok-push-in-None.ensures.items ∙ entry_added c.args.self.now.entries.items _ (c.args.ident.now.sym, c.args.ident.now.ctxt) (λ j. record { id = (c.in_ok-to_id-in-None.ensures.0 j, c.in_ok-to_id-in-None.ensures.1 j); positions = c.new.ensures.items j; is_bound = false; stands_outside = false }))).0

pub returns-in_ok-push-in-None-clause-ids : goal.returns-in_ok-push-in-None-clause-ids
returns-in_ok-push-in-None-clause-ids c =
    let last : c.len-number.result ≡ length c.args.self.now.entries.items = search rules in
    (added c.args.self.now.numbers c.insert.new.self c.key_of-key.result (known_ids c.args.self.now) _ (c.args.ident.now.sym, c.args.ident.now.ctxt) c.len-number.result c.key_of-key.ensures.hash (λ j. (c.key_of-key.ensures.text j, c.key_of-key.ensures.context j)) c.in-None.ensures.value
    (last ∙ sym (known_length c.args.self.now.entries.items)) c.in_ok-insert-in-None.ensures.updates c.requires
    (ap (map known_of) c.in_ok-push-in-None.ensures.items ∙ entry_added c.args.self.now.entries.items _ (c.args.ident.now.sym, c.args.ident.now.ctxt) (λ j. record { id = (c.in_ok-to_id-in-None.ensures.0 j, c.in_ok-to_id-in-None.ensures.1 j); positions = c.new.ensures.items j; is_bound = false; stands_outside = false }))).1

pub returns-in_ok-push-in-None-clause-number : goal.returns-in_ok-push-in-None-clause-number
returns-in_ok-push-in-None-clause-number c =
    let last : c.len-number.result ≡ length c.args.self.now.entries.items = search rules in
    (added c.args.self.now.numbers c.insert.new.self c.key_of-key.result (known_ids c.args.self.now) _ (c.args.ident.now.sym, c.args.ident.now.ctxt) c.len-number.result c.key_of-key.ensures.hash (λ j. (c.key_of-key.ensures.text j, c.key_of-key.ensures.context j)) c.in-None.ensures.value
    (last ∙ sym (known_length c.args.self.now.entries.items)) c.in_ok-insert-in-None.ensures.updates c.requires
    (ap (map known_of) c.in_ok-push-in-None.ensures.items ∙ entry_added c.args.self.now.entries.items _ (c.args.ident.now.sym, c.args.ident.now.ctxt) (λ j. record { id = (c.in_ok-to_id-in-None.ensures.0 j, c.in_ok-to_id-in-None.ensures.1 j); positions = c.new.ensures.items j; is_bound = false; stands_outside = false }))).2
