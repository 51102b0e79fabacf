use Rattle.std.proofs.Common.{◌++◌, ap, ◌∙◌}
use Rattle.jsbase_writer.specs.Envelopes.{table_json}
use Rattle.jsbase_writer.specs.Tokens.{tokens_of}
use Rattle.jsbase_writer.proofs.Tokens.{number_written, envelope_written}
use Rattle.jsbase_writer.proofs.envelope.write_object.Goals as goal

pub returns-clause-written : goal.returns-clause-written
returns-clause-written c =
    let rows = c.in_ok-write_rows.ensures.written ∙ ap (λ rows. c.key.new.self.tokens ++ tokens_of (table_json rows)) c.table.ensures.pairs in
    let top = number_written c.args.top _ _ _ c.in_ok-u64.ensures.ok (c.from.ensures ∙ c.as_u32.ensures) in
    let unresolved = number_written c.args.unresolved _ _ _ c.in_ok-u64-2.ensures.ok (c.from-2.ensures ∙ c.as_u32-2.ensures) in
    envelope_written c.args.out.now.tokens _ _ _ _ _ _ _ _ _ _ c.args.globals.now c.args.top c.args.tree.now c.args.unresolved c.in_ok-begin_object.ensures.ok c.in_ok-key.ensures.ok rows
    c.in_ok-key-2.ensures.ok top c.in_ok-key-3.ensures.ok c.in_ok-write_value.ensures.written c.in_ok-key-4.ensures.ok unresolved c.in_ok-end_object.ensures.ok
