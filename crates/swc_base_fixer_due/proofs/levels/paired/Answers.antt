use Rattle.std.proofs.Common.{sym, ◌∙◌}
use Rattle.swc_base_fixer_due.specs.Record.{place_in}
use Rattle.swc_base_fixer_due.proofs.Rows.{fields_settled, unasked}
use Rattle.swc_base_fixer_due.proofs.levels.paired.Goals as goal

pub returns : goal.returns
returns c = fields_settled (place_in c.args.recorded.now) c.args.in_chain c.args.kind c.args.fields.now c.as_slice.result.now c.as_slice-2.result.now _ c.row_of-row.result (sym c.is_statement.ensures ∙ c.if-is_statement.false) c.as_slice.ensures c.as_slice-2.ensures c.row_of-row.ensures c.in_ok-settle_fields.ensures

pub returns-then-not-asks : goal.returns-then-not-asks
returns-then-not-asks c = unasked (place_in c.args.recorded.now) c.args.in_chain c.args.kind c.args.fields.now c.as_slice.result.now (sym c.is_statement.ensures ∙ c.if-is_statement.false) c.as_slice.ensures (sym c.asks.ensures ∙ c.if-not-asks.true)
