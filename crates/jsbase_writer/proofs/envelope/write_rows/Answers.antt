use Rattle.std.proofs.Common.{◌+◌, rules, map, drop, refl, ap, arith}
use Rattle.std.proofs.lemmas.List.{drop_more, drop_all}
use Rattle.std.proofs.lemmas.Grind.{common_steps}
use Rattle.jsbase_writer.specs.Envelopes.{row_json}
use Rattle.jsbase_writer.proofs.Tokens.{array_opened, item_written, array_closed}
use Rattle.jsbase_writer.proofs.envelope.write_rows.Goals as goal

pub loop-row-init : goal.loop-row-init
loop-row-init c = (array_opened (map row_json c.args.table.now) c.args.out.now.tokens c.begin_array.new.self.tokens c.in_ok-begin_array.ensures.ok, search rules, refl)

pub loop-row-preserved : goal.loop-row-preserved
loop-row-preserved c =
    let rows = c.args.table.now in
    let i = c.loop-row.row-index in
    let here = drop_more rows i (0, 0) (omega arith) in (
      item_written (map row_json (drop i rows)) (map row_json (drop (i + 1) rows)) _ _ _ _ c.loop-row.invariant.0 (ap (map row_json) here) c.in_ok-write_pair.ensures.written,
      search rules,
      grind (arith, common_steps),
    )

pub returns-clause-written : goal.returns-clause-written
returns-clause-written c =
    let rows = c.args.table.now in
    let i = c.loop-row.row-index in
    array_closed (map row_json (drop i rows)) _ _ _ c.loop-row.invariant.0 (ap (map row_json) (drop_all i rows (omega arith))) c.in_ok-end_array.ensures.ok
