use Rattle.std.proofs.Common.{◌≡◌, ◌++◌, map, take, drop, IsTrue}
use Rattle.json.specs.Value.{items_of}
use Rattle.jsbase_writer.specs.Envelopes.{row_json, table_json, table_short}
use Rattle.jsbase_writer.specs.Tokens.{tokens_of, tokens_of_items}
use Rattle.jsbase_writer.proofs.envelope.write_rows.Given as goal

-- what is left to be written
abbrev pub invariant-loop-row : goal.invariant-loop-row
invariant-loop-row l =
    (l.fn.out.tokens ++ tokens_of (table_json l.table) ≡ l.out.tokens ++ tokens_of_items (items_of (map row_json (drop l.row-index l.table))))
    × (l.out.before ≡ l.fn.out.before) × IsTrue (table_short (take l.row-index l.table))
