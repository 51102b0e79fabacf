use Rattle.std.specs.BTreeMap.{get}
use Rattle.mucwathi_looks.specs.Numbered.{key_cmp}
use Rattle.mucwathi_looks.proofs.Numbering.{kept, longer, not_there, still_apart}
use Rattle.mucwathi_looks.proofs.variables.add_number.Goals as goal

pub returns-in_ok-insert-clause-apart : goal.returns-in_ok-insert-clause-apart
returns-in_ok-insert-clause-apart c =
    still_apart c.args.numbers.now c.insert.new.self c.args.variable c.len-number.result c.len-number.ensures.len
    (longer _ _ c.in_ok-insert.field-0 (get key_cmp c.args.numbers.now c.args.variable) (not_there c.get.result (get key_cmp c.args.numbers.now c.args.variable) c.if-is_none.ensures c.get.ensures.value) c.in_ok-insert.ensures.old c.in_ok-insert.ensures.len) c.in_ok-insert.ensures.updates c.requires

pub returns-in_ok-insert-clause-keeps : goal.returns-in_ok-insert-clause-keeps
returns-in_ok-insert-clause-keeps c = kept c.args.numbers.now c.insert.new.self c.args.variable c.len-number.result (not_there c.get.result (get key_cmp c.args.numbers.now c.args.variable) c.if-is_none.ensures c.get.ensures.value) c.in_ok-insert.ensures.updates
