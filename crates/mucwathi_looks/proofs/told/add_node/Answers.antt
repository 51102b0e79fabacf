use Rattle.std.proofs.Common.{map, sym, ◌∙◌}
use Rattle.mucwathi_looks.specs.Spots.{names_in, seen, told}
use Rattle.mucwathi_looks.proofs.Telling.{node_added, nowhere_told}
use Rattle.mucwathi_looks.proofs.told.add_node.Goals as goal

pub returns-then-is_nowhere : goal.returns-then-is_nowhere
returns-then-is_nowhere c =
    nowhere_told (names_in c.args.olds.now) (seen c.args.new.now) (seen c.args.written.now) (map told c.args.mapped.now.items) (sym c.is_nowhere.ensures ∙ c.if-is_nowhere.true)

pub returns : goal.returns
returns c =
    node_added (names_in c.args.olds.now) c.args.new.now c.args.written.now (record { read = c.bytes_before-read.result; written = c.bytes_before-out.result; old = c.old_name-old.result }) c.args.mapped.now.items c.push.new.self.items
    (sym c.is_nowhere.ensures ∙ c.if-is_nowhere.false) c.bytes_before-read.ensures c.bytes_before-out.ensures c.old_name-old.ensures c.in_ok-push.ensures.items
