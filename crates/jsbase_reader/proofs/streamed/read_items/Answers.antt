use Rattle.std.proofs.Common.{◌≡◌, Some, None, arith}
use Rattle.json.specs.Json.{after_end_array, value}
use Rattle.swc_tree_node.specs.declared.slot.Slot.TheVariants as slot
use Rattle.jsbase_reader.proofs.OneByOne.{taking_ends, taking_fails, taking_more}
use Rattle.jsbase_reader.proofs.streamed.read_items.Goals as goal

pub loop-content-preserved : goal.loop-content-preserved
loop-content-preserved c =
    let going : (after_end_array c.loop-content.reader ≡ None) × (c.take_end_array.new.self ≡ c.loop-content.reader) = grind arith in
    let m = c.in_ok-read_item.ensures.read in
    taking_more c.args.depth c.args.globals.now (slot.One c.args.content) c.args.reader.now c.loop-content.reader c.read_item.new.reader c.loop-content.nodes c.read_item.new.nodes m.item m.node c.loop-content.invariant going.0 (rw (← going.1) m.read)
    (rw (← going.1) m.shorter) m.seen m.pushed

pub returns-clause-read : goal.returns-clause-read
returns-clause-read c =
    let ends : after_end_array c.loop-content.reader ≡ Some c.take_end_array.new.self = grind arith in
    let all = taking_ends c.args.depth c.args.globals.now c.args.content (slot.One c.args.content) c.args.reader.now c.loop-content.reader c.take_end_array.new.self c.loop-content.nodes c.loop-content.invariant ends in
    rw c.in_ok-nodes.ensures (record { each = all.0; read = all.1; seen = all.2 })

pub returns-in_err-read_item-clause-json : goal.returns-in_err-read_item-clause-json
returns-in_err-read_item-clause-json c = λ stop.
    let going : (after_end_array c.loop-content.reader ≡ None) × (c.take_end_array.new.self ≡ c.loop-content.reader) = grind arith in
    let none : value c.args.depth c.take_end_array.new.self ≡ None = grind (arith, c.read_item.ensures.json) in
    taking_fails c.args.depth c.args.globals.now (slot.One c.args.content) c.args.reader.now c.loop-content.reader c.loop-content.nodes c.loop-content.invariant going.0 (rw (← going.1) none)
