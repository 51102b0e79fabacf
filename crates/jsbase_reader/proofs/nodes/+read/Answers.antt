use Rattle.std.proofs.Common.{◌≡◌, arith, ap, sym, ◌∙◌}
use Rattle.json.specs.Json.{array}
use Rattle.json.specs.Tree.{depth}
use Rattle.json.specs.Value.{value_view, items_view}
use Rattle.json.proofs.Trees.{view-Array}
use Rattle.jsbase_reader.specs.Parts.{members_in}
use Rattle.jsbase_reader.proofs.Items.{item_within, list_read, single_read}
use Rattle.jsbase_reader.proofs.Members.{found_there, member_depth, nothing_there}
use Rattle.jsbase_reader.proofs.nodes.+read.Goals as goal

pub read_list-read_value-read-requires : goal.read_list-read_value-read-requires
read_list-read_value-read-requires t c =
    let within = item_within c.args.values.now c.loop-i.i c.index-values-i.result c.loop-i-test.true in
    let same = ap (λ v. depth (value_view v)) c.index-values-i.is in
    (omega (arith, c.decreases, within, same), tt)

pub read_member-read_value-requires : goal.read_member-read_value-requires
read_member-read_value-requires t c =
    let within = member_depth c.args.key.now (members_in (value_view c.args.object.now)) (value_view c.in-Some.value.now) (sym c.in-Some.ensures) in
    (omega (arith, within), tt)

pub read_member-returns-in-Some : goal.read_member-returns-in-Some
read_member-returns-in-Some t c =
    rw (found_there c.args.globals.now (members_in (value_view c.args.object.now)) c.args.key.now c.args.slot (value_view c.in-Some.value.now) (sym c.in-Some.ensures)) c.read_value.ensures

pub read_member-returns-in-None : goal.read_member-returns-in-None
read_member-returns-in-None t c = rw (nothing_there c.args.globals.now (members_in (value_view c.args.object.now)) c.args.key.now c.args.slot (sym c.in-None.ensures)) c.read_null.ensures

pub read_value-returns-in-Some : goal.read_value-returns-in-Some
read_value-returns-in-Some t c =
    let is : value_view c.args.value.now ≡ array (items_view c.in-Array.values.items) = ap value_view c.in-Array.is ∙ view-Array c.in-Array.values in
    rw is (list_read c.args.globals.now c.in-Array.values.items c.args.slot c.in-Some.item c.len.result c.read_list.result (c.len.ensures ∙ c.in-Array.values.ok.0) c.in-Some.ensures (rw c.as_slice.ensures.value at c.read_list.ensures))

pub read_value-returns-in-None : goal.read_value-returns-in-None
read_value-returns-in-None t c =
    let is : value_view c.args.value.now ≡ array (items_view c.in-Array.values.items) = ap value_view c.in-Array.is ∙ view-Array c.in-Array.values in
    rw is (single_read c.args.globals.now c.in-Array.values.items c.args.slot c.len.result c.read_single.result (c.len.ensures ∙ c.in-Array.values.ok.0) c.in-None.ensures (rw is at c.read_single.ensures))
