use Rattle.std.proofs.Common.{map, ◌∙◌}
use Rattle.text_pieces.specs.Tokens.{piece_view}
use Rattle.text_commented.specs.Steps.{merged, placed_view}
use Rattle.text_commented.proofs.print.print_among.Goals as goal

pub returns : goal.returns
returns c =
    let put = c.in_ok-put.put in
    let items = merged 0 (map piece_view c.args.pieces.now) (map placed_view put.placed.items) in
    let set = rw c.as_slice-placed.ensures.value at c.in_ok-text.ensures.set in
    let order = rw c.as_slice-placed.ensures.value at c.in_ok-text.ensures.order in
    let last = rw c.as_slice-placed.ensures.value at c.in_ok-text.ensures.last in
    let numbers = rw c.as_slice-used.ensures.value at c.in_ok-numbers.ensures in
    let each = rw c.as_slice-each.ensures.value at c.in_ok-left.ensures.each in
    record { follows = c.in_ok-text.ensures.follows; set = (put.used.items, items, c.in_ok-put.ensures, order, last, set, each ∙ numbers); told = c.in_ok-left.ensures.told }
