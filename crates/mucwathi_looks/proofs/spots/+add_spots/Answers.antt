use Rattle.std.proofs.Common.{◌≡◌, ◌++◌, OnOk, map, sym, ap, ◌∙◌, subst, arith}
use Rattle.std.specs.List.{flat_map}
use Rattle.swc_tree_node.specs.declared.node.Node.{List as Many, Tree}
use Rattle.mucwathi_looks.specs.Spots.{seen, spots}
use Rattle.mucwathi_looks.proofs.Spotting.{spots_all, spots_more, spots_of_list, spots_of_tree}
use Rattle.mucwathi_looks.proofs.spots.+add_spots.Goals as goal

pub add_spots-returns-in-List : goal.add_spots-returns-in-List
add_spots-returns-in-List t c =
    let is = c.in-List.is ∙ ap (λ ts. Many ts) (sym c.as_slice.ensures) in
    subst (λ l. OnOk c.add_spots_of.result (map seen c.add_spots_of.new.found.items ≡ map seen c.args.found.now.items ++ l)) (sym (spots_of_list c.args.node.now c.as_slice.result.now is)) c.add_spots_of.ensures

pub add_spots-returns-in-Tree : goal.add_spots-returns-in-Tree
add_spots-returns-in-Tree t c =
    let is = c.in-Tree.is ∙ ap (λ ts. Tree c.in-Tree.kind ts) (sym c.as_slice-in-Tree.ensures) in
    subst (λ l. OnOk c.add_spots_of-in-Tree.result (map seen c.add_spots_of-in-Tree.new.found.items ≡ map seen c.args.found.now.items ++ l))
    (ap (flat_map spots) c.told_fields.ensures ∙ sym (spots_of_tree c.args.node.now c.in-Tree.kind c.as_slice-in-Tree.result.now is)) c.add_spots_of-in-Tree.ensures

pub add_spots_of-loop-i-preserved : goal.add_spots_of-loop-i-preserved
add_spots_of-loop-i-preserved t c =
    spots_more c.args.nodes.now c.loop-i.i c.index-nodes-i.result (map seen c.args.found.now.items) (map seen c.loop-i.found.items) (map seen c.add_spots.new.found.items) c.loop-i-test.true c.index-nodes-i.is c.loop-i.invariant c.in_ok-add_spots.ensures

pub add_spots_of-returns : goal.add_spots_of-returns
add_spots_of-returns t c = spots_all c.args.nodes.now c.loop-i.i (map seen c.args.found.now.items) (map seen c.loop-i.found.items) (omega arith) c.loop-i.invariant
