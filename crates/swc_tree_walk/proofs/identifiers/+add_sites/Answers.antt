use Rattle.std.proofs.Common.{◌≡◌, ◌++◌, OnOk, map, sym, ap, ◌∙◌, subst}
use Rattle.swc_tree_node.specs.declared.node.Node.{List as Many, Tree}
use Rattle.swc_tree_walk.specs.Sites.{site_of}
use Rattle.swc_tree_walk.proofs.Walked.{found_more, found_no_more, sites_list, sites_tree}
use Rattle.swc_tree_walk.proofs.identifiers.+add_sites.Goals as goal

pub add_sites-returns-in-List : goal.add_sites-returns-in-List
add_sites-returns-in-List t c =
    let is = c.in-List.is ∙ ap (λ ts. Many ts) (sym c.as_slice.ensures) in
    subst (λ l. OnOk c.add_sites_below.result (map site_of c.add_sites_below.new.found.items ≡ map site_of c.args.found.now.items ++ l))
    (sym (sites_list c.args.place c.args.node.now c.as_slice.result.now c.places_of_items.result is c.places_of_items.ensures)) c.add_sites_below.ensures

pub add_sites-returns-in-Tree : goal.add_sites-returns-in-Tree
add_sites-returns-in-Tree t c =
    let is = c.in-Tree.is ∙ ap (λ ts. Tree c.in-Tree.kind ts) (sym c.as_slice-fields.ensures) in
    subst (λ l. OnOk c.add_sites_below-in-Tree.result (map site_of c.add_sites_below-in-Tree.new.found.items ≡ map site_of c.args.found.now.items ++ l))
    (sym (sites_tree c.args.place c.args.node.now c.in-Tree.kind c.as_slice-fields.result.now c.places_of_fields.result is c.places_of_fields.ensures)) c.add_sites_below-in-Tree.ensures

pub add_sites_below-loop-i-preserved : goal.add_sites_below-loop-i-preserved
add_sites_below-loop-i-preserved t c =
    found_more c.args.places c.args.nodes.now c.loop-i.i c.index-nodes-i.result c.at.result (map site_of c.args.found.now.items) (map site_of c.loop-i.found.items) (map site_of c.add_sites.new.found.items)
    c.loop-i-test.true c.index-nodes-i.is c.at.ensures c.loop-i.invariant c.in_ok-add_sites.ensures

pub add_sites_below-loop-i-preserved-then-not-may_hold_names : goal.add_sites_below-loop-i-preserved-then-not-may_hold_names
add_sites_below-loop-i-preserved-then-not-may_hold_names t c =
    found_no_more c.args.places c.args.nodes.now c.loop-i.i c.index-nodes-i.result (map site_of c.args.found.now.items) (map site_of c.loop-i.found.items)
    c.loop-i-test.true c.index-nodes-i.is (sym c.may_hold_names.ensures ∙ c.if-not-may_hold_names.true) c.loop-i.invariant
