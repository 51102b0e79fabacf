use Rattle.std.proofs.Common.{rules, ◌≡◌, ◌++◌, ◌≤◌, [], ◌∷◌, length, refl, sym, ◌∙◌, arith}
use Rattle.swc_base_covers.proofs.Seeking.{found_there, leaf_here, leaf_more, list_below, name_here, none_of_all, passed_by, popped, tree_below, tree_here}
use Rattle.swc_base_covers.proofs.shown.+seek.Goals as goal

pub seek-returns-then-shows_at_tree : goal.seek-returns-then-shows_at_tree
seek-returns-then-shows_at_tree t c =
    tree_here c.args.cause c.args.place c.args.node.now c.in-Tree.kind c.in-Tree.fields c.as_slice-fields.result.now c.args.path.now.items c.shows_at_tree.result c.in-Tree.is c.as_slice-fields.ensures c.shows_at_tree.ensures c.if-shows_at_tree.true

pub seek-returns-in-Identifier : goal.seek-returns-in-Identifier
seek-returns-in-Identifier t c = name_here c.args.cause c.args.place c.args.node.now _ c.in-Identifier.ident c.get.result.now c.args.path.now.items c.shows_at_name.result c.in-Identifier.is c.get.ensures c.shows_at_name.ensures

pub seek-returns-in-List : goal.seek-returns-in-List
seek-returns-in-List t c =
    list_below c.args.cause c.args.place c.args.node.now c.in-List.items c.as_slice.result.now c.places_of_items.result c.args.path.now.items c.seek_below.new.path.items c.seek_below.result c.in-List.is c.as_slice.ensures c.places_of_items.ensures c.seek_below.ensures

pub seek-returns-else-shows_at_tree : goal.seek-returns-else-shows_at_tree
seek-returns-else-shows_at_tree t c =
    tree_below c.args.cause c.args.place c.args.node.now c.in-Tree.kind c.in-Tree.fields c.as_slice-fields.result.now c.as_slice-fields.result.now c.places_of_fields.result c.args.path.now.items c.seek_below-in-Tree.new.path.items c.shows_at_tree.result
    c.seek_below-in-Tree.result c.in-Tree.is c.as_slice-fields.ensures c.as_slice-fields.ensures c.shows_at_tree.ensures c.if-shows_at_tree.false c.places_of_fields.ensures c.seek_below-in-Tree.ensures

pub seek-returns-in_default : goal.seek-returns-in_default
seek-returns-in_default t c = leaf_here c.args.cause c.args.place c.args.node.now c.args.path.now.items c.in_default.not-List c.in_default.not-Identifier c.in_default.not-Tree

pub seek_below-loop-i-init : goal.seek_below-loop-i-init
seek_below-loop-i-init t c = (refl, λ j p l h. absurd (omega (arith, l)))

pub seek_below-loop-i-preserved-then-not-may_hold_names : goal.seek_below-loop-i-preserved-then-not-may_hold_names
seek_below-loop-i-preserved-then-not-may_hold_names t c = (
  c.loop-i.invariant.0,
  leaf_more c.args.cause c.args.places c.args.nodes.now c.loop-i.i c.index-nodes-i.result c.loop-i-test.true c.index-nodes-i.is c.loop-i.invariant.1 (sym c.may_hold_names.ensures ∙ c.if-not-may_hold_names.true),
)

pub seek_below-returns-then-branch : goal.seek_below-returns-then-branch
seek_below-returns-then-branch t c =
    found_there c.args.cause c.args.places c.args.nodes.now c.loop-i.i c.index-nodes-i.result c.loop-i-test.true c.index-nodes-i.is c.at.result c.args.path.now.items c.loop-i.path.items c.push.new.self.items c.seek.new.path.items c.in_ok-seek.field-0
    c.at.ensures c.loop-i.invariant.1 c.loop-i.invariant.0 c.in_ok-push.ensures.items c.in_ok-seek.ensures c.if-branch.true

pub seek_below-loop-i-preserved : goal.seek_below-loop-i-preserved
seek_below-loop-i-preserved t c =
    let (same, none) = passed_by c.args.cause c.args.places c.args.nodes.now c.loop-i.i c.index-nodes-i.result c.loop-i-test.true c.index-nodes-i.is c.at.result c.push.new.self.items c.seek.new.path.items c.in_ok-seek.field-0 c.at.ensures c.loop-i.invariant.1 c.in_ok-seek.ensures c.if-branch.false in
    let grown : c.seek.new.path.items ≡ c.loop-i.path.items ++ c.loop-i.i ∷ [] = same ∙ c.in_ok-push.ensures.items in
    let long : c.seek.new.path.len ≡ length c.seek.new.path.items = search rules in
    (popped c.seek.new.path.items c.loop-i.path.items c.pop.new.self.items c.seek.new.path.len c.loop-i.i grown long c.pop.ensures.rest ∙ c.loop-i.invariant.0, none)

pub seek_below-returns : goal.seek_below-returns
seek_below-returns t c =
    let whole : length c.args.nodes.now ≤ c.loop-i.i = search rules in
    (c.loop-i.invariant.0, none_of_all c.args.cause c.args.places c.args.nodes.now c.loop-i.i whole c.loop-i.invariant.1)
