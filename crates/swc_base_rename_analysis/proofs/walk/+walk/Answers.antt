use Rattle.std.proofs.Common.{◌≡◌, OnOk, length, arith, refl, sym, ap, ◌∙◌, subst}
use Rattle.std.proofs.lemmas.Option.{slice_get_past, slice_get_read}
use Rattle.swc_tree_node.specs.declared.node.Node.{List as Many, Tree}
use Rattle.swc_tree_scoping.specs.Below.{places_of}
use Rattle.swc_base_rename_analysis.specs.Walk.{child_at, in_turn, laid_of, outside_of, turns_of, walk_but, walk_in, walks_at}
use Rattle.swc_base_rename_analysis.proofs.Layers.{field_walked, list_walked, name_walked, nameless_but_walked, nameless_field_walked, no_field_walked, one_turn_more, scope_walked, tree_walked, turns_walked}
use Rattle.swc_base_rename_analysis.proofs.walk.+walk.Goals as goal

-- src/walk.rt
pub walk-returns-in-Identifier : goal.walk-returns-in-Identifier
walk-returns-in-Identifier t c =
    subst (λ l. OnOk c.walk_name.result (laid_of c.walk_name.new.layout ≡ l))
    (name_walked c.args.place c.args.node.now c.in-Identifier.field-0 c.in-Identifier.ident c.get.result.now c.in-Identifier.is c.get.ensures (outside_of c.args.around.now) (laid_of c.args.layout.now))
    c.walk_name.ensures

pub walk-returns-in-List : goal.walk-returns-in-List
walk-returns-in-List t c =
    let node_is = c.in-List.is ∙ ap (λ ts. Many ts) (sym c.as_slice.ensures) in
    subst (λ l. OnOk c.walk_items.result (laid_of c.walk_items.new.layout ≡ l))
    (list_walked c.args.place c.args.node.now c.as_slice.result.now c.places_of_items.result node_is c.places_of_items.ensures (outside_of c.args.around.now) (laid_of c.args.layout.now))
    c.walk_items.ensures

pub walk-returns-in-Tree : goal.walk-returns-in-Tree
walk-returns-in-Tree t c =
    subst (λ t. OnOk c.walk_tree.result (laid_of c.walk_tree.new.layout ≡ walk_in c.args.place t (outside_of c.args.around.now) (laid_of c.args.layout.now)))
    (ap (λ ts. Tree c.in-Tree.kind ts) c.as_slice-in-Tree.ensures ∙ sym c.in-Tree.is)
    c.walk_tree.ensures

pub walk_tree-returns-in-None : goal.walk_tree-returns-in-None
walk_tree-returns-in-None t c =
    subst (λ l. OnOk c.walk_fields.result (laid_of c.walk_fields.new.layout ≡ l))
    (tree_walked c.args.place (Tree c.args.kind c.args.fields.now) c.args.kind c.args.fields.now c.places_of_fields.result refl c.places_of_fields.ensures
    (outside_of c.args.around.now) (laid_of c.args.layout.now) c.opened.result c.opened.ensures _ c.in-None.ensures)
    c.walk_fields.ensures

pub walk_tree-returns-in-Some : goal.walk_tree-returns-in-Some
walk_tree-returns-in-Some t c =
    subst (λ l. OnOk c.walk_scope.result (laid_of c.walk_scope.new.layout ≡ l))
    (tree_walked c.args.place (Tree c.args.kind c.args.fields.now) c.args.kind c.args.fields.now c.places_of_fields.result refl c.places_of_fields.ensures
    (outside_of c.args.around.now) (laid_of c.args.layout.now) c.opened.result c.opened.ensures _ c.in-Some.ensures)
    c.walk_scope.ensures

pub walk_fields-loop-turn-preserved : goal.walk_fields-loop-turn-preserved
walk_fields-loop-turn-preserved t c =
    one_turn_more (λ i. walk_but c.args.head.now.kind c.args.fields.now (walks_at (places_of c.args.head.now.places c.args.fields.now) c.args.fields.now) c.args.but (child_at c.args.head.now.kind i) (outside_of c.args.around.now))
    c.loop-turn.turn (laid_of c.args.layout.now) (laid_of c.loop-turn.layout) (laid_of c.walk_but.new.layout) c.loop-turn.invariant
    (c.in_ok-walk_but.ensures
    ∙ ap (λ i. walk_but c.args.head.now.kind c.args.fields.now (walks_at (places_of c.args.head.now.places c.args.fields.now) c.args.fields.now) c.args.but i (outside_of c.args.around.now) (laid_of c.loop-turn.layout)) c.child_at.ensures)

pub walk_scope-returns : goal.walk_scope-returns
walk_scope-returns t c =
    scope_walked c.args.scope c.args.place c.args.head.now.kind c.args.fields.now (walks_at (places_of c.args.head.now.places c.args.fields.now) c.args.fields.now) (outside_of c.args.around.now) (laid_of c.args.layout.now)
    c.key_field-key.result c.key_field-key.ensures (laid_of c.walk_optional.new.layout) c.in_ok-walk_optional.ensures
    c.in_ok-number.number c.in_ok-number.ensures.number (laid_of c.enter.new.self) c.in_ok-number.ensures.entered
    c.name_outside-name.result c.name_outside-name.ensures (laid_of c.walk_optional-2.new.layout) c.in_ok-walk_optional-2.ensures
    (laid_of c.begin.new.self) c.begin.ensures (laid_of c.use_own_name.new.layout) c.in_ok-use_own_name.ensures
    c.or.result c.or.ensures (laid_of c.walk_fields.new.layout) c.in_ok-walk_fields.ensures
    (laid_of c.end.new.self) c.end.ensures

pub walk_fields-returns : goal.walk_fields-returns
walk_fields-returns t c =
    let k = c.args.head.now.kind in
    let ts = c.args.fields.now in
    let places = places_of c.args.head.now.places ts in
    let ended : c.loop-turn.turn ≡ turns_of k (length ts) = omega arith in
    c.loop-turn.invariant
    ∙ ap (λ n. in_turn (λ i. walk_but k ts (walks_at places ts) c.args.but (child_at k i) (outside_of c.args.around.now)) n (laid_of c.args.layout.now)) ended
    ∙ turns_walked k ts places c.args.but (outside_of c.args.around.now) (laid_of c.args.layout.now)

pub walk_field-returns-in-Some : goal.walk_field-returns-in-Some
walk_field-returns-in-Some t c =
    let found = c.in-Some.ensures.lookup in
    let there = slice_get_read c.args.fields.now _ c.args.index c.in-Some.child.now refl found.3.0 found.1 in
    nameless_field_walked c.args.head.now.kind c.args.fields.now (places_of c.args.head.now.places c.args.fields.now) c.args.index c.in-Some.child.now there (sym c.may_hold_names.ensures ∙ c.if-not-may_hold_names.true) (outside_of c.args.around.now) (laid_of c.args.layout.now)

pub walk_but-returns-then-not-may_hold_names : goal.walk_but-returns-then-not-may_hold_names
walk_but-returns-then-not-may_hold_names t c =
    let found = c.in-Some.ensures.lookup in
    let there = slice_get_read c.args.fields.now _ c.args.index c.in-Some.child.now refl found.3.0 found.1 in
    nameless_but_walked c.args.head.now.kind c.args.fields.now (places_of c.args.head.now.places c.args.fields.now) c.args.but c.args.index c.in-Some.child.now there (sym c.may_hold_names.ensures ∙ c.if-not-may_hold_names.true) (outside_of c.args.around.now) (laid_of c.args.layout.now)

pub walk_branch-returns : goal.walk_branch-returns
walk_branch-returns t c =
    let there = slice_get_read c.args.fields.now _ c.args.index c.index-fields-index.result refl c.requires c.index-fields-index.is in
    subst (λ l. OnOk c.walk.result (laid_of c.walk.new.layout ≡ l))
    (field_walked c.args.head.now.kind c.args.fields.now c.args.head.now.places c.args.index c.index-fields-index.result there c.at.result c.at.ensures (outside_of c.args.around.now) (outside_of c.round_field-below.result) c.round_field-below.ensures (laid_of c.args.layout.now))
    c.walk.ensures

pub walk_field-returns-in-None : goal.walk_field-returns-in-None
walk_field-returns-in-None t c =
    let past = slice_get_past c.args.fields.now c.args.index c.in-None.ensures.lookup.3 in
    sym (no_field_walked c.args.head.now.kind c.args.fields.now (places_of c.args.head.now.places c.args.fields.now) c.args.index past (outside_of c.args.around.now) (laid_of c.args.layout.now))
