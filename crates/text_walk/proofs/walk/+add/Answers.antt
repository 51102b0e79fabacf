use Rattle.std.proofs.Common.{◌≡◌, false, not, ◌&&◌, ◌||◌, OnOk, [], map, sym, ap, ◌∙◌, subst, arith, rules}
use Rattle.std.specs.Prelude.{slice_get}
use Rattle.swc_tree_node.specs.declared.node.Node.{List as Many, Tree, the_lemmas}
use Rattle.text_pieces.specs.Frames.{in_frames, inner_span, own_span, span_at}
use Rattle.text_pieces.specs.Pieces.{each_in, layout_pieces, pieces_in, specified, template_from, written, written_with}
use Rattle.text_walk.specs.Sinks.{Gains}
use Rattle.text_walk.proofs.Sinks.{stays, then}
use Rattle.text_walk.proofs.Gained.{commas_more, in_frame, in_two_frames, items_more, lines_more, specified_end, specified_more, template_more}
use Rattle.text_walk.proofs.Walked.{each_items, field_there, list_pieces, no_apart, no_field, no_items, no_within, tree_apart, tree_pieces, tree_within}
use Rattle.text_lexer.specs.declared.mark.Mark.TheVariants as mark
use Rattle.text_pieces.specs.declared.item.Item.TheVariants as item
use Rattle.text_walk.proofs.walk.+add.Goals as goal

pub add_lines-loop-i-preserved : goal.add_lines-loop-i-preserved
add_lines-loop-i-preserved t c =
    lines_more c.args.framed c.args.items.now c.loop-i.i c.index-items-i.result c.args.found.now c.loop-i.found c.push.new.found c.add.new.found
    c.loop-i-test.true c.index-items-i.is c.loop-i.invariant c.in_ok-push.ensures c.in_ok-add.ensures

pub add_list-loop-i-preserved : goal.add_list-loop-i-preserved
add_list-loop-i-preserved t c =
    commas_more c.args.framed c.args.items.now c.loop-i.i c.index-items-i.result c.args.found.now c.loop-i.found c.push_if.new.found c.add.new.found
    c.loop-i-test.true c.index-items-i.is c.loop-i.invariant c.in_ok-push_if.ensures c.in_ok-add.ensures

pub add_fields-loop-i-preserved : goal.add_fields-loop-i-preserved
add_fields-loop-i-preserved t c =
    items_more c.args.framed c.args.fields.now (map (written c.args.framed) c.args.fields.now) c.args.layout.now c.loop-i.i (item.Sign mark.LeftParen) c.args.found.now c.loop-i.found c.add_item.new.found
    c.loop-i-test.true c.loop-i.invariant c.in_ok-add_item.ensures

pub add_items-returns-then-n-fields : goal.add_items-returns-then-n-fields
add_items-returns-then-n-fields t c = rw (no_field c.args.framed c.args.fields.now c.args.n c.if-n-fields.true) (stays c.args.found.now)

pub add_part-returns-else-n-fields : goal.add_part-returns-else-n-fields
add_part-returns-else-n-fields t c = rw (no_field c.args.framed c.args.fields.now c.args.n c.if-n-fields.false) (stays c.args.found.now)

pub add_other-returns-else-n-fields : goal.add_other-returns-else-n-fields
add_other-returns-else-n-fields t c = rw (no_field c.args.framed c.args.fields.now c.args.n c.if-n-fields.false) (stays c.args.found.now)

pub add_items-returns-in-List : goal.add_items-returns-in-List
add_items-returns-in-List t c =
    let is = c.in-List.is ∙ ap (λ ts. Many ts) (sym c.as_slice.ensures) in
    let each = ap each_in (field_there c.args.framed c.args.fields.now c.args.n c.index-fields-n.result c.if-n-fields.false c.index-fields-n.is) ∙ ap (λ t. (written c.args.framed t).each) is ∙ each_items c.args.framed c.as_slice.result.now in
    rw each c.add_many.ensures

pub add_items-returns-in_default : goal.add_items-returns-in_default
add_items-returns-in_default t c =
    let each = ap each_in (field_there c.args.framed c.args.fields.now c.args.n c.index-fields-n.result c.if-n-fields.false c.index-fields-n.is) ∙ no_items c.args.framed c.index-fields-n.result (λ ts e. c.in_default.not-List ts e) in
    rw each (stays c.args.found.now)

pub add-returns-in-List : goal.add-returns-in-List
add-returns-in-List t c =
    let is = c.in-List.is ∙ ap (λ ts. Many ts) (sym c.as_slice.ensures) in
    let whole = ap (written_with c.args.framed) is ∙ list_pieces c.args.framed c.as_slice.result.now in
    subst (λ l. OnOk c.add_lines.result (Gains c.args.found.now l c.add_lines.new.found)) (sym whole) c.add_lines.ensures

pub add-returns-in-Tree : goal.add-returns-in-Tree
add-returns-in-Tree t c =
    let is = c.in-Tree.is ∙ ap (Tree c.in-Tree.kind) (sym c.as_slice-in-Tree.ensures) in
    let ts = c.as_slice-in-Tree.result.now in
    let whole = ap (written_with c.args.framed) is ∙ tree_pieces c.args.framed c.in-Tree.kind ts ∙ ap (λ l. in_frames c.args.framed c.in-Tree.kind ts (layout_pieces c.args.framed ts (map (written c.args.framed) ts) l)) (sym c.layout_of.ensures) in
    subst (λ l. OnOk c.add_tree.result (Gains c.args.found.now l c.add_tree.new.found)) (sym whole) c.add_tree.ensures

pub add_apart-returns-in-Tree : goal.add_apart-returns-in-Tree
add_apart-returns-in-Tree t c =
    let is = c.in-Tree.is ∙ ap (Tree c.in-Tree.kind) (sym c.as_slice.ensures) in
    let ts = c.as_slice.result.now in
    let whole = ap (λ t. (written c.args.framed t).apart) is ∙ tree_apart c.args.framed c.in-Tree.kind ts ∙ ap (λ l. in_frames c.args.framed c.in-Tree.kind ts (layout_pieces c.args.framed ts (map (written c.args.framed) ts) l)) (sym c.apart_layout_of.ensures) in
    subst (λ l. OnOk c.add_tree.result (Gains c.args.found.now l c.add_tree.new.found)) (sym whole) c.add_tree.ensures

pub add_within-returns-in-Tree : goal.add_within-returns-in-Tree
add_within-returns-in-Tree t c =
    let is = c.in-Tree.is ∙ ap (Tree c.in-Tree.kind) (sym c.as_slice.ensures) in
    let ts = c.as_slice.result.now in
    let whole = ap (λ t. (written c.args.framed t).within) is ∙ tree_within c.args.framed c.in-Tree.kind ts ∙ ap (layout_pieces c.args.framed ts (map (written c.args.framed) ts)) (sym c.layout_of.ensures) in
    subst (λ l. OnOk c.add_fields.result (Gains c.args.found.now l c.add_fields.new.found)) (sym whole) c.add_fields.ensures

pub add_inner-returns-else-n-fields : goal.add_inner-returns-else-n-fields
add_inner-returns-else-n-fields t c = rw (no_field c.args.framed c.args.fields.now c.args.n c.if-n-fields.false) (stays c.args.found.now)

pub add_at-returns : goal.add_at-returns
add_at-returns t c =
    then c.push_stopped.result
    (λ last. in_frame c.args.framed (span_at c.args.fields.now c.args.n) c.span_at.result c.span_at-2.result (pieces_in (slice_get (map (written c.args.framed) c.args.fields.now) c.args.m))
    c.args.found.now c.push_begun.new.found c.add_part-2.new.found c.push_stopped.new.found
    c.if-not-framed.false c.span_at.ensures c.span_at-2.ensures c.in_ok-push_begun.ensures c.in_ok-add_part.ensures last)
    c.push_stopped.ensures

pub add_specifiers-loop-i-preserved : goal.add_specifiers-loop-i-preserved
add_specifiers-loop-i-preserved t c =
    specified_more c.args.framed c.args.items.now c.loop-i.i c.index-items-i.result c.loop-i.some c.loop-i.inside c.opens.result c.stays_open-inside.result
    c.args.found.now c.loop-i.found c.push_if.new.found c.push_if-in-loop-i.new.found c.add.new.found (specified false false c.args.items.now (map (written_with c.args.framed) c.args.items.now))
    c.loop-i-test.true c.index-items-i.is c.loop-i.invariant c.in_ok-push_if.ensures c.in_ok-push_if-2.ensures c.in_ok-add.ensures
    (c.opens.ensures ∙ ap (λ b. b && not c.loop-i.inside) c.is_named-named.ensures) (c.stays_open-inside.ensures ∙ ap (λ b. c.loop-i.inside || b) c.is_named-named.ensures)

pub add_specifiers-returns : goal.add_specifiers-returns
add_specifiers-returns t c =
    then c.push_if-3.result
    (λ last. specified_end c.args.framed c.args.items.now c.loop-i.i c.loop-i.some c.loop-i.inside c.args.found.now c.loop-i.found c.push_if-2.new.found c.push_if-3.new.found
    (specified false false c.args.items.now (map (written_with c.args.framed) c.args.items.now)) c.loop-i-test.false c.loop-i.invariant c.in_ok-push_if-3.ensures last)
    c.push_if-3.ensures

pub add_template-loop-i-preserved : goal.add_template-loop-i-preserved
add_template-loop-i-preserved t c =
    template_more c.args.framed c.args.texts.now c.args.parts.now c.loop-i.i c.index-texts-i.result c.index-parts-i.result c.loop-i.some c.opening_part.result
    c.args.found.now c.loop-i.found c.add_text.new.found c.add.new.found (template_from c.args.framed false c.args.texts.now (map (written_with c.args.framed) c.args.parts.now))
    (omega arith) c.index-texts-i.is c.loop-i-test.true c.index-parts-i.is c.loop-i.invariant c.opening_part.ensures c.in_ok-add_text.ensures c.in_ok-add.ensures

pub add_tree-returns : goal.add_tree-returns
add_tree-returns t c =
    then c.push_stopped-2.result
    (λ last. in_two_frames c.args.framed (own_span c.args.kind c.args.fields.now) (inner_span c.args.kind c.args.fields.now) c.own_span.result c.inner_span.result c.inner_span-2.result c.own_span-2.result
    (layout_pieces c.args.framed c.args.fields.now (map (written c.args.framed) c.args.fields.now) c.args.layout.now)
    c.args.found.now c.push_begun.new.found c.push_begun-2.new.found c.add_fields-2.new.found c.push_stopped.new.found c.push_stopped-2.new.found
    c.if-not-framed.false c.own_span.ensures c.inner_span.ensures c.inner_span-2.ensures c.own_span-2.ensures
    c.in_ok-push_begun.ensures c.in_ok-push_begun-2.ensures c.in_ok-add_fields.ensures c.in_ok-push_stopped.ensures last)
    c.push_stopped-2.ensures

pub add-returns-in-Absent : goal.add-returns-in-Absent
add-returns-in-Absent t c =
    let none : written_with c.args.framed c.args.tree.now ≡ [] = search (rules, the_lemmas) in
    rw none (stays c.args.found.now)

pub add-returns-in-Absent-2 : goal.add-returns-in-Absent-2
add-returns-in-Absent-2 t c =
    let none : written_with c.args.framed c.args.tree.now ≡ [] = search (rules, the_lemmas) in
    rw none (stays c.args.found.now)

pub add-returns-in-Absent-3 : goal.add-returns-in-Absent-3
add-returns-in-Absent-3 t c =
    let none : written_with c.args.framed c.args.tree.now ≡ [] = search (rules, the_lemmas) in
    rw none (stays c.args.found.now)

pub add-returns-in-Absent-4 : goal.add-returns-in-Absent-4
add-returns-in-Absent-4 t c =
    let none : written_with c.args.framed c.args.tree.now ≡ [] = search (rules, the_lemmas) in
    rw none (stays c.args.found.now)

pub add_apart-returns-in_default : goal.add_apart-returns-in_default
add_apart-returns-in_default t c = rw (no_apart c.args.framed c.args.tree.now (λ k ts e. c.in_default.not-Tree k ts e)) (stays c.args.found.now)

pub add_within-returns-in_default : goal.add_within-returns-in_default
add_within-returns-in_default t c = rw (no_within c.args.framed c.args.tree.now (λ k ts e. c.in_default.not-Tree k ts e)) (stays c.args.found.now)
