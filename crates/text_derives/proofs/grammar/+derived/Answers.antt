use Rattle.std.proofs.Common.{◌≡◌, true, refl, sym, ap, ◌∙◌, arith}
use Rattle.std.proofs.lemmas.Option.{slice_get_read}
use Rattle.swc_tree_node.specs.declared.node.Node.{List as Many, Tree}
use Rattle.text_derives.specs.Asks.{ask_at, meets, seen}
use Rattle.text_derives.specs.Judged.{derived}
use Rattle.text_derives.proofs.Judged.{met_next, met_none, none_of_tree, of_list, of_tree, seen_below, seen_met, seen_unmet}
use Rattle.text_derives.proofs.Fields.{met, not_met}
use Rattle.text_derives.proofs.grammar.+derived.Goals as goal
use Rattle.text_derives.proofs.grammar.+derived.Goals.{are_as_asked-else-look-via-then-look+else-not-is_derived, are_as_asked-else-look-via-else-look}

pub are_as_asked-returns-then-not-look : goal.are_as_asked-returns-then-not-look
are_as_asked-returns-then-not-look t c =
    let node = c.index-nodes-i.result in
    let here = slice_get_read c.args.nodes.now _ c.loop-i.i node refl (omega arith) c.index-nodes-i.is in
    sym (met_none (ask_at c.args.row) c.args.nodes.now c.loop-i.i node here
    (ap (λ a. meets a node (derived node)) (sym c.at.ensures) ∙ sym (c.look_at-look.ensures (derived node)) ∙ seen_unmet c.look_at-look.result (derived node) (not_met c.look_at-look.result.met c.if-not-look.true)))

pub are_as_asked-returns-then-not-is_derived : goal.are_as_asked-returns-then-not-is_derived
are_as_asked-returns-then-not-is_derived t c =
    let node = c.index-nodes-i.result in
    let here = slice_get_read c.args.nodes.now _ c.loop-i.i node refl (omega arith) c.index-nodes-i.is in
    sym (met_none (ask_at c.args.row) c.args.nodes.now c.loop-i.i node here
    (ap (λ a. meets a node (derived node)) (sym c.at.ensures) ∙ sym (c.look_at-look.ensures (derived node))
    ∙ seen_below c.look_at-look.result (derived node) (met c.look_at-look.result.met c.if-not-look.false) c.if-look.true ∙ sym c.is_derived.ensures ∙ c.if-not-is_derived.true))

pub are_as_asked-loop-i-preserved : goal.are_as_asked-loop-i-preserved
are_as_asked-loop-i-preserved t c =
    let node = c.index-nodes-i.result in
    let here = slice_get_read c.args.nodes.now _ c.loop-i.i node refl (omega arith) c.index-nodes-i.is in
    let now : seen c.look_at-look.result (derived node) ≡ true = elim c.else-look.branch [
      | are_as_asked-else-look-via-then-look+else-not-is_derived w ↦
          seen_below c.look_at-look.result (derived node) (met c.look_at-look.result.met c.if-not-look.false) w.if-look.true ∙ sym w.is_derived.ensures ∙ w.if-not-is_derived.false
      | are_as_asked-else-look-via-else-look w ↦ seen_met c.look_at-look.result (derived node) (met c.look_at-look.result.met c.if-not-look.false) w.if-look.false
    ] in
    met_next (ask_at c.args.row) c.args.nodes.now c.loop-i.i node here c.loop-i.invariant
    (ap (λ a. meets a node (derived node)) (sym c.at.ensures) ∙ sym (c.look_at-look.ensures (derived node)) ∙ now)

pub is_derived-returns-then-not-in_chain : goal.is_derived-returns-then-not-in_chain
is_derived-returns-then-not-in_chain t c =
    c.are_as_asked.ensures ∙ sym (of_list c.args.node.now c.as_slice.result.now c.args.in_chain c.args.context (c.in-List.is ∙ ap (λ ts. Many ts) (sym c.as_slice.ensures)) c.if-not-in_chain.true)

pub is_derived-returns-then-rule : goal.is_derived-returns-then-rule
is_derived-returns-then-rule t c =
    c.are_as_asked-then-rule.ensures
    ∙ sym (of_tree c.args.node.now c.in-Tree.kind c.as_slice-fields.result.now c.args.in_chain c.args.context c.rule_of-rule.result (c.in-Tree.is ∙ ap (λ ts. Tree c.in-Tree.kind ts) (sym c.as_slice-fields.ensures)) c.rule_of-rule.ensures c.if-rule.true)

pub is_derived-returns-else-rule : goal.is_derived-returns-else-rule
is_derived-returns-else-rule t c =
    c.if-rule.false
    ∙ sym (none_of_tree c.args.node.now c.in-Tree.kind c.as_slice-fields.result.now c.args.in_chain c.args.context c.rule_of-rule.result (c.in-Tree.is ∙ ap (λ ts. Tree c.in-Tree.kind ts) (sym c.as_slice-fields.ensures)) c.rule_of-rule.ensures c.if-rule.false)
