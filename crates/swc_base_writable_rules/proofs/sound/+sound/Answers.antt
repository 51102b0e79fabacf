use Rattle.std.proofs.Common.{◌≡◌, true, refl, sym, ap, ◌∙◌, arith}
use Rattle.std.proofs.lemmas.Option.{slice_get_read}
use Rattle.swc_tree_node.specs.declared.node.Node.{List as Many, Tree}
use Rattle.swc_base_writable_rules.specs.Asks.{ask_at, meets, seen}
use Rattle.swc_base_writable_rules.specs.Judged.{sounds}
use Rattle.swc_base_writable_rules.proofs.Judged.{met_next, met_none, none_of_tree, of_list, of_tree, seen_below, seen_met, seen_unmet}
use Rattle.swc_base_writable_rules.proofs.Fields.{met, not_met}
use Rattle.swc_base_writable_rules.proofs.sound.+sound.Goals as goal
use Rattle.swc_base_writable_rules.proofs.sound.+sound.Goals.{are_as_asked-else-look-via-then-look+else-not-is_sound, are_as_asked-else-look-via-else-look}

pub are_as_asked-returns-then-not-look : goal.are_as_asked-returns-then-not-look
are_as_asked-returns-then-not-look t c =
    let node = c.index-nodes-i.result in
    let here = slice_get_read c.args.nodes.now _ c.loop-i.i node refl (omega arith) c.index-nodes-i.is in
    sym (met_none (ask_at c.args.row) c.args.nodes.now c.loop-i.i node here
    (ap (λ a. meets a node (sounds node)) (sym c.at.ensures) ∙ sym (c.look_at-look.ensures (sounds node)) ∙ seen_unmet c.look_at-look.result (sounds node) (not_met c.look_at-look.result.met c.if-not-look.true)))

pub are_as_asked-returns-then-not-is_sound : goal.are_as_asked-returns-then-not-is_sound
are_as_asked-returns-then-not-is_sound t c =
    let node = c.index-nodes-i.result in
    let here = slice_get_read c.args.nodes.now _ c.loop-i.i node refl (omega arith) c.index-nodes-i.is in
    sym (met_none (ask_at c.args.row) c.args.nodes.now c.loop-i.i node here
    (ap (λ a. meets a node (sounds node)) (sym c.at.ensures) ∙ sym (c.look_at-look.ensures (sounds node))
    ∙ seen_below c.look_at-look.result (sounds node) (met c.look_at-look.result.met c.if-not-look.false) c.if-look.true ∙ sym c.is_sound.ensures ∙ c.if-not-is_sound.true))

pub are_as_asked-loop-i-preserved : goal.are_as_asked-loop-i-preserved
are_as_asked-loop-i-preserved t c =
    let node = c.index-nodes-i.result in
    let here = slice_get_read c.args.nodes.now _ c.loop-i.i node refl (omega arith) c.index-nodes-i.is in
    let now : seen c.look_at-look.result (sounds node) ≡ true = elim c.else-look.branch [
      | are_as_asked-else-look-via-then-look+else-not-is_sound w ↦
          seen_below c.look_at-look.result (sounds node) (met c.look_at-look.result.met c.if-not-look.false) w.if-look.true ∙ sym w.is_sound.ensures ∙ w.if-not-is_sound.false
      | are_as_asked-else-look-via-else-look w ↦ seen_met c.look_at-look.result (sounds node) (met c.look_at-look.result.met c.if-not-look.false) w.if-look.false
    ] in
    met_next (ask_at c.args.row) c.args.nodes.now c.loop-i.i node here c.loop-i.invariant
    (ap (λ a. meets a node (sounds node)) (sym c.at.ensures) ∙ sym (c.look_at-look.ensures (sounds node)) ∙ now)

pub is_sound-returns-then-not-in_head-2 : goal.is_sound-returns-then-not-in_head-2
is_sound-returns-then-not-in_head-2 t c =
    c.are_as_asked.ensures ∙ sym (of_list c.args.node.now c.as_slice.result.now c.args.in_head c.args.round (c.in-List.is ∙ ap (λ ts. Many ts) (sym c.as_slice.ensures)) c.if-not-in_head-2.true)

pub is_sound-returns-then-rule : goal.is_sound-returns-then-rule
is_sound-returns-then-rule t c =
    c.are_as_asked-then-rule.ensures
    ∙ sym (of_tree c.args.node.now c.in-Tree.kind c.as_slice-fields.result.now c.args.in_head c.args.round c.rule_of-rule.result (c.in-Tree.is ∙ ap (λ ts. Tree c.in-Tree.kind ts) (sym c.as_slice-fields.ensures)) c.rule_of-rule.ensures c.if-rule.true)

pub is_sound-returns-else-rule : goal.is_sound-returns-else-rule
is_sound-returns-else-rule t c =
    c.if-rule.false
    ∙ sym (none_of_tree c.args.node.now c.in-Tree.kind c.as_slice-fields.result.now c.args.in_head c.args.round c.rule_of-rule.result (c.in-Tree.is ∙ ap (λ ts. Tree c.in-Tree.kind ts) (sym c.as_slice-fields.ensures)) c.rule_of-rule.ensures c.if-rule.false)
