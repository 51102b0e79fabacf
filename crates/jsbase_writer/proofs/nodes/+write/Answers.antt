use Rattle.std.proofs.Common.{◌≡◌, ◌≤◌, refl, ◌+◌, [], ◌∷◌, ◌++◌, length, get_or, drop, map, sym, ap, ◌∙◌, subst, arith}
use Rattle.std.proofs.lemmas.List.{drop_more, drop_all}
use Rattle.std.specs.List.{slice_get}
use Rattle.json.specs.Json.{Members, member}
use Rattle.json.specs.Token.{string}
use Rattle.json.specs.Value.{items_of}
use Rattle.swc_tree_node.specs.declared.node.Node.{Tree}
use Rattle.swc_tree_node.specs.Table.{fields_of, name_of}
use Rattle.jsbase_form.specs.Writing.{json, typed, fields_put}
use Rattle.jsbase_writer.specs.Members.{part_data, members_data, PartShort}
use Rattle.jsbase_writer.specs.Order.{order_of}
use Rattle.jsbase_writer.specs.Ordered.{key_at, value_at, members_at, ShortAt, ShortOr}
use Rattle.jsbase_writer.specs.Tokens.{tokens_of, tokens_of_items, tokens_of_members}
use Rattle.jsbase_writer.proofs.Ordered.{in_order, all_short, no_higher, as_many, key_of_field, value_of_field, key_past, value_past, short_of_field, short_past}
use Rattle.jsbase_writer.proofs.Tokens.{name_written, absent_written, flag_written, word_written, text_written, list_written, tree_written, item_written, array_closed, member_more, no_member, member_before, object_closed, of_string}
use Rattle.jsbase_writer.proofs.Rests.{nodes_within, nodes_short, members_within, members_short}
use Rattle.jsbase_writer.proofs.nodes.+write.Goals as goal
use Rattle.jsbase_writer.proofs.nodes.+write.Goals.{write_in_order-then-number-nodes+in_ok-key+in_ok-write_value, write_in_order-else-number-nodes+in_ok-key-2+in_ok-string, write_members-in-Name+in_ok-string-in-Name, write_members-in-Node+in_ok-write_value-in-Node}

pub write_all-loop-node-preserved : goal.write_all-loop-node-preserved
write_all-loop-node-preserved t c =
    let ts = c.args.nodes.now in
    let i = c.loop-node.node-index in
    let node = c.node-item.result in
    let done = c.in_ok-write_value.ensures in
    let here : drop i ts ≡ node ∷ drop (i + 1) ts = drop_more ts i node (omega arith) ∙ ap (λ t. t ∷ drop (i + 1) ts) (sym c.node-item.is) in (
      item_written (map json (drop i ts)) (map json (drop (i + 1) ts)) (json node) _ _ _ c.loop-node.invariant.0 (ap (map json) here) done.written,
      done.before ∙ c.loop-node.invariant.1,
      nodes_within (drop i ts) (drop (i + 1) ts) node ts here c.loop-node.invariant.2,
      λ rest. c.loop-node.invariant.3 (nodes_short (drop i ts) (drop (i + 1) ts) node here done.short rest),
    )

pub write_all-returns-clause-written : goal.write_all-returns-clause-written
write_all-returns-clause-written t c =
    let ts = c.args.nodes.now in
    let i = c.loop-node.node-index in
    array_closed (map json (drop i ts)) _ _ _ c.loop-node.invariant.0 (ap (map json) (drop_all i ts (omega arith))) c.in_ok-end_array.ensures.ok

pub write_members-loop-member-preserved : goal.write_members-loop-member-preserved
write_members-loop-member-preserved t c =
    let ms = c.args.members.now in
    let i = c.loop-member.member-index in
    let m = c.member-item.result in
    let here : drop i ms ≡ m ∷ drop (i + 1) ms = drop_more ms i m (omega arith) ∙ ap (λ m. m ∷ drop (i + 1) ms) (sym c.member-item.is) in
    let step : (c.match-member.out.tokens ≡ c.key.new.self.tokens ++ tokens_of (part_data m.part)) × (c.match-member.out.before ≡ c.key.new.self.before) × PartShort m.part = elim c.match-member.branch [
      | write_members-in-Name+in_ok-string-in-Name b ↦
          let name = b.in_ok-string-in-Name.ensures.ok ∙ ap (λ s. c.key.new.self.tokens ++ string s ∷ []) b.name_of.ensures in
          rw b.out-is (
            name ∙ ap (λ ts. c.key.new.self.tokens ++ ts) (sym (name_written m.part b.in-Name.kind b.in-Name.is)),
            b.in_ok-string-in-Name.ensures.room.0,
            subst PartShort (sym b.in-Name.is) tt,
          )
      | write_members-in-Node+in_ok-write_value-in-Node b ↦
          let done = b.in_ok-write_value-in-Node.ensures in
          rw b.out-is (
            done.written ∙ ap (λ p. c.key.new.self.tokens ++ tokens_of (part_data p)) (sym b.in-Node.is),
            done.before,
            subst PartShort (sym b.in-Node.is) done.short,
          )
    ] in (
      member_more (drop i ms) (drop (i + 1) ms) m _ _ _ _ c.loop-member.invariant.0 here c.in_ok-key.ensures.ok step.0,
      step.1 ∙ c.in_ok-key.ensures.room.0 ∙ c.loop-member.invariant.1,
      members_within (drop i ms) (drop (i + 1) ms) m ms here c.loop-member.invariant.2,
      λ rest. c.loop-member.invariant.3 (members_short (drop i ms) (drop (i + 1) ms) m here step.2 rest),
    )

pub write_members-returns-clause-written : goal.write_members-returns-clause-written
write_members-returns-clause-written t c =
    no_member (drop c.loop-member.member-index c.args.members.now) _ _ _ c.loop-member.invariant.0 (drop_all c.loop-member.member-index c.args.members.now (omega arith)) c.in_ok-end_object.ensures.ok

pub write_value-returns-in_ok-null-in-Absent-clause-written : goal.write_value-returns-in_ok-null-in-Absent-clause-written
write_value-returns-in_ok-null-in-Absent-clause-written t c =
    c.in_ok-null-in-Absent.ensures.ok ∙ ap (λ ts. c.args.out.now.tokens ++ ts) (sym (absent_written c.args.node.now c.in-Absent.is))

pub write_value-returns-in_ok-boolean-in-Flag-clause-written : goal.write_value-returns-in_ok-boolean-in-Flag-clause-written
write_value-returns-in_ok-boolean-in-Flag-clause-written t c =
    c.in_ok-boolean-in-Flag.ensures.ok ∙ ap (λ ts. c.args.out.now.tokens ++ ts) (sym (flag_written c.args.node.now _ c.in-Flag.is))

pub write_value-returns-in_ok-string-in-Word-clause-written : goal.write_value-returns-in_ok-string-in-Word-clause-written
write_value-returns-in_ok-string-in-Word-clause-written t c =
    c.in_ok-string-in-Word.ensures.ok ∙ ap (λ s. c.args.out.now.tokens ++ string s ∷ []) c.spelling_of.ensures
    ∙ ap (λ ts. c.args.out.now.tokens ++ ts) (sym (word_written c.args.node.now _ c.in-Word.is))

pub write_value-returns-in_ok-string-in-Text-clause-written : goal.write_value-returns-in_ok-string-in-Text-clause-written
write_value-returns-in_ok-string-in-Text-clause-written t c =
    c.in_ok-string-in-Text.ensures.ok ∙ ap (λ s. c.args.out.now.tokens ++ string s ∷ []) c.as_str.ensures
    ∙ ap (λ ts. c.args.out.now.tokens ++ ts) (sym (text_written c.args.node.now _ c.in-Text.is))

pub write_value-returns-in_ok-write_all-in-List-clause-written : goal.write_value-returns-in_ok-write_all-in-List-clause-written
write_value-returns-in_ok-write_all-in-List-clause-written t c =
    let nodes = c.in_ok-write_all-in-List.ensures.written ∙ ap (λ ts. c.begin_array.new.self.tokens ++ tokens_of_items (items_of (map json ts))) c.as_slice.ensures in
    list_written c.args.node.now c.in-List.nodes c.args.out.now.tokens _ _ c.in-List.is c.in_ok-begin_array-in-List.ensures.ok nodes

pub write_value-returns-in_ok-write_sorted-in-Tree-clause-written : goal.write_value-returns-in_ok-write_sorted-in-Tree-clause-written
write_value-returns-in_ok-write_sorted-in-Tree-clause-written t c =
    let is = c.in-Tree.is ∙ ap (Tree c.in-Tree.kind) (sym c.as_slice-nodes.ensures) in
    c.in_ok-write_sorted-in-Tree.ensures.written ∙ ap (λ t. c.args.out.now.tokens ++ tokens_of (json t)) (sym is)

pub write_sorted-returns-clause-written : goal.write_sorted-returns-clause-written
write_sorted-returns-clause-written t c =
    let k = c.args.kind in
    let ts = c.args.nodes.now in
    let members = ap members_data c.as_slice.ensures.value ∙ c.in_ok-members.ensures.«data» in
    tree_written (Tree k ts) k ts (members_data c.as_slice.result.now) c.args.out.now.tokens _ _ refl members c.in_ok-begin_object.ensures.ok c.in_ok-write_members.ensures.written

pub write_value-returns-in_ok-write_in_order-in-Tree-clause-written : goal.write_value-returns-in_ok-write_in_order-in-Tree-clause-written
write_value-returns-in_ok-write_in_order-in-Tree-clause-written t c =
    let k = c.in-Tree.kind in
    let members = ap (λ ts. fields_put (fields_of k) (map json ts) (typed k)) c.as_slice-nodes.ensures in
    tree_written c.args.node.now k c.in-Tree.nodes _ c.args.out.now.tokens _ _ c.in-Tree.is members c.in_ok-begin_object-in-Tree.ensures.ok c.in_ok-write_in_order-in-Tree.ensures.written

pub write_in_order-returns-clause-written : goal.write_in_order-returns-clause-written
write_in_order-returns-clause-written t c =
    let k = c.args.kind in
    let ts = c.args.nodes.now in
    let i = c.loop-number.number-index in
    let done : drop i (order_of k) ≡ [] = ap (drop i) (sym c.order_of-number-items.ensures) ∙ drop_all i c.order_of-number-items.result.now (omega arith) in
    object_closed (members_at k ts (drop i (order_of k))) _ _ _ c.loop-number.invariant.0 (ap (members_at k ts) done) c.in_ok-end_object.ensures.ok
    ∙ ap (λ ms. c.args.out.now.tokens ++ tokens_of_members ms) (in_order k ts c.requires)

pub write_in_order-returns-clause-short : goal.write_in_order-returns-clause-short
write_in_order-returns-clause-short t c =
    let k = c.args.kind in
    let ts = c.args.nodes.now in
    let i = c.loop-number.number-index in
    let done : drop i (order_of k) ≡ [] = ap (drop i) (sym c.order_of-number-items.ensures) ∙ drop_all i c.order_of-number-items.result.now (omega arith) in
    all_short k ts c.requires (c.loop-number.invariant.2 (subst (ShortAt ts) (sym done) tt))

pub write_in_order-write_value-requires : goal.write_in_order-write_value-requires
write_in_order-write_value-requires t c =
    let i = get_or c.order_of-number-items.result.now c.loop-number.number-index 0 in
    let low = no_higher c.args.nodes.now i c.index-nodes-number.result c.if-number-nodes.true c.index-nodes-number.is in
    omega arith

pub write_in_order-loop-number-preserved : goal.write_in_order-loop-number-preserved
write_in_order-loop-number-preserved t c =
    let k = c.args.kind in
    let ts = c.args.nodes.now in
    let os = c.order_of-number-items.result.now in
    let n = c.loop-number.number-index in
    let i = get_or os n 0 in
    let before = c.loop-number.out in
    let after = c.if-number-nodes.out in
    let here : drop n (order_of k) ≡ i ∷ drop (n + 1) (order_of k) =
    ap (drop n) (sym c.order_of-number-items.ensures) ∙ drop_more os n 0 (omega arith) ∙ ap (λ os. i ∷ drop (n + 1) os) c.order_of-number-items.ensures in
    let step : ((rest : Members) → after.tokens ++ tokens_of_members rest ≡ before.tokens ++ tokens_of_members (member (key_at k i) (value_at k ts i) rest)) × (after.before ≡ before.before) × ShortOr (slice_get ts i) = elim c.if-number-nodes.branch [
      | write_in_order-then-number-nodes+in_ok-key+in_ok-write_value w ↦
          let many = as_many k w.fields_of.result.now w.fields_of.ensures in
          let within = w.if-number-nodes.true in
          rw w.out-is (
            member_before _ _ _ _ _ _ _ w.in_ok-key.ensures.ok w.in_ok-write_value.ensures.written
                (key_of_field k w.fields_of.result.now i _ w.fields_of.ensures (omega (arith, many, c.requires, within)))
                (value_of_field k ts i w.index-nodes-number.result within w.index-nodes-number.is),
            w.in_ok-write_value.ensures.before ∙ w.in_ok-key.ensures.room.0,
            short_of_field ts i w.index-nodes-number.result within w.index-nodes-number.is w.in_ok-write_value.ensures.short,
          )
      | write_in_order-else-number-nodes+in_ok-key-2+in_ok-string w ↦
          let name = w.in_ok-string.ensures.ok ∙ ap (λ s. w.key-else-number-nodes.new.self.tokens ++ string s ∷ []) w.name_of.ensures in
          let past : length ts ≤ i = omega (arith, w.if-number-nodes.false) in
          rw w.out-is (
            member_before _ _ _ _ _ _ _ w.in_ok-key-2.ensures.ok (name ∙ ap (λ ts. w.key-else-number-nodes.new.self.tokens ++ ts) (sym (of_string (name_of k))))
                (key_past k ts i c.requires past) (value_past k ts i past),
            w.in_ok-string.ensures.room.0 ∙ w.in_ok-key-2.ensures.room.0,
            short_past ts i past,
          )
    ] in (
      c.loop-number.invariant.0 ∙ ap (λ is. before.tokens ++ tokens_of_members (members_at k ts is)) here ∙ sym (step.0 (members_at k ts (drop (n + 1) (order_of k)))),
      step.1 ∙ c.loop-number.invariant.1,
      λ rest. c.loop-number.invariant.2 (subst (ShortAt ts) (sym here) (step.2, rest)),
    )
