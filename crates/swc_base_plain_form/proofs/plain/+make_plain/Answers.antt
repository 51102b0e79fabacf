use Rattle.std.proofs.Common.{arith, ap, map, refl, ◌∙◌, false}
use Rattle.swc_base_plain_form.specs.PlainForm.{forms, literal, parts}
use Rattle.swc_base_plain_form.proofs.Forms.{tree_plain}
use Rattle.swc_base_plain_form.proofs.Past.{all_past, next_past, none_past, set_other}
use Rattle.swc_base_plain_form.proofs.plain.+make_plain.Goals as goal

pub make_plain-returns : goal.make_plain-returns
make_plain-returns t c = tree_plain c.args.is_body c.args.node.now c.in-Some-kind.kind c.in-Some.children.now c.make_literal_plain.new.fields c.in-Some-kind.ensures c.in-Some.ensures.value
    (c.in_ok-make_literal_plain.ensures ∙ ap (literal c.in-Some-kind.kind) (c.in_ok-make_parts_plain.ensures ∙ ap (λ b. parts false b (map forms c.in-Some.children.now)) c.holds_statements.ensures))

pub make_parts_plain-loop-i-init : goal.make_parts_plain-loop-i-init
make_parts_plain-loop-i-init t c = (none_past c.args.lead c.args.is_body c.args.items.now, (refl, λ k d h. refl))

pub make_parts_plain-loop-i-preserved : goal.make_parts_plain-loop-i-preserved
make_parts_plain-loop-i-preserved t c =
    let past = next_past c.args.lead c.loop-i.leads _ c.args.is_body c.args.items.now c.loop-i.items _ c.loop-i.i c.item_mut.result.now c.make_next_plain.new.node c.loop-i.invariant.0 c.item_mut.ensures.value c.in_ok-leads.ensures.leads
    c.in_ok-leads.ensures.node refl in
    (past, (past.long, λ k d h. set_other c.loop-i.items c.loop-i.i k c.make_next_plain.new.node d (omega (arith, h)) ∙ c.loop-i.invariant.1.1 k d (omega (arith, h))))

pub make_parts_plain-returns : goal.make_parts_plain-returns
make_parts_plain-returns t c = all_past c.args.lead c.loop-i.leads c.args.is_body c.args.items.now c.loop-i.items c.loop-i.i c.loop-i.invariant.0 (omega arith)
