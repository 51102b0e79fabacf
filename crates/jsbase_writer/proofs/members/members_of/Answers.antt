use Rattle.std.proofs.Common.{map, inl, inr, refl, ap, ◌∙◌}
use Rattle.jsbase_writer.proofs.Places.{Gathered, row, nothing_gathered, one_gathered, next_gathered, no_fields, no_nodes}
use Rattle.jsbase_writer.proofs.members.members_of.Goals as goal

pub loop-field-init : goal.loop-field-init
loop-field-init c =
    let zip = c.zip-field-items.ensures in
    let same = c.into_iter-field-iterator.ensures.into_iter_gives in
    let fields = ap (λ z. map row z.a.rest.now) same ∙ ap (λ i. map row i.rest.now) zip.first ∙ ap (map row) c.iter.ensures.rest ∙ c.fields_of-fields.ensures in
    nothing_gathered c.args.kind c.args.nodes.now _ _ _ c.in_ok-members.members.items _ fields (ap (λ z. z.b.rest.now) same ∙ zip.second.0) c.in_ok-members.ensures.items c.in_ok-push.ensures.items refl refl refl

pub loop-field-preserved : goal.loop-field-preserved
loop-field-preserved c =
    let i = c.loop-field.field-iterator in
    let steps = c.in-Some.ensures.steps in
    one_gathered c.args.kind c.args.nodes.now _ _ _ _ _ _ _
    (next_gathered c.args.kind c.args.nodes.now i.a.rest.now _ c.in-Some.field.now i.b.rest.now _ c.in-Some.node.now c.loop-field.members.items c.loop-field.invariant steps.0 steps.1) refl refl refl
    (λ short. short) c.in_ok-insert.ensures.inserts c.in_ok-insert.ensures.data

pub insert-requires : goal.insert-requires
insert-requires c =
    let i = c.loop-field.field-iterator in
    let steps = c.in-Some.ensures.steps in
    (next_gathered c.args.kind c.args.nodes.now i.a.rest.now _ c.in-Some.field.now i.b.rest.now _ c.in-Some.node.now c.loop-field.members.items c.loop-field.invariant steps.0 steps.1).new.0

pub returns : goal.returns
returns c =
    let all : Gathered c.args.kind c.args.nodes.now c.loop-field.members.items = elim c.in-None.ensures.steps [
      | inl done ↦ no_fields c.args.kind c.args.nodes.now c.loop-field.field-iterator.b.rest.now c.loop-field.field-iterator.a.rest.now c.loop-field.members.items done.1.0 c.loop-field.invariant
      | inr done ↦ no_nodes c.args.kind c.args.nodes.now c.loop-field.field-iterator.b.rest.now c.loop-field.field-iterator.a.rest.now c.loop-field.members.items done.1.0 c.loop-field.invariant
    ] in
    record { «data» = all.0; tallest = all.1; short = all.2 }
