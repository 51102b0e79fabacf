use Rattle.std.proofs.Common.{inl, inr, ap, ◌∙◌}
use Rattle.mucwathi_looks.proofs.Signed.{no_names, no_places, none_signed, one_signed}
use Rattle.mucwathi_looks.proofs.signs.all_signs.Goals as goal

pub loop-name-init : goal.loop-name-init
loop-name-init c =
    let zip = c.zip-name-items.ensures in
    let same = c.into_iter-name-iterator.ensures.into_iter_gives in
    none_signed _ _ c.args.names.now c.args.places.now c.new-signs.result.items (ap (λ z. z.a.rest.now) same ∙ ap (λ i. i.rest.now) zip.first ∙ c.iter.ensures.rest) (ap (λ z. z.b.rest.now) same ∙ zip.second.0) c.new-signs.ensures.items

pub loop-name-preserved : goal.loop-name-preserved
loop-name-preserved c =
    let i = c.loop-name.name-iterator in
    let steps = c.in-Some.ensures.steps in
    one_signed i.a.rest.now _ c.in-Some.name.now i.b.rest.now _ c.in-Some.place.now c.loop-name.signs.items c.add.new.signs.items _ steps.0 steps.1 c.in_ok-add.ensures c.loop-name.invariant

pub returns : goal.returns
returns c =
    let i = c.loop-name.name-iterator in
    elim c.in-None.ensures.steps [
      | inl done ↦ no_names i.a.rest.now i.b.rest.now c.loop-name.signs.items _ done.1.0 c.loop-name.invariant
      | inr done ↦ no_places i.a.rest.now i.b.rest.now c.loop-name.signs.items _ done.1.0 c.loop-name.invariant
    ]
