use Rattle.std.proofs.Common.{take, drop, ap, sym, ◌∙◌, subst}
use Rattle.std.proofs.lemmas.List.{take-append-drop}
use Rattle.jsbase_writer.specs.Members.{members_data, IsPlace}
use Rattle.jsbase_writer.proofs.Places.{put_at_place}
use Rattle.jsbase_writer.proofs.members.insert.Goals as goal

pub returns-clause-data : goal.returns-clause-data
returns-clause-data c =
    let place : IsPlace c.args.member.key.now c.args.members.now.items c.place_of-place.result = subst (λ ms. IsPlace c.args.member.key.now ms c.place_of-place.result) c.deref.ensures.value c.place_of-place.ensures in
    ap members_data c.in_ok-insert.ensures.items ∙ put_at_place c.args.member c.args.members.now.items c.place_of-place.result place c.requires

pub returns-clause-inserts : goal.returns-clause-inserts
returns-clause-inserts c =
    let ms = c.args.members.now.items in
    let i = c.place_of-place.result in
    (take i ms, drop i ms, sym (take-append-drop i ms), c.in_ok-insert.ensures.items)
