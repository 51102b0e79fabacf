use Rattle.std.proofs.Common.{◌≡◌, ◌∙◌, ap, sym}
use Rattle.json.specs.Value.{members_view, value_view}
use Rattle.jsbase_reader.specs.Parts.{members_in}
use Rattle.jsbase_reader.specs.Streamed.{joined as are_joined}
use Rattle.jsbase_reader.proofs.OneByOne.{members_are, views_joined}
use Rattle.jsbase_reader.proofs.streamed.joined.Goals as goal

pub returns-in-Object-clause-all : goal.returns-in-Object-clause-all
returns-in-Object-clause-all c =
    let first : members_in (value_view c.args.before) ≡ members_view c.in-Object.all.items = ap (λ v. members_in (value_view v)) c.in-Object.is ∙ members_are c.in-Object.all in
    members_are c.append.new.self ∙ ap members_view c.in_ok-append-in-Object.ensures.items ∙ views_joined c.in-Object.all.items c.args.behind.items
    ∙ ap (λ ms. are_joined ms (members_view c.args.behind.items)) (sym first)
