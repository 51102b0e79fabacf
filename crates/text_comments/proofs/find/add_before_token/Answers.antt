use Rattle.std.proofs.Common.{◌++◌, length, ap, ◌∙◌}
use Rattle.text_comments.specs.Comments.{among, end_before, position}
use Rattle.text_comments.proofs.find.add_before_token.Goals as goal

pub returns : goal.returns
returns c =
    let text = c.args.text.now in
    let source = c.args.source in
    let old = c.args.found.now.items in
    c.in_ok-add_among.ensures
    ∙ ap (λ t. old ++ among (length text) source.comments source.whole.now t c.position-leads.result c.args.fresh text) c.end_before-trails.ensures
    ∙ ap (λ l. old ++ among (length text) source.comments source.whole.now (end_before source.whole.now c.args.fresh text) l c.args.fresh text) (c.position-leads.ensures ∙ ap (position source.whole.now) c.behind_blanks-next.ensures)
