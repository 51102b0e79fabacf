use Rattle.std.proofs.Common.{◌++◌, map, subst, sym, ap, ◌∙◌, length, arith}
use Rattle.std.proofs.lemmas.List.{append_assoc}
use Rattle.text_pieces.specs.Tokens.{piece_view}
use Rattle.text_comments.specs.Comments.{HasComments, before_token, before_tokens}
use Rattle.text_comments.proofs.Walks.{at_end, one_more}
use Rattle.text_comments.proofs.find.comments_between.Goals as goal

pub pieces-preserved : goal.pieces-preserved
pieces-preserved c = λ more h.
    let l = c.pieces in
    let source = c.args.source in
    let behind = c.in-Some.behind.now in
    let gone = before_tokens (length l.rest.now) source.comments c.goal_of.result source.whole.now l.fresh l.rest.now behind in
    subst (λ f. HasComments source.comments (map piece_view c.args.pieces.now) source.whole.now f)
    (sym (append_assoc l.found.items gone more) ∙ ap (λ f. f ++ more) (sym c.in_ok-add_before_tokens.ensures))
    (l.invariant (gone ++ more)
    (one_more source.comments source.whole.now l.fresh c.fresh_behind-fresh.result l.ending c.ending_behind-ending.result c.goal_of.result c.args.pieces.now l.i _ l.rest.now behind more
    (omega arith) c.in-Some.ensures c.goal_of.ensures c.fresh_behind-fresh.ensures c.ending_behind-ending.ensures h))

pub returns : goal.returns
returns c =
    let l = c.pieces in
    let source = c.args.source in
    let rest = before_token source.comments source.whole.now l.fresh l.rest.now in
    subst (λ f. HasComments source.comments (map piece_view c.args.pieces.now) source.whole.now f) (sym c.in_ok-add_before_token.ensures)
    (l.invariant rest (at_end source.comments source.whole.now l.fresh l.ending c.args.pieces.now l.i l.rest.now (omega arith)))
