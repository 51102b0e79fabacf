use Rattle.std.proofs.Common.{ap, ◌∙◌}
use Rattle.text_lexer.specs.Lexical.{token_at}
use Rattle.text_comments.specs.Comments.{behind_blanks, rest_of}
use Rattle.text_comments.proofs.find.behind_token.Goals as goal

pub returns-in-Ok : goal.returns-in-Ok
returns-in-Ok c =
    let blanks = behind_blanks c.args.comments c.args.fresh c.args.text.now in
    ap (rest_of blanks) c.in-Ok.ensures.value ∙ ap (λ t. rest_of blanks (token_at c.args.goal t)) c.behind_blanks-next.ensures

pub returns-in-Err : goal.returns-in-Err
returns-in-Err c =
    let blanks = behind_blanks c.args.comments c.args.fresh c.args.text.now in
    c.behind_blanks-next.ensures ∙ (ap (rest_of blanks) c.in-Err.ensures.value ∙ ap (λ t. rest_of blanks (token_at c.args.goal t)) c.behind_blanks-next.ensures)
