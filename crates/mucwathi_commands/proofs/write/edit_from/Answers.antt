use Rattle.std.proofs.Common.{◌≡◌, ℕ, List, map, sym, subst}
use Rattle.text_lexer.specs.declared.blank.Comments.{Comments}
use Rattle.text_pieces.specs.Tokens.{Piece, piece_view}
use Rattle.mucwathi_commands.specs.Written.{IsKept}
use Rattle.mucwathi_commands.proofs.Rewritten.{kept_from}
use Rattle.mucwathi_commands.proofs.write.edit_from.Goals as goal

pub returns-in-Ok-clause-kept : goal.returns-in-Ok-clause-kept
returns-in-Ok-clause-kept c = λ source is.
    subst (λ comments. IsKept comments source c.args.answer.now c.args.text.now c.in-Ok.out.items) c.comments_of.ensures
    (kept_from c.comments_of.result source c.args.answer.now c.args.text.now c.in-Ok.out.items (map piece_view c.args.before.now) is c.in-Ok.ensures.follows c.in-Ok.ensures.same c.in-Ok.ensures.names c.in-Ok.ensures.edited)
