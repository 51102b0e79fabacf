use Rattle.std.proofs.Common.{[], ◌∷◌, ◌++◌, ap, ◌∙◌}
use Rattle.jsbase_writer.specs.Verdicts.{difference_json}
use Rattle.jsbase_writer.proofs.Tokens.{whole_text}
use Rattle.jsbase_writer.proofs.verdict.write_difference.Goals as goal

pub returns : goal.returns
returns c =
    let line = whole_text (difference_json c.args.after.now c.args.before.now c.args.why.now) _ _ _ c.new-out.ensures.tokens c.in_ok-write_difference_object.ensures.written c.text_of-text.ensures.text in
    c.in_ok-push_str.ensures.bytes ∙ ap (λ t. t ++ 10 ∷ []) line
