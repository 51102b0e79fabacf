use Rattle.std.proofs.Common.{[], ◌∷◌, ◌++◌, ap, ◌∙◌}
use Rattle.jsbase_writer.specs.Gaps.{placed_gap_json}
use Rattle.jsbase_writer.proofs.Tokens.{whole_text}
use Rattle.jsbase_writer.proofs.gap.write_placed_gap.Goals as goal

pub returns : goal.returns
returns c =
    let line = whole_text (placed_gap_json c.args.word.now c.args.path.now) _ _ _ c.new-out.ensures.tokens c.in_ok-write_placed_gap_object.ensures.written c.text_of-text.ensures.text in
    c.in_ok-push_str.ensures.bytes ∙ ap (λ t. t ++ 10 ∷ []) line
