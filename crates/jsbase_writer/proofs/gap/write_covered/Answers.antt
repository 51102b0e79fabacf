use Rattle.std.proofs.Common.{[], ◌∷◌, ◌++◌, ap, ◌∙◌}
use Rattle.jsbase_writer.specs.Gaps.{covered_json}
use Rattle.jsbase_writer.proofs.Tokens.{whole_text}
use Rattle.jsbase_writer.proofs.gap.write_covered.Goals as goal

pub returns : goal.returns
returns c =
    let line = whole_text covered_json _ _ _ c.new-out.ensures.tokens c.in_ok-write_covered_object.ensures.written c.text_of-text.ensures.text in
    c.in_ok-push_str.ensures.bytes ∙ ap (λ t. t ++ 10 ∷ []) line
