use Rattle.std.proofs.Common.{◌≡◌, true, sym, ap, ◌∙◌}
use Rattle.std.specs.Prelude.{◌&&◌}
use Rattle.std.specs.Str.{is_utf8}
use Rattle.std.proofs.lemmas.Str.{is_utf8-from_IsUtf8}
use Rattle.text_words.proofs.token.is_name.Goals as goal
use Rattle.text_words.specs.Words.{reads_name}

-- a `&str` is in UTF-8
pub returns : goal.returns
returns c =
    let utf8 : is_utf8 c.args.text.now ≡ true = is_utf8-from_IsUtf8 c.args.text.now c.utf8.text in
    c.reads_name.ensures ∙ ap reads_name c.as_bytes.ensures.value ∙ sym (ap (λ b. b && reads_name c.args.text.now) utf8)
