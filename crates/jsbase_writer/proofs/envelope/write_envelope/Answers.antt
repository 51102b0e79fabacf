use Rattle.std.proofs.Common.{[], ◌∷◌, ◌++◌, string_bytes, refl, sym, ap, ◌∙◌, subst}
use Rattle.std.specs.Str.{IsUtf8}
use Rattle.std.proofs.lemmas.Str.{IsUtf8-string_bytes}
use Rattle.jsbase_form.specs.Writing.{json}
use Rattle.jsbase_form.proofs.RoundTrip.{reads_as}
use Rattle.jsbase_writer.specs.Envelopes.{envelope_json, ReadsBack}
use Rattle.jsbase_writer.proofs.Back.{text_back}
use Rattle.jsbase_writer.proofs.Tokens.{whole_text, whole_read}
use Rattle.jsbase_writer.proofs.envelope.write_envelope.Goals as goal

pub returns-clause-text : goal.returns-clause-text
returns-clause-text c =
    let d = envelope_json c.args.globals.now c.args.top c.args.tree.now c.args.unresolved in
    let line = whole_text d _ _ _ c.new-out.ensures.tokens c.in_ok-write_object.ensures.written c.text_of-text.ensures.text in
    c.in_ok-push_str.ensures.bytes ∙ ap (λ t. t ++ 10 ∷ []) line

pub returns-clause-reads_back : goal.returns-clause-reads_back
returns-clause-reads_back c =
    let table = c.args.globals.now in
    let top = c.args.top in
    let tree = c.args.tree.now in
    let unresolved = c.args.unresolved in
    let d = envelope_json table top tree unresolved in
    let written = c.in_ok-write_object.ensures in
    let bytes = c.in_ok-push_str.ensures.bytes in
    let line = whole_read d _ _ _ c.new-out.ensures.tokens written.written c.text_of-text.ensures.reads_back in
    let back = text_back (string_bytes c.text_of-text.result) d table top tree unresolved refl (subst IsUtf8 bytes (IsUtf8-string_bytes c.push_str.new.self)) line written.table written.marks
    (reads_as (json tree) tree refl written.tree) in
    subst (λ t. ReadsBack t table top tree unresolved) (sym bytes) back
