-- The JSON value of a text.
use Rattle.std.proofs.Common.{◌≡◌, ℕ, List, [], Bool, true, false, cond, Some, None, Result, Ok, Err, option_and_then, refl, sym, ap, ◌∙◌}
use Rattle.std.specs.Str.{IsUtf8, is_utf8}
use Rattle.std.proofs.lemmas.Str.{IsUtf8-from_is_utf8, is_utf8-from_IsUtf8}
use Rattle.json.specs.Token.{Token}
use Rattle.json.specs.Lex.{tokens}
use Rattle.json.specs.Json.{Json, value, if_last}
use Rattle.json.specs.declared.value.Value.{Value}
use Rattle.jsbase_form.specs.Reads.{Read, found}
use Rattle.jsbase_reader.specs.declared.error.ReadError.{ReadError}
use Rattle.jsbase_reader.specs.declared.error.ReadError.TheVariants as error
use Rattle.jsbase_reader.specs.Answers.{Gives, GivesIfRead, GivesView}
use Rattle.swc_tree_node.specs.declared.kind.Class.{Class}
use Rattle.jsbase_reader.specs.declared.envelope.Envelope.{Envelope}
use Rattle.jsbase_reader.specs.Envelopes.{document, envelope_in_text, max_depth, text_in}
use Rattle.jsbase_reader.specs.Streamed.{envelope_in_document}

pub text_there : (bytes : List ℕ) (d : Json) → IsUtf8 bytes × (document bytes ≡ Some d) → text_in bytes ≡ Ok d
text_there bytes d h = rw (is_utf8-from_IsUtf8 bytes h.0) (ap found h.1)

no_text_at : (bytes : List ℕ) (b : Bool) → is_utf8 bytes ≡ b → (IsUtf8 bytes → document bytes ≡ None) → cond b (found (document bytes)) (Err []) ≡ Err []
no_text_at bytes true is h = ap found (h (IsUtf8-from_is_utf8 bytes is))
no_text_at bytes false is h = refl

pub no_text : (bytes : List ℕ) → (IsUtf8 bytes → document bytes ≡ None) → text_in bytes ≡ Err []
no_text bytes h = no_text_at bytes (is_utf8 bytes) refl h

pub fault_viewed : {A : Type 0} (r : Result (Value A) ReadError) → Gives r (Err []) → GivesView r (Err [])
fault_viewed (Ok v) h = absurd (cc)
fault_viewed (Err error.NoMemory) h = tt
fault_viewed (Err (error.Fault p)) h = cc

-- a value that is read to the end of the text
pub document_there : (bytes text : List ℕ) (ts rest : List Token) (d : Json) → text ≡ bytes → ts ≡ tokens text → value max_depth ts ≡ Some (d, rest) → rest ≡ [] → document bytes ≡ Some d
document_there bytes text ts rest d same lexed read end =
    ap (λ l. option_and_then (λ p. if_last p.0 p.1) (value max_depth l)) (sym (lexed ∙ ap tokens same)) ∙ ap (option_and_then (λ p. if_last p.0 p.1)) (read ∙ ap (λ l. Some (d, l)) end)

-- the envelope of the text of bytes
pub text_envelope : (c : Class) (bytes text : List ℕ) (read : Read Envelope) → IsUtf8 bytes → text ≡ bytes → envelope_in_document c text ≡ read → envelope_in_text c bytes ≡ read
text_envelope c bytes text read utf8 same h = rw (is_utf8-from_IsUtf8 bytes utf8, ← same) h

-- the same where it was refused
pub text_refused : (c : Class) (bytes text : List ℕ) (r : Result Envelope ReadError) (e : ReadError) → r ≡ Err e → IsUtf8 bytes → text ≡ bytes → GivesIfRead (Err e) (envelope_in_document c text) → Gives r (envelope_in_text c bytes)
text_refused c bytes text r error.NoMemory is utf8 same h = rw is tt
text_refused c bytes text r (error.Fault p) is utf8 same h = rw is (text_envelope c bytes text (Err p) utf8 same h)
