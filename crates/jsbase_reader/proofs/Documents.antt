-- What the JSON value of a text is read as.
use Rattle.std.proofs.Common.{◌≡◌, ℕ, List, Result, Err}
use Rattle.std.specs.Str.{IsUtf8}
use Rattle.std.proofs.lemmas.Str.{is_utf8-from_IsUtf8}
use Rattle.json.specs.Json.{Json}
use Rattle.jsbase_form.specs.Reads.{Read, ◌>>=◌, found}
use Rattle.jsbase_reader.specs.declared.error.ReadError.{ReadError}
use Rattle.jsbase_reader.specs.declared.error.ReadError.TheVariants as error
use Rattle.jsbase_reader.specs.Answers.{Gives, GivesIfRead}
use Rattle.jsbase_reader.specs.Envelopes.{document, text_in}

-- the bytes are those of the text
pub text_read : {A : Type 0} (f : Json → Read A) (bytes text : List ℕ) (read : Read A) → IsUtf8 bytes → text ≡ bytes → (found (document text) >>= f) ≡ read → (text_in bytes >>= f) ≡ read
text_read f bytes text read utf8 same h = rw (is_utf8-from_IsUtf8 bytes utf8, ← same) h

-- the same where it was refused
pub text_refused : {A : Type 0} (f : Json → Read A) (bytes text : List ℕ) (r : Result A ReadError) (e : ReadError) → r ≡ Err e → IsUtf8 bytes → text ≡ bytes → GivesIfRead {A = A} (Err e) (found (document text) >>= f) → Gives r (text_in bytes >>= f)
text_refused f bytes text r error.NoMemory is utf8 same h = rw is tt
text_refused f bytes text r (error.Fault p) is utf8 same h = rw is (text_read f bytes text (Err p) utf8 same h)
