-- How numbers, spans, contexts, texts, flags and words are read from JSON.
use Rattle.std.specs.Prelude.{ℕ, suc, ◌^◌, List, [], ◌∷◌, length, Bool, not, ◌&&◌, ◌==◌, nat_eq, nat_lt, if◌then◌else◌, Option, Some, None, option_and_then, Ok, Err, find}
use Rattle.std.specs.List.{list_any}
use Rattle.std.specs.Str.{bytes_eq, all_ascii_digits}
use Rattle.std.specs.Str.Parse.{digits_value}
use Rattle.json.specs.Json.{Json, Items, no_items, item}
use Rattle.json.specs.Find.{as_bool, as_number, as_str, as_array}
use Rattle.swc_tree_marks.specs.Globals.{Table, numbers}
use Rattle.swc_tree_marks.specs.declared.span.Span.{Span}
use Rattle.swc_tree_node.specs.declared.kind.Word.{Word}
use Rattle.swc_tree_node.specs.declared.kind.WordClass.{WordClass}
use Rattle.swc_tree_node.specs.Table.{words_of, spelling_of}
use Rattle.jsbase_form.specs.Reads.{Read, ◌>>=◌, at, found, index}

-- a mark of the table, and not the root
abbrev pub is_marked : Table → ℕ → Bool
is_marked table mark = not (mark == 0) && list_any (nat_eq mark) (numbers table)

-- the whole number of 32 bits that a text of digits alone writes
abbrev pub whole : List ℕ → Option ℕ
whole text = if nat_lt 0 (length text) && (all_ascii_digits text && nat_lt (digits_value 10 text) (2 ^ 32)) then Some (digits_value 10 text) else None

-- a whole number of 32 bits, written without sign, point and exponent
unfoldable pub number_at : Json → Read ℕ
number_at d = found (option_and_then whole (as_number d))

abbrev pub span_of : Items → Read Span
span_of (item lo (item hi no_items)) = at (index 0) (number_at lo) >>= (λ a. at (index 1) (number_at hi) >>= (λ b. Ok (record { lo = a; hi = b })))
span_of _ = Err []

unfoldable pub span_at : Json → Read Span
span_at d = found (as_array d) >>= span_of

abbrev pub marked : Table → ℕ → Read ℕ
marked table mark = if is_marked table mark then Ok mark else Err []

unfoldable pub mark_at : Table → Json → Read ℕ
mark_at table d = number_at d >>= marked table

-- the marks of the items, the first of which stands at index i
abbrev pub marks_of : Table → ℕ → Items → Read (List ℕ)
marks_of table i no_items = Ok []
marks_of table i (item d ds) = at (index i) (mark_at table d) >>= (λ mark. marks_of table (suc i) ds >>= (λ marks. Ok (mark ∷ marks)))

unfoldable pub context_at : Table → Json → Read (List ℕ)
context_at table d = found (as_array d) >>= marks_of table 0

unfoldable pub text_at : Json → Read (List ℕ)
text_at d = found (as_str d)

unfoldable pub flag_at : Json → Read Bool
flag_at d = found (as_bool d)

-- the word of a list that is spelled so
abbrev pub spelled : List ℕ → List Word → Option Word
spelled text words = find (λ w. bytes_eq (spelling_of w) text) words

unfoldable pub word_at : WordClass → Json → Read Word
word_at ws d = found (as_str d) >>= (λ text. found (spelled text (words_of ws)))
