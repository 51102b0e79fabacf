-- Texts that are one token of a kind, as a whole (ECMA-262, 12).
use Rattle.std.specs.Prelude.{ℕ, Bool, true, false, not, ◌&&◌, ◌==◌, List, [], ◌∷◌, ◌++◌, length, codes, nat_eq, Option, Some, None, is_some, Result, Ok, Err, bytes_eq}
use Rattle.std.specs.List.{list_any}
use Rattle.std.specs.Cmp.Lexicographic.{pointwise}
use Rattle.std.specs.Str.{is_utf8}
use Rattle.text_strings.specs.declared.escape.Reading.TheVariants as reading
use Rattle.text_values.specs.Values.{cooked, is_value, template_raw, units}
use Rattle.text_lexer.specs.declared.token.Fault.{Fault}
use Rattle.text_lexer.specs.declared.token.Goal.TheVariants as goal
use Rattle.text_lexer.specs.Tokens as token
use Rattle.text_lexer.specs.Tokens.{Token}
use Rattle.text_lexer.specs.Lexical.{token_at}

-- a text begins with a token that passes, and nothing is left behind it
abbrev pub alone : (Token → Bool) → Result (Token × List ℕ) Fault → Bool
alone p (Ok found) = p found.0 && length found.1 == 0
alone p (Err fault) = false

abbrev pub is_name_token : Token → Bool
is_name_token (token.name a) = true
is_name_token _ = false

abbrev pub is_number_token : Token → Bool
is_number_token (token.number a) = true
is_number_token _ = false

abbrev pub is_big_integer_token : Token → Bool
is_big_integer_token (token.big_integer a) = true
is_big_integer_token _ = false

abbrev pub is_hashbang_token : Token → Bool
is_hashbang_token (token.hashbang a) = true
is_hashbang_token _ = false

-- a string of this value
abbrev pub is_string_token : List ℕ → Token → Bool
is_string_token value (token.string a) = is_value (cooked reading.Quoted a) value
is_string_token value _ = false

-- a regular expression of this pattern and these flags
abbrev pub is_regex_token : List ℕ → List ℕ → Token → Bool
is_regex_token pattern flags (token.regex a b) = bytes_eq a pattern && bytes_eq b flags
is_regex_token pattern flags _ = false

-- the value of a template's text, where its escapes have one
abbrev pub is_cooked : List ℕ → Option (List ℕ) → Bool
is_cooked a (Some value) = is_value (cooked reading.Template a) value
is_cooked a None = not (is_some (units reading.Template a))

-- a template without parts, of this value, that is written so
abbrev pub is_template_token : Option (List ℕ) → List ℕ → Token → Bool
is_template_token value raw (token.template part a) = bytes_eq (template_raw a) raw && is_cooked a value
is_template_token value raw _ = false

-- what is read as a name, with no escape in it (12.7); it may be a word of the language
abbrev pub reads_name : List ℕ → Bool
reads_name text = alone is_name_token (token_at goal.Div text)

-- such a text in UTF-8
abbrev pub is_name : List ℕ → Bool
is_name text = is_utf8 text && reads_name text

-- a number, and a big integer (12.9.3)
abbrev pub is_number : List ℕ → Bool
is_number text = alone is_number_token (token_at goal.Div text)

abbrev pub is_big_integer : List ℕ → Bool
is_big_integer text = alone is_big_integer_token (token_at goal.Div text)

-- a string of this value, with its quotes (12.9.4)
abbrev pub is_string : List ℕ → List ℕ → Bool
is_string value raw = alone (is_string_token value) (token_at goal.Div raw)

-- between backquotes a text of a template, of this value (12.9.6)
abbrev pub is_template : Option (List ℕ) → List ℕ → Bool
is_template value raw = alone (is_template_token value raw) (token_at goal.Div (codes "`" ++ (raw ++ codes "`")))

-- between slashes a pattern, and flags behind them (12.9.5)
abbrev pub is_regex : List ℕ → List ℕ → Bool
is_regex pattern flags = alone (is_regex_token pattern flags) (token_at goal.RegExp (codes "/" ++ (pattern ++ (codes "/" ++ flags))))

-- behind `#!` the rest of a line (12.5)
abbrev pub is_hashbang : List ℕ → Bool
is_hashbang text = alone is_hashbang_token (token_at goal.HashbangOrRegExp (codes "#!" ++ text))

-- the reserved words (12.7.2) but for `await` and `yield`, which are names where the grammar has no such operator
abbrev pub reserved : List (List ℕ)
reserved = codes "break" ∷ codes "case" ∷ codes "catch" ∷ codes "class" ∷ codes "const" ∷ codes "continue" ∷ codes "debugger" ∷ codes "default" ∷ codes "delete"
    ∷ codes "do" ∷ codes "else" ∷ codes "enum" ∷ codes "export" ∷ codes "extends" ∷ codes "false" ∷ codes "finally" ∷ codes "for" ∷ codes "function" ∷ codes "if"
    ∷ codes "import" ∷ codes "in" ∷ codes "instanceof" ∷ codes "new" ∷ codes "null" ∷ codes "return" ∷ codes "super" ∷ codes "switch" ∷ codes "this" ∷ codes "throw"
    ∷ codes "true" ∷ codes "try" ∷ codes "typeof" ∷ codes "var" ∷ codes "void" ∷ codes "while" ∷ codes "with" ∷ []

abbrev pub is_reserved : List ℕ → Bool
is_reserved text = list_any (pointwise nat_eq text) reserved
