-- The tokens of a text (ECMA-262, 12).
use Rattle.std.specs.Prelude.{ℕ, List, Result, Ok, Err}
use Rattle.text_lexer.specs.declared.mark.Mark.{Mark}
use Rattle.text_lexer.specs.declared.token.Fault.{Fault}
use Rattle.text_lexer.specs.declared.token.TemplatePart.{TemplatePart}
use Rattle.text_lexer.specs.declared.token.Token as code
use Rattle.text_lexer.specs.declared.token.Token.TheVariants as codes_of

-- a token without where it lies in memory
pub data Token : Type 0 where
  -- a name or a word of the language, with no escape in it
  name : List ℕ → Token
  -- a name that is written with escapes, and no word of the language
  escaped_name : List ℕ → Token
  -- what stands behind `#`
  private_name : List ℕ → Token
  punctuator : Mark → Token
  -- a number, as it is written
  number : List ℕ → Token
  -- the same of a big integer, with its `n`
  big_integer : List ℕ → Token
  -- a string, as it is written between its quotes
  string : List ℕ → Token
  -- a piece of a template, as it is written between its signs
  template : TemplatePart → List ℕ → Token
  -- a body and flags
  regex : List ℕ → List ℕ → Token
  -- what stands behind `#!`
  hashbang : List ℕ → Token
  -- behind the last token
  end : Token

abbrev pub token_view : code.Token → Token
token_view (codes_of.Name text) = name text.now
token_view (codes_of.EscapedName text) = escaped_name text.now
token_view (codes_of.PrivateName text) = private_name text.now
token_view (codes_of.Mark m) = punctuator m
token_view (codes_of.Number text) = number text.now
token_view (codes_of.BigInt text) = big_integer text.now
token_view (codes_of.Str text) = string text.now
token_view (codes_of.Template part text) = template part text.now
token_view (codes_of.Regex body flags) = regex body.now flags.now
token_view (codes_of.Hashbang text) = hashbang text.now
token_view codes_of.End = end

abbrev pub map_ok : {A B : Type 0} → (A → B) → Result A Fault → Result B Fault
map_ok f (Ok x) = Ok (f x)
map_ok f (Err fault) = Err fault
