-- Words of the language as they are written.
--
-- Printed by tools/print_table.py from tools/layouts.txt.
use Rattle.std.specs.Prelude.{ℕ, List, codes}
use Rattle.text_pieces.specs.declared.keyword.Keyword.{Keyword}
use Rattle.text_pieces.specs.declared.keyword.Keyword.TheVariants as keyword

-- a word as it is written
abbrev pub keyword_text : Keyword → List ℕ
keyword_text keyword.As = codes "as"
keyword_text keyword.Async = codes "async"
keyword_text keyword.Await = codes "await"
keyword_text keyword.Break = codes "break"
keyword_text keyword.Case = codes "case"
keyword_text keyword.Catch = codes "catch"
keyword_text keyword.Class = codes "class"
keyword_text keyword.Continue = codes "continue"
keyword_text keyword.Debugger = codes "debugger"
keyword_text keyword.Default = codes "default"
keyword_text keyword.Do = codes "do"
keyword_text keyword.Else = codes "else"
keyword_text keyword.Export = codes "export"
keyword_text keyword.Extends = codes "extends"
keyword_text keyword.False = codes "false"
keyword_text keyword.Finally = codes "finally"
keyword_text keyword.For = codes "for"
keyword_text keyword.From = codes "from"
keyword_text keyword.Function = codes "function"
keyword_text keyword.Get = codes "get"
keyword_text keyword.If = codes "if"
keyword_text keyword.Import = codes "import"
keyword_text keyword.In = codes "in"
keyword_text keyword.New = codes "new"
keyword_text keyword.Null = codes "null"
keyword_text keyword.Of = codes "of"
keyword_text keyword.Return = codes "return"
keyword_text keyword.Set = codes "set"
keyword_text keyword.Static = codes "static"
keyword_text keyword.Super = codes "super"
keyword_text keyword.Switch = codes "switch"
keyword_text keyword.This = codes "this"
keyword_text keyword.Throw = codes "throw"
keyword_text keyword.True = codes "true"
keyword_text keyword.Try = codes "try"
keyword_text keyword.Using = codes "using"
keyword_text keyword.While = codes "while"
keyword_text keyword.With = codes "with"
keyword_text keyword.Yield = codes "yield"
