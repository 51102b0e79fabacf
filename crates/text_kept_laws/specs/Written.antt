-- Pieces with all written out that may be written shorter, and without what may be left out.
use Rattle.std.specs.Prelude.{◌≡◌, ℕ, Bool, true, false, List, [], ◌∷◌, ◌++◌, codes, map, if◌then◌else◌}
use Rattle.std.specs.List.{filter, flat_map}
use Rattle.swc_tree_marks.specs.declared.ident.Ident.{Ident}
use Rattle.swc_tree_scoping.specs.Shorthands.{computed_key}
use Rattle.swc_tree_node.specs.declared.node.Node.{Node}
use Rattle.swc_tree_grammar.specs.Normal.{export_list}
use Rattle.swc_tree_grammar.specs.Same.{declared_names}
use Rattle.swc_tree_grammar.specs.Stripped.{is_member, parts, settled}
use Rattle.text_lexer.specs.declared.mark.Mark.TheVariants as mark
use Rattle.text_pieces.specs.Pieces.{lines, pieces, with_commas}
use Rattle.text_pieces.specs.Tokens.{Piece, closes, gap, may_comma, name, parameter, punctuator, word}
use Rattle.text_kept_laws.specs.Bound.{SameButBound}
use Rattle.text_kept_laws.specs.Unpaired.{LosesPairsAlone}

-- no token: how what stands before it ends, or how a text is laid out
abbrev pub is_between : Piece → Bool
is_between (closes e) = true
is_between (gap g) = true
is_between p = false

abbrev pub tokens : List Piece → List Piece
tokens [] = []
tokens (p ∷ ps) = if is_between p then tokens ps else p ∷ tokens ps

abbrev pub in_pair : List Piece → List Piece
in_pair ps = punctuator mark.LeftParen ∷ ps ++ punctuator mark.RightParen ∷ []

abbrev pub in_braces : List Piece → List Piece
in_braces ps = punctuator mark.LeftBrace ∷ ps ++ punctuator mark.RightBrace ∷ []

-- The second list has the tokens of the first one, ...
pub data AsWritten : List Piece → List Piece → Type 0 where
  same : (ps qs : List Piece) → tokens ps ≡ tokens qs → AsWritten ps qs
  join : (ps qs rs ss : List Piece) → AsWritten ps qs → AsWritten rs ss → AsWritten (ps ++ rs) (qs ++ ss)
  after : (ps qs rs : List Piece) → AsWritten ps qs → AsWritten qs rs → AsWritten ps rs
  -- without a pair of parentheses, or what may be one round the one parameter of an arrow
  pair : (ps : List Piece) → AsWritten (in_pair ps) ps
  lone : (a : List ℕ) → AsWritten (in_pair (name a ∷ may_comma ∷ [])) (parameter a ∷ [])
  -- without the braces of a block
  block : (ps : List Piece) → AsWritten (in_braces ps) ps
  -- with the key of a property that was a name alone: in an object literal `__proto__` is computed
  keyed : (a : List ℕ) → AsWritten (name a ∷ []) (name a ∷ punctuator mark.Colon ∷ name a ∷ [])
  computed : (i : Ident) → AsWritten (name i.sym ∷ []) (pieces (computed_key i) ++ punctuator mark.Colon ∷ name i.sym ∷ [])
  -- with the name under which something is imported or exported
  again : (p : Piece) → AsWritten (p ∷ []) (p ∷ word (codes "as") ∷ p ∷ [])
  -- with a declaration and an export list in place of the declaration exported
  listed : (ps : List Piece) (names : List Ident) → AsWritten (word (codes "export") ∷ ps) (ps ++ pieces (export_list names))

-- ... and without what does nothing: items of a sequence before its last, one in another taken apart, and empty members of classes
pub data WithoutIdle : List Piece → List Piece → Type 0 where
  written : (ps qs : List Piece) → AsWritten ps qs → WithoutIdle ps qs
  join : (ps qs rs ss : List Piece) → WithoutIdle ps qs → WithoutIdle rs ss → WithoutIdle (ps ++ rs) (qs ++ ss)
  after : (ps qs rs : List Piece) → WithoutIdle ps qs → WithoutIdle qs rs → WithoutIdle ps rs
  items : (es : List Node) → WithoutIdle (with_commas (map pieces es)) (with_commas (map pieces (settled (flat_map parts es))))
  members : (ms : List Node) → WithoutIdle (lines (map pieces ms)) (lines (map pieces (filter is_member ms)))

-- Both lists have, with all written out, the same tokens but for names that are bound; the first one becomes so as is said.
pub record SameAsWritten (Becomes : List Piece → List Piece → Type 0) (names : List Ident) (ps qs : List Piece) : Type 0 where
  pub first : List Piece
  pub second : List Piece
  pub of_first : Becomes ps first
  pub of_second : AsWritten qs second
  pub but_bound : SameButBound names first second

-- What comes out has the tokens of what went in, but for names that are bound, pairs of parentheses, blocks, what is written out, and what does
-- nothing; of that nothing is lost where stripping takes off pairs alone.
pub record HasTokensOf (source answer : Node) : Type 0 where
  pub without_idle : SameAsWritten WithoutIdle (declared_names source) (pieces source) (pieces answer)
  pub all : LosesPairsAlone source → SameAsWritten AsWritten (declared_names source) (pieces source) (pieces answer)
