-- What is written of a field by its form alone.
use Rattle.std.specs.Prelude.{ℕ, Bool, true, false, not, ◌&&◌, ◌||◌, List, [], ◌∷◌, ◌++◌, codes, Option, Some, None, is_some, if◌then◌else◌, nat_eq}
use Rattle.std.specs.Cmp.Lexicographic.{pointwise}
use Rattle.swc_tree_node.specs.declared.kind.Kind.TheVariants as kind
use Rattle.swc_tree_node.specs.declared.kind.Word.{Word}
use Rattle.swc_tree_node.specs.declared.kind.Word.TheVariants as word_of
use Rattle.swc_tree_node.specs.declared.node.Node.{Node, out-Node}
use Rattle.swc_tree_node.specs.declared.node.Node.TheOpen.{Node-F}
use Rattle.swc_tree_node.specs.Parts.{text_of}
use Rattle.swc_tree_node.specs.Table.{spelling_of}
use Rattle.text_lexer.specs.declared.mark.Mark.TheVariants as mark
use Rattle.text_pieces.specs.declared.item.Ending.{Ending}
use Rattle.text_pieces.specs.declared.item.Ending.TheVariants as ending
use Rattle.text_pieces.specs.declared.item.Form.{Form}
use Rattle.text_pieces.specs.declared.item.Form.TheVariants as form
use Rattle.text_pieces.specs.declared.keyword.Keyword.{Keyword}
use Rattle.text_pieces.specs.Keywords.{keyword_text}
use Rattle.text_pieces.specs.Leaves.{ends_with_hole, has_items, is_block, is_computed, is_default_alone, is_empty_list, is_let, is_set, is_set_in, items_of, lone_name, may_comma as takes_comma, text_at}
use Rattle.text_pieces.specs.Signs.{sign_of}
use Rattle.text_pieces.specs.Tokens as token
use Rattle.text_pieces.specs.Tokens.{Piece, sign_piece}

abbrev pub word_piece : Keyword → Piece
word_piece k = token.word (keyword_text k)

-- a word of a node is a punctuator or a word of the language
abbrev pub piece_of_word : Word → Piece
piece_of_word w = sign_piece (sign_of w) (spelling_of w)

abbrev pub accessor : Node-F Node → List Piece
accessor (Node-F.Word word_of.Getter) = token.word (codes "get") ∷ []
accessor (Node-F.Word word_of.Setter) = token.word (codes "set") ∷ []
accessor _ = []

abbrev pub meta : Node-F Node → List Piece
meta (Node-F.Word word_of.NewTarget) = token.word (codes "new") ∷ token.punctuator mark.Dot ∷ token.word (codes "target") ∷ []
meta (Node-F.Word word_of.ImportMeta) = token.word (codes "import") ∷ token.punctuator mark.Dot ∷ token.word (codes "meta") ∷ []
meta _ = []

-- `import {} from "a"` and `import a, {} from "a"` are `import "a"` and `import a from "a"`
abbrev pub bare : Node-F Node → List Piece
bare x = if is_empty_list x then token.may_from ∷ [] else if is_default_alone x then token.may_braces ∷ [] else []

abbrev pub braces : Node-F Node → List Piece
braces x = if is_empty_list x then token.punctuator mark.LeftBrace ∷ token.punctuator mark.RightBrace ∷ [] else []

abbrev pub asynchronous : Node-F Node → List Piece
asynchronous x = if is_set_in 4 x then token.word (codes "async") ∷ token.here ∷ [] else []

-- how a field of a class that has this key and no value ends
abbrev pub key_ending : List ℕ → Ending
key_ending a =
    if pointwise nat_eq a (codes "get") || pointwise nat_eq a (codes "set") then ending.Accessor
    else if pointwise nat_eq a (codes "static") then ending.Any
    else ending.Field

abbrev pub ending_by : Option (List ℕ) → Ending
ending_by (Some a) = key_ending a
ending_by None = ending.Field

abbrev pub ending_of_key : Node-F Node → Ending
ending_of_key (Node-F.Tree kind.IdentName ts) = ending_by (text_at ts 1)
ending_of_key _ = ending.Field

abbrev pub ending_of_attributes : Node-F Node → Ending
ending_of_attributes Node-F.Absent = ending.From
ending_of_attributes _ = ending.Closed

abbrev pub attribute_of : Option (List ℕ) → Option (List ℕ) → Piece
attribute_of (Some key) (Some value) = token.attribute key value
attribute_of _ _ = token.never

abbrev pub attribute : Node-F Node → Piece
attribute x = attribute_of (text_at (items_of x) 0) (text_at (items_of x) 1)

abbrev pub when : Bool → Piece → List Piece
when b p = if b then p ∷ [] else []

-- pairs with commas between them; `some` says that others stand before them
abbrev pub pairs : Bool → List Node → List Piece
pairs some [] = when some token.may_comma
pairs some (t ∷ ts) = when some (token.punctuator mark.Comma) ++ attribute (out-Node t) ∷ pairs true ts

abbrev pub attributes : Node-F Node → List Piece
attributes (Node-F.List ts) = token.word (codes "with") ∷ token.punctuator mark.LeftBrace ∷ pairs false ts ++ token.punctuator mark.RightBrace ∷ []
attributes _ = []

abbrev pub text_piece : Form → List ℕ → Piece
text_piece form.Name a = token.name a
text_piece form.Number a = token.number a
text_piece form.BigInt a = token.big_integer a
text_piece form.Private a = token.private_name a
text_piece _ a = token.hashbang a

abbrev pub text_pieces_of : Form → Option (List ℕ) → List Piece
text_pieces_of f (Some a) = text_piece f a ∷ []
text_pieces_of f None = []

abbrev pub text_pieces : Form → Node → List Piece
text_pieces f t = text_pieces_of f (text_of t)

-- what is written of a node by a form
abbrev pub form_pieces : Form → Node → List Piece
form_pieces (form.SignIf m) t = when (is_set (out-Node t)) (token.punctuator m)
form_pieces (form.SignUnlessLone m) t = when (not (is_some (lone_name (out-Node t)))) (token.punctuator m)
form_pieces (form.WordIf k) t = when (is_set (out-Node t)) (word_piece k)
form_pieces (form.WordUnless k) t = when (not (is_set (out-Node t))) (word_piece k)
form_pieces (form.WordIfAny k) t = when (has_items (out-Node t)) (word_piece k)
form_pieces form.HereIf t = when (is_set (out-Node t)) token.here
form_pieces form.HereUnless t = when (not (is_set (out-Node t))) token.here
form_pieces (form.EndingUnless e) t = when (not (is_set (out-Node t))) (token.closes e)
form_pieces form.Comma t = when (takes_comma (out-Node t)) token.may_comma
form_pieces form.CommaUnlessLone t = when (takes_comma (out-Node t) && not (is_some (lone_name (out-Node t)))) token.may_comma
form_pieces form.Hole t = when (ends_with_hole (out-Node t)) (token.punctuator mark.Comma)
form_pieces form.Dot t = when (not (is_computed (out-Node t))) (token.punctuator mark.Dot)
form_pieces form.Accessor t = accessor (out-Node t)
form_pieces form.Async t = asynchronous (out-Node t)
form_pieces form.Star t = when (is_set_in 3 (out-Node t)) (token.punctuator mark.Mul)
form_pieces form.Meta t = meta (out-Node t)
form_pieces form.Attributes t = attributes (out-Node t)
form_pieces form.Bare t = bare (out-Node t)
form_pieces form.Braces t = braces (out-Node t)
form_pieces form.BlockEnding t = when (is_block (out-Node t)) (token.closes ending.Closed)
form_pieces form.KeyEnding t = token.closes (ending_of_key (out-Node t)) ∷ []
form_pieces form.LetEnding t = when (is_let (out-Node t)) (token.closes ending.Let)
form_pieces form.FromEnding t = token.closes (ending_of_attributes (out-Node t)) ∷ []
form_pieces f t = text_pieces f t
