-- The tokens that a tree is written with, a fold of it by its layouts.
use Rattle.std.specs.Prelude.{ℕ, ◌+◌, ◌==◌, Bool, true, false, not, ◌&&◌, ◌||◌, List, [], ◌∷◌, ◌++◌, map, length, slice_get, Option, Some, None, if◌then◌else◌}
use Rattle.swc_tree_marks.specs.declared.span.Span.{Span}
use Rattle.swc_tree_node.specs.declared.kind.Kind.TheVariants as kind
use Rattle.swc_tree_node.specs.declared.node.Node.{Node, out-Node, roll-Node, fold-Node, map-Node}
use Rattle.swc_tree_node.specs.declared.node.Node.TheOpen.{Node-F}
use Rattle.text_lexer.specs.declared.mark.Mark.TheVariants as mark
use Rattle.text_pieces.specs.declared.item.Form.{Form}
use Rattle.text_pieces.specs.declared.item.Item.{Item}
use Rattle.text_pieces.specs.declared.item.Item.TheVariants as item
use Rattle.text_pieces.specs.declared.piece.Gap.TheVariants as line
use Rattle.text_lexer.specs.declared.token.TemplatePart.{TemplatePart}
use Rattle.text_lexer.specs.declared.token.TemplatePart.TheVariants as part
use Rattle.text_pieces.specs.declared.item.Many.{Many}
use Rattle.text_pieces.specs.declared.item.Many.TheVariants as many
use Rattle.text_pieces.specs.Forms.{form_pieces, piece_of_word, when, word_piece}
use Rattle.text_pieces.specs.Layouts.{apart_layout_of, layout_of}
use Rattle.text_pieces.specs.Frames.{first_span, framed_name, framing, framing_text, in_frames, span_at}
use Rattle.text_pieces.specs.Leaves.{is_declaration_at, is_expression_at, is_lone_at, is_named, is_set_at, items_of, lone_name, lone_span, text_at}
use Rattle.text_pieces.specs.Tokens.{Piece, closes, ends, gap, here, may_comma, name, never, parameter, punctuator, quoted, regex, template as template_text}

-- a node with what it is written with, and with that without its frames, and where its parent writes something of it; of a
-- list, the items and what each is written with
pub record Written : Type 0 where
  pub whole : Node
  pub pieces : List Piece
  pub within : List Piece
  pub apart : List Piece
  pub each : Option (List Node × List (List Piece))

-- each in a line
abbrev pub lines : List (List Piece) → List Piece
lines [] = []
lines (ps ∷ pss) = gap line.Line ∷ ps ++ lines pss

abbrev pub behind_commas : List (List Piece) → List Piece
behind_commas [] = []
behind_commas (ps ∷ pss) = punctuator mark.Comma ∷ ps ++ behind_commas pss

abbrev pub with_commas : List (List Piece) → List Piece
with_commas [] = []
with_commas (ps ∷ pss) = ps ++ behind_commas pss

-- Names of an import or export, from the first on that a brace has to stand before in braces: `some` says that others stand
-- before them, `inside` that a brace has been opened.
abbrev pub specified : Bool → Bool → List Node → List (List Piece) → List Piece
specified some inside (t ∷ ts) (ps ∷ pss) =
    when some (punctuator mark.Comma) ++ when (is_named (out-Node t) && not inside) (punctuator mark.LeftBrace)
    ++ ps ++ specified true (inside || is_named (out-Node t)) ts pss
specified some inside _ _ = when inside may_comma ++ when inside (punctuator mark.RightBrace)

abbrev pub text_of_template : TemplatePart → Option (List ℕ) → Option (List ℕ) → Piece
text_of_template p cooked (Some raw) = template_text p cooked raw
text_of_template p cooked None = never

abbrev pub template_piece : TemplatePart → Node-F Node → Piece
template_piece p (Node-F.Tree kind.TplElement ts) = text_of_template p (text_at ts 2) (text_at ts 3)
template_piece p _ = never

-- which part of a template a text is that another part follows, or none; `some` says that one stands before it
abbrev pub opening_part : Bool → TemplatePart
opening_part some = if some then part.Middle else part.Head

abbrev pub closing_part : Bool → TemplatePart
closing_part some = if some then part.Tail else part.Whole

abbrev pub text_in_frame : Bool → TemplatePart → Node-F Node → List Piece
text_in_frame framed p x = framing_text framed p (first_span x) (template_piece p x ∷ [])

abbrev pub template_from : Bool → Bool → List Node → List (List Piece) → List Piece
template_from framed some (t ∷ ts) (ps ∷ pss) = text_in_frame framed (opening_part some) (out-Node t) ++ ps ++ template_from framed true ts pss
template_from framed some (t ∷ ts) [] = text_in_frame framed (closing_part some) (out-Node t)
template_from framed some [] pss = never ∷ []

-- there is one text more than there are parts between them
abbrev pub template_pieces : Bool → List Node → List (List Piece) → List Piece
template_pieces framed ts pss = if length ts == length pss + 1 then template_from framed false ts pss else never ∷ []

-- the items of a list; `texts` are those of a template
abbrev pub many_pieces : Bool → Many → List Node → List Node → List (List Piece) → List Piece
many_pieces framed many.List texts ts pss = with_commas pss
many_pieces framed many.Specifiers texts ts pss = specified false false ts pss
many_pieces framed many.Template texts ts pss = template_pieces framed texts pss

abbrev pub items_pieces : Bool → Many → List Node → Option (List Node × List (List Piece)) → List Piece
items_pieces framed m texts (Some each) = many_pieces framed m texts each.0 each.1
items_pieces framed m texts None = []

abbrev pub each_in : Option Written → Option (List Node × List (List Piece))
each_in (Some w) = w.each
each_in None = None

abbrev pub pieces_in : Option Written → List Piece
pieces_in (Some w) = w.pieces
pieces_in None = []

abbrev pub within_in : Option Written → List Piece
within_in (Some w) = w.within
within_in None = []

abbrev pub apart_in : Option Written → List Piece
apart_in (Some w) = w.apart
apart_in None = []

abbrev pub items_at : List Node → ℕ → List Node
items_at ts n = items_in (slice_get ts n)
  where
    items_in : Option Node → List Node
    items_in (Some t) = items_of (out-Node t)
    items_in None = []

abbrev pub form_in : Form → Option Node → List Piece
form_in f (Some t) = form_pieces f t
form_in f None = []

abbrev pub quoted_piece : Option (List ℕ) → Option (List ℕ) → List Piece
quoted_piece (Some value) raw = quoted value raw ∷ []
quoted_piece None raw = never ∷ []

abbrev pub regex_piece : Option (List ℕ) → Option (List ℕ) → List Piece
regex_piece (Some pattern) (Some flags) = regex pattern flags ∷ []
regex_piece _ _ = never ∷ []

abbrev pub quoted_at : List Node → ℕ → ℕ → List Piece
quoted_at ts n m = quoted_piece (text_at ts n) (text_at ts m)

abbrev pub regex_at : List Node → ℕ → ℕ → List Piece
regex_at ts n m = regex_piece (text_at ts n) (text_at ts m)

abbrev pub others_at : Bool → List Node → List Written → ℕ → List Piece
others_at framed ts es n = if is_lone_at ts n then [] else items_pieces framed many.List [] (each_in (slice_get es n))

abbrev pub lone_piece : Bool → Option Span → Option (List ℕ) → List Piece
lone_piece framed s (Some a) = framed_name framed s a ++ parameter a ∷ []
lone_piece framed s None = []

abbrev pub lone_in : Bool → Option Node → List Piece
lone_in framed (Some t) = lone_piece framed (lone_span (out-Node t)) (lone_name (out-Node t))
lone_in framed None = []

abbrev pub dots_at : Bool → List Node → ℕ → List Piece
dots_at framed ts n = if is_set_at ts n then framing framed (span_at ts n) (punctuator mark.Dots ∷ []) else []

-- as its parent has it apart, or as it is
abbrev pub chosen : Bool → Option Written → List Piece
chosen apart w = if apart then apart_in w else pieces_in w

-- what an item of a layout stands for, by a node's fields and by what they are written with
abbrev pub item_pieces : Bool → List Node → List Written → Item → List Piece
item_pieces framed ts es (item.Sign m) = punctuator m ∷ []
item_pieces framed ts es (item.Word k) = word_piece k ∷ []
item_pieces framed ts es (item.Part n) = pieces_in (slice_get es n)
item_pieces framed ts es (item.Within n) = within_in (slice_get es n)
item_pieces framed ts es (item.At n m) = framing framed (span_at ts n) (pieces_in (slice_get es m))
item_pieces framed ts es (item.Dots n) = dots_at framed ts n
item_pieces framed ts es (item.Lone n) = lone_in framed (slice_get ts n)
item_pieces framed ts es (item.Head n) = chosen (is_declaration_at ts n) (slice_get es n)
item_pieces framed ts es (item.Body n) = chosen (is_expression_at ts n) (slice_get es n)
item_pieces framed ts es (item.Apart n m) = chosen (is_set_at ts n) (slice_get es m)
item_pieces framed ts es (item.If n m) = if is_set_at ts n then pieces_in (slice_get es m) else []
item_pieces framed ts es (item.Unless n m) = if not (is_set_at ts n) then pieces_in (slice_get es m) else []
item_pieces framed ts es (item.List n) = items_pieces framed many.List [] (each_in (slice_get es n))
item_pieces framed ts es (item.Others n) = others_at framed ts es n
item_pieces framed ts es (item.Specifiers n) = items_pieces framed many.Specifiers [] (each_in (slice_get es n))
item_pieces framed ts es (item.Template n m) = items_pieces framed many.Template (items_at ts n) (each_in (slice_get es m))
item_pieces framed ts es (item.Quoted n m) = quoted_at ts n m
item_pieces framed ts es (item.Regex n m) = regex_at ts n m
item_pieces framed ts es (item.Of n f) = form_in f (slice_get ts n)
item_pieces framed ts es item.Here = here ∷ []
item_pieces framed ts es item.In = gap line.In ∷ []
item_pieces framed ts es item.Out = gap line.Out ∷ []
item_pieces framed ts es (item.Closes e) = closes e ∷ []
item_pieces framed ts es item.End = ends ∷ []
item_pieces framed ts es item.Never = never ∷ []

abbrev pub layout_pieces : Bool → List Node → List Written → List Item → List Piece
layout_pieces framed ts es [] = []
layout_pieces framed ts es (i ∷ is) = item_pieces framed ts es i ++ layout_pieces framed ts es is

abbrev pub wholes : List Written → List Node
wholes es = map (λ e. e.whole) es

abbrev pub within_by : Bool → Node-F Written → List Piece
within_by framed (Node-F.Tree k es) = layout_pieces framed (wholes es) es (layout_of k)
within_by framed _ = []

abbrev pub pieces_by : Bool → Node-F Written → List Piece
pieces_by framed (Node-F.List es) = lines (map (λ e. e.pieces) es)
pieces_by framed (Node-F.Tree k es) = in_frames framed k (wholes es) (layout_pieces framed (wholes es) es (layout_of k))
pieces_by framed (Node-F.Identifier k i) = framing framed (Some i.span) (name i.sym ∷ [])
pieces_by framed (Node-F.Word w) = piece_of_word w ∷ []
pieces_by framed _ = []

abbrev pub apart_by : Bool → Node-F Written → List Piece
apart_by framed (Node-F.Tree k es) = in_frames framed k (wholes es) (layout_pieces framed (wholes es) es (apart_layout_of k))
apart_by framed _ = []

abbrev pub each_by : Node-F Written → Option (List Node × List (List Piece))
each_by (Node-F.List es) = Some (wholes es, map (λ e. e.pieces) es)
each_by _ = None

abbrev pub written_step : Bool → Node-F Written → Written
written_step framed x = record { whole = roll-Node (map-Node Written Node (λ e. e.whole) x); pieces = pieces_by framed x; within = within_by framed x; apart = apart_by framed x; each = each_by x }

abbrev pub written : Bool → Node → Written
written framed = fold-Node Written (written_step framed)

abbrev pub written_with : Bool → Node → List Piece
written_with framed t = (written framed t).pieces

-- the tokens that a tree is written with
abbrev pub pieces : Node → List Piece
pieces t = written_with false t

-- the same, with each node in the frame of its span
abbrev pub framed_pieces : Node → List Piece
framed_pieces t = written_with true t
