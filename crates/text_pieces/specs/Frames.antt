-- Where nodes begin and stop: most have a span, from their first token to their last.
use Rattle.std.specs.Prelude.{ℕ, ◌+◌, ◌-◌, Bool, true, false, List, [], ◌∷◌, ◌++◌, slice_get, Option, Some, None, if◌then◌else◌}
use Rattle.swc_tree_marks.specs.declared.span.Span.{Span}
use Rattle.swc_tree_node.specs.declared.kind.Kind.{Kind}
use Rattle.swc_tree_node.specs.declared.kind.Kind.TheVariants as kind
use Rattle.swc_tree_node.specs.declared.node.Node.{Node, out-Node}
use Rattle.swc_tree_node.specs.declared.node.Node.TheOpen.{Node-F}
use Rattle.swc_tree_node.specs.Parts.{span_of}
use Rattle.text_lexer.specs.declared.token.TemplatePart.{TemplatePart}
use Rattle.text_lexer.specs.declared.token.TemplatePart.TheVariants as part
use Rattle.text_pieces.specs.Tokens.{Frame, Piece, begins, frame, named, stops}

abbrev pub begun : Option Span → List Piece
begun (Some s) = frame (begins s.lo) ∷ []
begun None = []

abbrev pub stopped : Option Span → List Piece
stopped (Some s) = frame (stops s.hi) ∷ []
stopped None = []

-- what a span goes round, in its frame if that is asked
abbrev pub framing : Bool → Option Span → List Piece → List Piece
framing framed s ps = if framed then begun s ++ ps ++ stopped s else ps

abbrev pub span_in : Option Node → Option Span
span_in (Some t) = span_of t
span_in None = None

-- the span that a field is
abbrev pub span_at : List Node → ℕ → Option Span
span_at ts n = span_in (slice_get ts n)

-- A program has the whole text, and what is exported of all others' names stands at its name; the span of dots is theirs.
abbrev pub is_elsewhere : Kind → Bool
is_elsewhere kind.Module = true
is_elsewhere kind.Script = true
is_elsewhere kind.ExportNamespaceSpecifier = true
is_elsewhere kind.ExprOrSpread = true
is_elsewhere kind.SpreadElement = true
is_elsewhere _ = false

-- these hold a function, a class or a block that has the span of the whole
abbrev pub is_outer : Kind → Bool
is_outer kind.FnDecl = true
is_outer kind.FnExpr = true
is_outer kind.ClassDecl = true
is_outer kind.ClassExpr = true
is_outer kind.StaticBlock = true
is_outer _ = false

abbrev pub own_span : Kind → List Node → Option Span
own_span k ts = if is_elsewhere k then None else span_at ts 0

abbrev pub first_span : Node-F Node → Option Span
first_span (Node-F.Tree k ts) = span_at ts 0
first_span _ = None

abbrev pub first_span_in : Option Node → Option Span
first_span_in (Some t) = first_span (out-Node t)
first_span_in None = None

abbrev pub inner_span : Kind → List Node → Option Span
inner_span k ts = if is_outer k then first_span_in (slice_get ts 1) else None

-- what a node of a kind with these fields is written with, in its frames
abbrev pub in_frames : Bool → Kind → List Node → List Piece → List Piece
in_frames framed k ts ps = framing framed (own_span k ts) (framing framed (inner_span k ts) ps)

-- as many bytes as stand in a template behind a text of it, up to the next token's
abbrev pub behind_text : TemplatePart → ℕ
behind_text part.Head = 2
behind_text part.Middle = 2
behind_text part.Whole = 1
behind_text part.Tail = 1

abbrev pub text_begun : Option Span → List Piece
text_begun (Some s) = frame (begins (s.lo - 1)) ∷ []
text_begun None = []

abbrev pub text_stopped : TemplatePart → Option Span → List Piece
text_stopped p (Some s) = frame (stops (s.hi + behind_text p)) ∷ []
text_stopped p None = []

-- a text of a template has its span without the quotes and braces round it
abbrev pub framing_text : Bool → TemplatePart → Option Span → List Piece → List Piece
framing_text framed p s ps = if framed then text_begun s ++ ps ++ text_stopped p s else ps

-- the same of one plain name that may stand in parentheses
abbrev pub framed_name : Bool → Option Span → List ℕ → List Piece
framed_name true (Some s) a = frame (named a s) ∷ []
framed_name _ _ a = []

abbrev pub is_frame : Piece → Bool
is_frame (frame f) = true
is_frame _ = false

-- the tokens alone
abbrev pub without_frames : List Piece → List Piece
without_frames [] = []
without_frames (p ∷ ps) = if is_frame p then without_frames ps else p ∷ without_frames ps
