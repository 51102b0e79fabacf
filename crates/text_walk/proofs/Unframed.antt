-- Pieces without their frames: what is written by a form has none.
use Rattle.std.proofs.Common.{◌≡◌, true, false, Bool, ℕ, ◌+◌, Some, None, Option, List, [], ◌∷◌, ◌++◌, refl, ap, ◌∙◌, append-nil}
use Rattle.std.specs.Prelude.{codes, if◌then◌else◌, not, ◌&&◌, is_some}
use Rattle.swc_tree_marks.specs.declared.span.Span.{Span}
use Rattle.swc_tree_node.specs.declared.kind.Kind.{Kind}
use Rattle.swc_tree_node.specs.declared.kind.Kind.TheVariants as kind
use Rattle.swc_tree_node.specs.declared.kind.Word.TheVariants as word_of
use Rattle.swc_tree_node.specs.declared.node.Node.{Node, out-Node}
use Rattle.swc_tree_node.specs.declared.node.Node.TheOpen.{Node-F}
use Rattle.swc_tree_node.specs.Parts.{text_of}
use Rattle.text_lexer.specs.declared.mark.Mark.{Mark}
use Rattle.text_lexer.specs.declared.mark.Mark.TheVariants as mark
use Rattle.text_lexer.specs.declared.token.TemplatePart.{TemplatePart}
use Rattle.text_pieces.specs.declared.item.Ending.TheVariants as ending
use Rattle.text_pieces.specs.declared.item.Form.{Form}
use Rattle.text_pieces.specs.declared.item.Form.TheVariants as form
use Rattle.text_pieces.specs.Forms.{accessor, attribute, attribute_of, attributes, form_pieces, meta, pairs, text_piece, text_pieces_of, when, word_piece}
use Rattle.text_pieces.specs.Frames.{behind_text, first_span, framed_name, framing, framing_text, in_frames, inner_span, is_frame, own_span, without_frames}
use Rattle.text_pieces.specs.Leaves.{ends_with_hole, has_items, is_block, is_computed, is_default_alone, is_empty_list, is_let, is_set, is_set_in, items_of, lone_name, may_comma as takes_comma, text_at}
use Rattle.text_pieces.specs.Pieces.{template_piece, text_in_frame, text_of_template}
use Rattle.text_pieces.specs.Tokens.{Piece, closes, frame, here, may_braces, may_comma, may_from, parameter, punctuator, sign_piece, stops, word}

split : (b : Bool) (p : Piece) (ps qs : List Piece) → (if b then ps ++ qs else p ∷ ps ++ qs) ≡ (if b then ps else p ∷ ps) ++ qs
split true p ps qs = refl
split false p ps qs = refl

pub appended : (ps qs : List Piece) → without_frames (ps ++ qs) ≡ without_frames ps ++ without_frames qs
appended [] qs = refl
appended (p ∷ ps) qs = ap (λ l. if is_frame p then l else p ∷ l) (appended ps qs) ∙ split (is_frame p) p (without_frames ps) (without_frames qs)

-- a list without frames
abbrev pub IsBare : List Piece → Type 0
IsBare ps = without_frames ps ≡ ps

pub both_bare : (ps qs : List Piece) → IsBare ps → IsBare qs → IsBare (ps ++ qs)
both_bare ps qs e f = appended ps qs ∙ ap (λ l. l ++ without_frames qs) e ∙ ap (λ l. ps ++ l) f

pub one_bare : (p : Piece) (ps : List Piece) → is_frame p ≡ false → IsBare ps → IsBare (p ∷ ps)
one_bare p ps e f = ap (λ b. if b then without_frames ps else p ∷ without_frames ps) e ∙ ap (λ l. p ∷ l) f

pub when_bare : (b : Bool) (p : Piece) → is_frame p ≡ false → IsBare (when b p)
when_bare true p e = one_bare p [] e refl
when_bare false p e = refl

pub frame_off : (s : Option Span) (ps : List Piece) → without_frames (framing true s ps) ≡ without_frames ps
frame_off None ps = ap without_frames (append-nil ps)
frame_off (Some s) ps = appended ps (frame (stops s.hi) ∷ []) ∙ append-nil (without_frames ps)

pub frames_off : (k : Kind) (ts : List Node) (ps : List Piece) → without_frames (in_frames true k ts ps) ≡ without_frames ps
frames_off k ts ps = frame_off (own_span k ts) (framing true (inner_span k ts) ps) ∙ frame_off (inner_span k ts) ps

text_frame_off : (p : TemplatePart) (s : Option Span) (ps : List Piece) → without_frames (framing_text true p s ps) ≡ without_frames ps
text_frame_off p None ps = ap without_frames (append-nil ps)
text_frame_off p (Some s) ps = appended ps (frame (stops (s.hi + behind_text p)) ∷ []) ∙ append-nil (without_frames ps)

text_token : (p : TemplatePart) (cooked raw : Option (List ℕ)) → is_frame (text_of_template p cooked raw) ≡ false
text_token p cooked (Some raw) = refl
text_token p cooked None = refl

template_token : (p : TemplatePart) (x : Node-F Node) → is_frame (template_piece p x) ≡ false
template_token p (Node-F.Tree kind.TplElement ts) = text_token p (text_at ts 2) (text_at ts 3)
template_token p x = refl

pub text_off : (p : TemplatePart) (x : Node-F Node) → without_frames (text_in_frame true p x) ≡ text_in_frame false p x
text_off p x = text_frame_off p (first_span x) (template_piece p x ∷ []) ∙ one_bare (template_piece p x) [] (template_token p x) refl

pub name_off : (s : Option Span) (a : List ℕ) → without_frames (framed_name true s a ++ parameter a ∷ []) ≡ parameter a ∷ []
name_off None a = refl
name_off (Some s) a = refl

accessor_bare : (x : Node-F Node) → IsBare (accessor x)
accessor_bare (Node-F.Word word_of.Getter) = refl
accessor_bare (Node-F.Word word_of.Setter) = refl
accessor_bare x = refl

meta_bare : (x : Node-F Node) → IsBare (meta x)
meta_bare (Node-F.Word word_of.NewTarget) = refl
meta_bare (Node-F.Word word_of.ImportMeta) = refl
meta_bare x = refl

async_bare : (b : Bool) → IsBare (if b then word (codes "async") ∷ here ∷ [] else [])
async_bare true = refl
async_bare false = refl

braces_bare : (b : Bool) → IsBare (if b then punctuator mark.LeftBrace ∷ punctuator mark.RightBrace ∷ [] else [])
braces_bare true = refl
braces_bare false = refl

bare_bare : (b c : Bool) → IsBare (if b then may_from ∷ [] else if c then may_braces ∷ [] else [])
bare_bare true c = refl
bare_bare false true = refl
bare_bare false false = refl

attribute_token_of : (key value : Option (List ℕ)) → is_frame (attribute_of key value) ≡ false
attribute_token_of (Some key) (Some value) = refl
attribute_token_of (Some key) None = refl
attribute_token_of None value = refl

attribute_token : (x : Node-F Node) → is_frame (attribute x) ≡ false
attribute_token x = attribute_token_of (text_at (items_of x) 0) (text_at (items_of x) 1)

pairs_bare : (some : Bool) (ts : List Node) → IsBare (pairs some ts)
pairs_bare some [] = when_bare some may_comma refl
pairs_bare some (t ∷ ts) =
    both_bare (when some (punctuator mark.Comma)) (attribute (out-Node t) ∷ pairs true ts) (when_bare some (punctuator mark.Comma) refl)
    (one_bare (attribute (out-Node t)) (pairs true ts) (attribute_token (out-Node t)) (pairs_bare true ts))

attributes_bare : (x : Node-F Node) → IsBare (attributes x)
attributes_bare (Node-F.List ts) =
    ap (λ l. word (codes "with") ∷ punctuator mark.LeftBrace ∷ l) (both_bare (pairs false ts) (punctuator mark.RightBrace ∷ []) (pairs_bare false ts) refl)
attributes_bare x = refl

text_bare : (f : Form) (a : Option (List ℕ)) → ((a : List ℕ) → is_frame (text_piece f a) ≡ false) → IsBare (text_pieces_of f a)
text_bare f (Some a) e = one_bare (text_piece f a) [] (e a) refl
text_bare f None e = refl

pub sign_token : (m : Option Mark) (a : List ℕ) → is_frame (sign_piece m a) ≡ false
sign_token (Some m) a = refl
sign_token None a = refl

-- what is written of a node by a form has no frames
pub form_bare : (f : Form) (t : Node) → IsBare (form_pieces f t)
form_bare (form.SignIf m) t = when_bare (is_set (out-Node t)) (punctuator m) refl
form_bare (form.SignUnlessLone m) t = when_bare (not (is_some (lone_name (out-Node t)))) (punctuator m) refl
form_bare (form.WordIf k) t = when_bare (is_set (out-Node t)) (word_piece k) refl
form_bare (form.WordUnless k) t = when_bare (not (is_set (out-Node t))) (word_piece k) refl
form_bare (form.WordIfAny k) t = when_bare (has_items (out-Node t)) (word_piece k) refl
form_bare form.HereIf t = when_bare (is_set (out-Node t)) here refl
form_bare form.HereUnless t = when_bare (not (is_set (out-Node t))) here refl
form_bare (form.EndingUnless e) t = when_bare (not (is_set (out-Node t))) (closes e) refl
form_bare form.Comma t = when_bare (takes_comma (out-Node t)) may_comma refl
form_bare form.CommaUnlessLone t = when_bare (takes_comma (out-Node t) && not (is_some (lone_name (out-Node t)))) may_comma refl
form_bare form.Hole t = when_bare (ends_with_hole (out-Node t)) (punctuator mark.Comma) refl
form_bare form.Dot t = when_bare (not (is_computed (out-Node t))) (punctuator mark.Dot) refl
form_bare form.Accessor t = accessor_bare (out-Node t)
form_bare form.Async t = async_bare (is_set_in 4 (out-Node t))
form_bare form.Star t = when_bare (is_set_in 3 (out-Node t)) (punctuator mark.Mul) refl
form_bare form.Meta t = meta_bare (out-Node t)
form_bare form.Attributes t = attributes_bare (out-Node t)
form_bare form.Bare t = bare_bare (is_empty_list (out-Node t)) (is_default_alone (out-Node t))
form_bare form.Braces t = braces_bare (is_empty_list (out-Node t))
form_bare form.BlockEnding t = when_bare (is_block (out-Node t)) (closes ending.Closed) refl
form_bare form.KeyEnding t = refl
form_bare form.LetEnding t = when_bare (is_let (out-Node t)) (closes ending.Let) refl
form_bare form.FromEnding t = refl
form_bare form.Name t = text_bare form.Name (text_of t) (λ a. refl)
form_bare form.Number t = text_bare form.Number (text_of t) (λ a. refl)
form_bare form.BigInt t = text_bare form.BigInt (text_of t) (λ a. refl)
form_bare form.Private t = text_bare form.Private (text_of t) (λ a. refl)
form_bare form.Hashbang t = text_bare form.Hashbang (text_of t) (λ a. refl)
