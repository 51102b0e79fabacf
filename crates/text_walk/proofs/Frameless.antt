-- What a tree is written with in frames is, without these, what it is written with.
use Rattle.std.proofs.Common.{◌≡◌, true, false, Bool, ℕ, zero, suc, ◌+◌, ◌==◌, Some, None, Option, List, [], ◌∷◌, ◌++◌, map, length, refl, sym, ap, ◌∙◌, rules, subst}
use Rattle.std.proofs.lemmas.List.{length-map}
use Rattle.std.specs.Prelude.{if◌then◌else◌, slice_get, not, ◌&&◌, ◌||◌}
use Rattle.swc_tree_node.specs.declared.kind.Kind.{Kind}
use Rattle.swc_tree_node.specs.declared.node.Node.{Node, Absent, Flag, Identifier, List as Many, Span, Text, Tree, Word, out-Node, the_lemmas}
use Rattle.swc_tree_node.specs.declared.node.Node.TheOpen.{Node-F}
use Rattle.swc_tree_node.specs.Table.{spelling_of}
use Rattle.swc_tree_grammar.proofs.Induction.{Each, by_children}
use Rattle.text_lexer.specs.declared.mark.Mark.TheVariants as mark
use Rattle.text_pieces.specs.declared.item.Form.{Form}
use Rattle.text_pieces.specs.declared.item.Item.{Item}
use Rattle.text_pieces.specs.declared.item.Item.TheVariants as item
use Rattle.text_pieces.specs.declared.piece.Gap.TheVariants as line
use Rattle.text_pieces.specs.declared.item.Many.{Many as Ways}
use Rattle.text_pieces.specs.declared.item.Many.TheVariants as many
use Rattle.text_pieces.specs.Forms.{piece_of_word, when}
use Rattle.text_pieces.specs.Frames.{framing, span_at, without_frames}
use Rattle.text_pieces.specs.Layouts.{apart_layout_of, layout_of}
use Rattle.text_pieces.specs.Leaves.{is_declaration_at, is_expression_at, is_lone_at, is_named, is_set_at, lone_name, lone_span, text_at}
use Rattle.text_pieces.specs.Pieces.{Written, apart_in, behind_commas, chosen, closing_part, each_in, form_in, framed_pieces, item_pieces, items_at, items_pieces, layout_pieces, lines, lone_in, lone_piece, many_pieces, opening_part, pieces, pieces_in, quoted_piece, regex_piece, specified, template_from, template_pieces, text_in_frame, with_commas, within_in, written, written_step, written_with}
use Rattle.text_pieces.specs.Signs.{sign_of}
use Rattle.text_pieces.specs.Tokens.{Piece, gap, may_comma, never, punctuator}
use Rattle.text_walk.proofs.Unframed.{appended, both_bare, form_bare, frame_off, frames_off, name_off, one_bare, sign_token, text_off, when_bare}
use Rattle.text_walk.proofs.Walked.{each_items, list_pieces, tree_apart, tree_pieces, tree_within}
use Rattle.text_follow.specs.Follows.{Follows}
use Rattle.text_follow.specs.Stands.{Stands}
use Rattle.text_follow.proofs.Frames.{tokens_follow}
use Rattle.text_lexer.specs.declared.blank.Comments.{Comments}

abbrev bares : List (List Piece) → List (List Piece)
bares pss = map without_frames pss

lines_off : (pss : List (List Piece)) → without_frames (lines pss) ≡ lines (bares pss)
lines_off [] = refl
lines_off (ps ∷ pss) = ap (λ l. gap line.Line ∷ l) (appended ps (lines pss) ∙ ap (λ l. without_frames ps ++ l) (lines_off pss))

behind_off : (pss : List (List Piece)) → without_frames (behind_commas pss) ≡ behind_commas (bares pss)
behind_off [] = refl
behind_off (ps ∷ pss) = ap (λ l. punctuator mark.Comma ∷ l) (appended ps (behind_commas pss) ∙ ap (λ l. without_frames ps ++ l) (behind_off pss))

commas_off : (pss : List (List Piece)) → without_frames (with_commas pss) ≡ with_commas (bares pss)
commas_off [] = refl
commas_off (ps ∷ pss) = appended ps (behind_commas pss) ∙ ap (λ l. without_frames ps ++ l) (behind_off pss)

closed_off : (inside : Bool) → without_frames (when inside may_comma ++ when inside (punctuator mark.RightBrace)) ≡ when inside may_comma ++ when inside (punctuator mark.RightBrace)
closed_off true = refl
closed_off false = refl

specified_off : (some inside : Bool) (ts : List Node) (pss : List (List Piece)) → without_frames (specified some inside ts pss) ≡ specified some inside ts (bares pss)
specified_off some inside [] [] = closed_off inside
specified_off some inside [] (ps ∷ pss) = closed_off inside
specified_off some inside (t ∷ ts) [] = closed_off inside
specified_off some inside (t ∷ ts) (ps ∷ pss) =
    let comma : List Piece = when some (punctuator mark.Comma) in
    let brace : List Piece = when (is_named (out-Node t) && not inside) (punctuator mark.LeftBrace) in
    let others : List Piece = specified true (inside || is_named (out-Node t)) ts pss in
    appended (comma ++ brace ++ ps) others
    ∙ ap (λ l. l ++ without_frames others) (appended (comma ++ brace) ps
    ∙ ap (λ l. l ++ without_frames ps) (both_bare comma brace (when_bare some (punctuator mark.Comma) refl) (when_bare (is_named (out-Node t) && not inside) (punctuator mark.LeftBrace) refl)))
    ∙ ap (λ l. comma ++ brace ++ without_frames ps ++ l) (specified_off true (inside || is_named (out-Node t)) ts pss)

parts_off : (some : Bool) (ts : List Node) (pss : List (List Piece)) → without_frames (template_from true some ts pss) ≡ template_from false some ts (bares pss)
parts_off some [] pss = refl
parts_off some (t ∷ ts) [] = text_off (closing_part some) (out-Node t)
parts_off some (t ∷ ts) (ps ∷ pss) =
    let text : List Piece = text_in_frame true (opening_part some) (out-Node t) in
    let others : List Piece = template_from true true ts pss in
    appended (text ++ ps) others
    ∙ ap (λ l. l ++ without_frames others) (appended text ps ∙ ap (λ l. l ++ without_frames ps) (text_off (opening_part some) (out-Node t)))
    ∙ ap (λ l. text_in_frame false (opening_part some) (out-Node t) ++ without_frames ps ++ l) (parts_off true ts pss)

template_off : (ts : List Node) (pss : List (List Piece)) → without_frames (template_pieces true ts pss) ≡ template_pieces false ts (bares pss)
template_off ts pss =
    by (length ts == length pss + 1) ∙ ap (λ n. if length ts == n + 1 then template_from false false ts (bares pss) else never ∷ []) (sym (length-map pss without_frames))
  where
    by : (b : Bool) → without_frames (if b then template_from true false ts pss else never ∷ []) ≡ (if b then template_from false false ts (bares pss) else never ∷ [])
    by true = parts_off false ts pss
    by false = refl

many_off : (m : Ways) (texts ts : List Node) (pss : List (List Piece)) → without_frames (many_pieces true m texts ts pss) ≡ many_pieces false m texts ts (bares pss)
many_off many.List texts ts pss = commas_off pss
many_off many.Specifiers texts ts pss = specified_off false false ts pss
many_off many.Template texts ts pss = template_off texts pss

abbrev bare_each : Option (List Node × List (List Piece)) → Option (List Node × List (List Piece))
bare_each (Some x) = Some (x.0, bares x.1)
bare_each None = None

items_off : (m : Ways) (texts : List Node) (x : Option (List Node × List (List Piece))) → without_frames (items_pieces true m texts x) ≡ items_pieces false m texts (bare_each x)
items_off m texts (Some x) = many_off m texts x.0 x.1
items_off m texts None = refl

-- what a node is written with in frames, and without them
record Alike (w v : Written) : Type 0 where
  of_pieces : without_frames w.pieces ≡ v.pieces
  of_within : without_frames w.within ≡ v.within
  of_apart : without_frames w.apart ≡ v.apart
  of_each : bare_each w.each ≡ v.each

abbrev Are : Node → Type 0
Are t = Alike (written true t) (written false t)

abbrev Both : Option Written → Option Written → Type 0
Both (Some w) (Some v) = Alike w v
Both None None = Unit {0}
Both _ _ = ⊥

both_at : (ts : List Node) → Each Are ts → (n : ℕ) → Both (slice_get (map (written true) ts) n) (slice_get (map (written false) ts) n)
both_at [] h n = tt
both_at (t ∷ ts) h zero = h.0
both_at (t ∷ ts) h (suc n) = both_at ts h.1 n

part_off : (w v : Option Written) → Both w v → without_frames (pieces_in w) ≡ pieces_in v
part_off (Some w) (Some v) h = h.of_pieces
part_off None None h = refl
part_off (Some w) None h = absurd h
part_off None (Some v) h = absurd h

within_off : (w v : Option Written) → Both w v → without_frames (within_in w) ≡ within_in v
within_off (Some w) (Some v) h = h.of_within
within_off None None h = refl
within_off (Some w) None h = absurd h
within_off None (Some v) h = absurd h

apart_off : (w v : Option Written) → Both w v → without_frames (apart_in w) ≡ apart_in v
apart_off (Some w) (Some v) h = h.of_apart
apart_off None None h = refl
apart_off (Some w) None h = absurd h
apart_off None (Some v) h = absurd h

each_off : (w v : Option Written) → Both w v → bare_each (each_in w) ≡ each_in v
each_off (Some w) (Some v) h = h.of_each
each_off None None h = refl
each_off (Some w) None h = absurd h
each_off None (Some v) h = absurd h

chosen_off : (b : Bool) (w v : Option Written) → Both w v → without_frames (chosen b w) ≡ chosen b v
chosen_off true w v h = apart_off w v h
chosen_off false w v h = part_off w v h

asked_off : (b : Bool) (w v : Option Written) → Both w v → without_frames (if b then pieces_in w else []) ≡ (if b then pieces_in v else [])
asked_off true w v h = part_off w v h
asked_off false w v h = refl

all_off : (m : Ways) (texts : List Node) (w v : Option Written) → Both w v → without_frames (items_pieces true m texts (each_in w)) ≡ items_pieces false m texts (each_in v)
all_off m texts w v h = items_off m texts (each_in w) ∙ ap (items_pieces false m texts) (each_off w v h)

others_off : (b : Bool) (w v : Option Written) → Both w v
    → without_frames (if b then [] else items_pieces true many.List [] (each_in w)) ≡ (if b then [] else items_pieces false many.List [] (each_in v))
others_off true w v h = refl
others_off false w v h = all_off many.List [] w v h

dots_off : (b : Bool) (ts : List Node) (n : ℕ)
    → without_frames (if b then framing true (span_at ts n) (punctuator mark.Dots ∷ []) else []) ≡ (if b then punctuator mark.Dots ∷ [] else [])
dots_off true ts n = frame_off (span_at ts n) (punctuator mark.Dots ∷ [])
dots_off false ts n = refl

lone_off : (t : Option Node) → without_frames (lone_in true t) ≡ lone_in false t
lone_off None = refl
lone_off (Some t) = by (lone_name (out-Node t))
  where
    by : (a : Option (List ℕ)) → without_frames (lone_piece true (lone_span (out-Node t)) a) ≡ lone_piece false (lone_span (out-Node t)) a
    by (Some a) = name_off (lone_span (out-Node t)) a
    by None = refl

form_off : (f : Form) (t : Option Node) → without_frames (form_in f t) ≡ form_in f t
form_off f (Some t) = form_bare f t
form_off f None = refl

quoted_off : (value raw : Option (List ℕ)) → without_frames (quoted_piece value raw) ≡ quoted_piece value raw
quoted_off (Some value) raw = refl
quoted_off None raw = refl

regex_off : (exp flags : Option (List ℕ)) → without_frames (regex_piece exp flags) ≡ regex_piece exp flags
regex_off (Some exp) (Some flags) = refl
regex_off (Some exp) None = refl
regex_off None flags = refl

item_off : (ts : List Node) → Each Are ts → (i : Item) → without_frames (item_pieces true ts (map (written true) ts) i) ≡ item_pieces false ts (map (written false) ts) i
item_off ts h (item.Sign m) = refl
item_off ts h (item.Word k) = refl
item_off ts h (item.Part n) = part_off _ _ (both_at ts h n)
item_off ts h (item.Within n) = within_off _ _ (both_at ts h n)
item_off ts h (item.At n m) = frame_off (span_at ts n) (pieces_in (slice_get (map (written true) ts) m)) ∙ part_off _ _ (both_at ts h m)
item_off ts h (item.Dots n) = dots_off (is_set_at ts n) ts n
item_off ts h (item.Lone n) = lone_off (slice_get ts n)
item_off ts h (item.Head n) = chosen_off (is_declaration_at ts n) _ _ (both_at ts h n)
item_off ts h (item.Body n) = chosen_off (is_expression_at ts n) _ _ (both_at ts h n)
item_off ts h (item.Apart n m) = chosen_off (is_set_at ts n) _ _ (both_at ts h m)
item_off ts h (item.If n m) = asked_off (is_set_at ts n) _ _ (both_at ts h m)
item_off ts h (item.Unless n m) = asked_off (not (is_set_at ts n)) _ _ (both_at ts h m)
item_off ts h (item.List n) = all_off many.List [] _ _ (both_at ts h n)
item_off ts h (item.Others n) = others_off (is_lone_at ts n) _ _ (both_at ts h n)
item_off ts h (item.Specifiers n) = all_off many.Specifiers [] _ _ (both_at ts h n)
item_off ts h (item.Template n m) = all_off many.Template (items_at ts n) _ _ (both_at ts h m)
item_off ts h (item.Quoted n m) = quoted_off (text_at ts n) (text_at ts m)
item_off ts h (item.Regex n m) = regex_off (text_at ts n) (text_at ts m)
item_off ts h (item.Of n f) = form_off f (slice_get ts n)
item_off ts h item.Here = refl
item_off ts h item.In = refl
item_off ts h item.Out = refl
item_off ts h (item.Closes e) = refl
item_off ts h item.End = refl
item_off ts h item.Never = refl

layout_off : (ts : List Node) → Each Are ts → (is : List Item) → without_frames (layout_pieces true ts (map (written true) ts) is) ≡ layout_pieces false ts (map (written false) ts) is
layout_off ts h [] = refl
layout_off ts h (i ∷ is) =
    appended (item_pieces true ts (map (written true) ts) i) (layout_pieces true ts (map (written true) ts) is)
    ∙ ap (λ l. l ++ without_frames (layout_pieces true ts (map (written true) ts) is)) (item_off ts h i)
    ∙ ap (λ l. item_pieces false ts (map (written false) ts) i ++ l) (layout_off ts h is)

each_same : (ts : List Node) → Each Are ts → bares (map (written_with true) ts) ≡ map (written_with false) ts
each_same [] h = refl
each_same (t ∷ ts) h = ap (λ l. l ∷ bares (map (written_with true) ts)) h.0.of_pieces ∙ ap (λ l. written_with false t ∷ l) (each_same ts h.1)

list_step : (f : Bool) (ts : List Node) → written f (Many ts) ≡ written_step f (Node-F.List (map (written f) ts))
list_step f ts = search (rules, the_lemmas)

tree_step : (f : Bool) (k : Kind) (ts : List Node) → written f (Tree k ts) ≡ written_step f (Node-F.Tree k (map (written f) ts))
tree_step f k ts = search (rules, the_lemmas)

list_alike : (ts : List Node) → Each Are ts → Are (Many ts)
list_alike ts h = record {
  of_pieces = ap without_frames (list_pieces true ts) ∙ lines_off (map (written_with true) ts) ∙ ap lines (each_same ts h) ∙ sym (list_pieces false ts);
  of_within = ap (λ w. without_frames w.within) (list_step true ts) ∙ sym (ap (λ w. w.within) (list_step false ts));
  of_apart = ap (λ w. without_frames w.apart) (list_step true ts) ∙ sym (ap (λ w. w.apart) (list_step false ts));
  of_each = ap bare_each (each_items true ts) ∙ ap (λ pss. Some (ts, pss)) (each_same ts h) ∙ sym (each_items false ts);
}

tree_alike : (k : Kind) (ts : List Node) → Each Are ts → Are (Tree k ts)
tree_alike k ts h = record {
  of_pieces = ap without_frames (tree_pieces true k ts) ∙ frames_off k ts (layout_pieces true ts (map (written true) ts) (layout_of k)) ∙ layout_off ts h (layout_of k) ∙ sym (tree_pieces false k ts);
  of_within = ap without_frames (tree_within true k ts) ∙ layout_off ts h (layout_of k) ∙ sym (tree_within false k ts);
  of_apart = ap without_frames (tree_apart true k ts) ∙ frames_off k ts (layout_pieces true ts (map (written true) ts) (apart_layout_of k)) ∙ layout_off ts h (apart_layout_of k) ∙ sym (tree_apart false k ts);
  of_each = ap (λ w. bare_each w.each) (tree_step true k ts) ∙ sym (ap (λ w. w.each) (tree_step false k ts));
}

alike_by : (t : Node) (w v : Written) → written true t ≡ w → written false t ≡ v → Alike w v → Are t
alike_by t w v e f h = subst (λ x. Alike x (written false t)) (sym e) (subst (Alike w) (sym f) h)

all_alike : (t : Node) → Are t
all_alike t = by_children Are (
  alike_by Absent (written_step true Node-F.Absent) (written_step false Node-F.Absent) (search (rules, the_lemmas)) (search (rules, the_lemmas)) (record { of_pieces = refl; of_within = refl; of_apart = refl; of_each = refl }),
  λ x. alike_by (Flag x) (written_step true (Node-F.Flag x)) (written_step false (Node-F.Flag x)) (search (rules, the_lemmas)) (search (rules, the_lemmas)) (record { of_pieces = refl; of_within = refl; of_apart = refl; of_each = refl }),
  λ w. alike_by (Word w) (written_step true (Node-F.Word w)) (written_step false (Node-F.Word w)) (search (rules, the_lemmas)) (search (rules, the_lemmas))
      (record { of_pieces = one_bare (piece_of_word w) [] (sign_token (sign_of w) (spelling_of w)) refl; of_within = refl; of_apart = refl; of_each = refl }),
  λ x. alike_by (Text x) (written_step true (Node-F.Text x)) (written_step false (Node-F.Text x)) (search (rules, the_lemmas)) (search (rules, the_lemmas)) (record { of_pieces = refl; of_within = refl; of_apart = refl; of_each = refl }),
  λ s. alike_by (Span s) (written_step true (Node-F.Span s)) (written_step false (Node-F.Span s)) (search (rules, the_lemmas)) (search (rules, the_lemmas)) (record { of_pieces = refl; of_within = refl; of_apart = refl; of_each = refl }),
  λ k i. alike_by (Identifier k i) (written_step true (Node-F.Identifier k i)) (written_step false (Node-F.Identifier k i)) (search (rules, the_lemmas)) (search (rules, the_lemmas))
      (record { of_pieces = refl; of_within = refl; of_apart = refl; of_each = refl }),
)
    list_alike tree_alike t

pub frameless : (t : Node) → without_frames (framed_pieces t) ≡ pieces t
frameless t = (all_alike t).of_pieces

pub tree_follows : (c : Comments) (soft : Bool) (t : Node) (text : List ℕ) → Stands c soft (framed_pieces t) text → Follows c soft (pieces t) text
tree_follows c soft t text h = subst (λ ps. Follows c soft ps text) (frameless t) (tokens_follow c soft (framed_pieces t) text h)
