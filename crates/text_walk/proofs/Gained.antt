-- What a sink has taken, one child after another.
use Rattle.std.proofs.Common.{◌≡◌, true, Bool, ℕ, ◌+◌, Some, Option, List, [], ◌∷◌, ◌++◌, take, drop, map, length, refl, sym, ap, ◌∙◌, subst, append_assoc, ◌<◌, ◌≤◌, get_or, add-one}
use Rattle.std.specs.Prelude.{if◌then◌else◌, nat_lt, not, ◌&&◌, ◌||◌}
use Rattle.std.specs.List.{slice_get}
use Rattle.std.proofs.lemmas.List.{drop_all, drop_more}
use Rattle.std.proofs.lemmas.Option.{slice_get_read}
use Rattle.swc_tree_marks.specs.declared.span.Span.{Span}
use Rattle.swc_tree_node.specs.declared.node.Node.{Node, out-Node}
use Rattle.text_lexer.specs.declared.mark.Mark.TheVariants as mark
use Rattle.text_lexer.specs.declared.token.TemplatePart.{TemplatePart}
use Rattle.text_pieces.specs.declared.item.Item.{Item}
use Rattle.text_pieces.specs.declared.piece.Gap.TheVariants as line
use Rattle.text_pieces.specs.Forms.{attribute, pairs, when}
use Rattle.text_pieces.specs.Frames.{begun, framing, framing_text, stopped, text_begun, text_stopped}
use Rattle.text_pieces.specs.Leaves.{is_named}
use Rattle.text_pieces.specs.Pieces.{Written, closing_part, item_pieces, layout_pieces, lines, opening_part, specified, template_from, text_in_frame, with_commas, written_with}
use Rattle.text_pieces.specs.Tokens.{Piece, gap, may_comma, punctuator}
use Rattle.text_walk.specs.declared.sink.Sink.{Sink}
use Rattle.text_walk.specs.Sinks.{Gains}
use Rattle.text_walk.proofs.Sinks.{goes_on, three}
use Rattle.text_walk.proofs.Walked.{layout_more, lines_one, listed_more, there_by}

-- what one that has become another owes, to have taken all
abbrev pub Owes : Sink → List Piece → Sink → List Piece → Type 0
Owes old all mid ps = (end : Sink) → Gains mid ps end → Gains old all end

pub lines_more : (f : Bool) (ts : List Node) (i : ℕ) (t : Node) (old mid between new : Sink) → i < length ts → t ≡ get_or ts i t → Gains old (lines (map (written_with f) (take i ts))) mid → Gains mid (gap line.Line ∷ []) between
    → Gains between (written_with f t) new → Gains old (lines (map (written_with f) (take (i + 1) ts))) new
lines_more f ts i t old mid between new within is before begun found =
    let there : slice_get ts i ≡ Some t = slice_get_read ts (length ts) i t refl within is in
    let some : List Piece = lines (map (written_with f) (take i ts)) in
    subst (λ l. Gains old l new) (append_assoc some (gap line.Line ∷ []) (written_with f t) ∙ sym (lines_one f ts i t there) ∙ ap (λ n. lines (map (written_with f) (take n ts))) (sym (add-one i)))
    (three old mid between new some (gap line.Line ∷ []) (written_with f t) before begun found)

pub commas_more : (f : Bool) (ts : List Node) (i : ℕ) (t : Node) (old mid comma new : Sink) → i < length ts → t ≡ get_or ts i t → Gains old (with_commas (map (written_with f) (take i ts))) mid
    → Gains mid (if nat_lt 0 i then punctuator mark.Comma ∷ [] else []) comma → Gains comma (written_with f t) new
    → Gains old (with_commas (map (written_with f) (take (i + 1) ts))) new
commas_more f ts i t old mid comma new within is before between found =
    let there : slice_get ts i ≡ Some t = slice_get_read ts (length ts) i t refl within is in
    subst (λ l. Gains old l new) (sym (listed_more f ts i t there) ∙ ap (λ n. with_commas (map (written_with f) (take n ts))) (sym (add-one i)))
    (three old mid comma new (with_commas (map (written_with f) (take i ts))) (if nat_lt 0 i then punctuator mark.Comma ∷ [] else []) (written_with f t) before between found)

pub items_more : (f : Bool) (ws : List Node) (es : List Written) (is : List Item) (i : ℕ) (d : Item) (old mid new : Sink) → i < length is → Gains old (layout_pieces f ws es (take i is)) mid
    → Gains mid (item_pieces f ws es (get_or is i d)) new → Gains old (layout_pieces f ws es (take (i + 1) is)) new
items_more f ws es is i d old mid new within before found =
    subst (λ l. Gains old l new) (sym (layout_more f ws es is i (get_or is i d) (there_by is i d within)) ∙ ap (λ n. layout_pieces f ws es (take n is)) (sym (add-one i)))
    (goes_on old mid new (layout_pieces f ws es (take i is)) (item_pieces f ws es (get_or is i d)) before found)

-- the pairs that are left
pub pairs_more : (ts : List Node) (i : ℕ) (t : Node) (some : Bool) (old mid comma new : Sink) (all : List Piece) → i < length ts → t ≡ get_or ts i t
    → ((end : Sink) → Gains mid (pairs some (drop i ts)) end → Gains old all end) → Gains mid (when some (punctuator mark.Comma)) comma → Gains comma (attribute (out-Node t) ∷ []) new
    → (end : Sink) → Gains new (pairs true (drop (i + 1) ts)) end → Gains old all end
pairs_more ts i t some old mid comma new all within is before between found end after =
    let split : drop i ts ≡ t ∷ drop (i + 1) ts = drop_more ts i t within ∙ ap (λ x. x ∷ drop (i + 1) ts) (sym is) in
    before end (subst (λ l. Gains mid (pairs some l) end) (sym split)
    (goes_on mid comma end (when some (punctuator mark.Comma)) (attribute (out-Node t) ∷ pairs true (drop (i + 1) ts)) between
    (goes_on comma new end (attribute (out-Node t) ∷ []) (pairs true (drop (i + 1) ts)) found after)))

pub pairs_end : (ts : List Node) (i : ℕ) (some : Bool) (old mid end : Sink) (all : List Piece) → length ts ≤ i
    → ((end : Sink) → Gains mid (pairs some (drop i ts)) end → Gains old all end) → Gains mid (when some may_comma) end → Gains old all end
pairs_end ts i some old mid end all past before last = before end (subst (λ l. Gains mid (pairs some l) end) (sym (drop_all i ts past)) last)

pub specified_more : (f : Bool) (ts : List Node) (i : ℕ) (t : Node) (some inside brace next : Bool) (old mid one two new : Sink) (all : List Piece) → i < length ts → t ≡ get_or ts i t
    → ((end : Sink) → Gains mid (specified some inside (drop i ts) (map (written_with f) (drop i ts))) end → Gains old all end)
    → Gains mid (when some (punctuator mark.Comma)) one → Gains one (when brace (punctuator mark.LeftBrace)) two → Gains two (written_with f t) new
    → brace ≡ (is_named (out-Node t) && not inside) → next ≡ (inside || is_named (out-Node t))
    → (end : Sink) → Gains new (specified true next (drop (i + 1) ts) (map (written_with f) (drop (i + 1) ts))) end → Gains old all end
specified_more f ts i t some inside brace next old mid one two new all within is before comma opened found brace_is next_is end after =
    let split : drop i ts ≡ t ∷ drop (i + 1) ts = drop_more ts i t within ∙ ap (λ x. x ∷ drop (i + 1) ts) (sym is) in
    let rest : List Piece = specified true (inside || is_named (out-Node t)) (drop (i + 1) ts) (map (written_with f) (drop (i + 1) ts)) in
    before end (subst (λ l. Gains mid (specified some inside l (map (written_with f) l)) end) (sym split)
    (goes_on mid new end (when some (punctuator mark.Comma) ++ when (is_named (out-Node t) && not inside) (punctuator mark.LeftBrace) ++ written_with f t) rest
    (three mid one two new (when some (punctuator mark.Comma)) (when (is_named (out-Node t) && not inside) (punctuator mark.LeftBrace)) (written_with f t) comma (subst (λ b. Gains one (when b (punctuator mark.LeftBrace)) two) brace_is opened) found)
    (subst (λ b. Gains new (specified true b (drop (i + 1) ts) (map (written_with f) (drop (i + 1) ts))) end) next_is after)))

pub specified_end : (f : Bool) (ts : List Node) (i : ℕ) (some inside : Bool) (old mid comma end : Sink) (all : List Piece) → length ts ≤ i
    → ((end : Sink) → Gains mid (specified some inside (drop i ts) (map (written_with f) (drop i ts))) end → Gains old all end)
    → Gains mid (when inside may_comma) comma → Gains comma (when inside (punctuator mark.RightBrace)) end → Gains old all end
specified_end f ts i some inside old mid comma end all past before between last =
    before end (subst (λ l. Gains mid (specified some inside l (map (written_with f) l)) end) (sym (drop_all i ts past))
    (goes_on mid comma end (when inside may_comma) (when inside (punctuator mark.RightBrace)) between last))

pub template_more : (f : Bool) (ts us : List Node) (i : ℕ) (t u : Node) (some : Bool) (part : TemplatePart) (old mid one new : Sink) (all : List Piece) → i < length ts → t ≡ get_or ts i t → i < length us → u ≡ get_or us i u
    → ((end : Sink) → Gains mid (template_from f some (drop i ts) (map (written_with f) (drop i us))) end → Gains old all end)
    → part ≡ opening_part some → Gains mid (text_in_frame f part (out-Node t)) one → Gains one (written_with f u) new
    → (end : Sink) → Gains new (template_from f true (drop (i + 1) ts) (map (written_with f) (drop (i + 1) us))) end → Gains old all end
template_more f ts us i t u some part old mid one new all text_within text_is within is before part_is text found end after =
    let split : drop i ts ≡ t ∷ drop (i + 1) ts = drop_more ts i t text_within ∙ ap (λ x. x ∷ drop (i + 1) ts) (sym text_is) in
    let others : drop i us ≡ u ∷ drop (i + 1) us = drop_more us i u within ∙ ap (λ x. x ∷ drop (i + 1) us) (sym is) in
    before end (subst (λ l. Gains mid (template_from f some l (map (written_with f) (drop i us))) end) (sym split)
    (subst (λ l. Gains mid (template_from f some (t ∷ drop (i + 1) ts) (map (written_with f) l)) end) (sym others)
    (three mid one new end (text_in_frame f (opening_part some) (out-Node t)) (written_with f u) (template_from f true (drop (i + 1) ts) (map (written_with f) (drop (i + 1) us)))
    (subst (λ p. Gains mid (text_in_frame f p (out-Node t)) one) part_is text) found after)))

pub template_end : (f : Bool) (ts us : List Node) (i : ℕ) (t : Node) (some : Bool) (part : TemplatePart) (old mid end : Sink) (all : List Piece) → i < length ts → t ≡ get_or ts i t → length us ≤ i
    → ((end : Sink) → Gains mid (template_from f some (drop i ts) (map (written_with f) (drop i us))) end → Gains old all end)
    → part ≡ closing_part some → Gains mid (text_in_frame f part (out-Node t)) end → Gains old all end
template_end f ts us i t some part old mid end all within is past before part_is text =
    let split : drop i ts ≡ t ∷ drop (i + 1) ts = drop_more ts i t within ∙ ap (λ x. x ∷ drop (i + 1) ts) (sym is) in
    before end (subst (λ l. Gains mid (template_from f some l (map (written_with f) (drop i us))) end) (sym split)
    (subst (λ l. Gains mid (template_from f some (t ∷ drop (i + 1) ts) (map (written_with f) l)) end) (sym (drop_all i us past))
    (subst (λ p. Gains mid (text_in_frame f p (out-Node t)) end) part_is text)))

-- in the frame of a span, which two calls have told
pub in_frame : (framed : Bool) (s a b : Option Span) (ps : List Piece) (old begins ends new : Sink) → framed ≡ true → a ≡ s → b ≡ s → Gains old (begun a) begins → Gains begins ps ends → Gains ends (stopped b) new
    → Gains old (framing framed s ps) new
in_frame framed s a b ps old begins ends new asked at to begins_there found stops_there =
    subst (λ f. Gains old (framing f s ps) new) (sym asked)
    (three old begins ends new (begun s) ps (stopped s) (subst (λ s. Gains old (begun s) begins) at begins_there) found (subst (λ s. Gains ends (stopped s) new) to stops_there))

pub dots_in_frame : (some framed : Bool) (s a b : Option Span) (ps : List Piece) (old begins ends new : Sink) → some ≡ true → framed ≡ true → a ≡ s → b ≡ s → Gains old (begun a) begins → Gains begins ps ends → Gains ends (stopped b) new
    → Gains old (if some then framing framed s ps else []) new
dots_in_frame some framed s a b ps old begins ends new is asked at to begins_there found stops_there =
    subst (λ c. Gains old (if c then framing framed s ps else []) new) (sym is) (in_frame framed s a b ps old begins ends new asked at to begins_there found stops_there)

pub text_framed : (framed : Bool) (p : TemplatePart) (s a b : Option Span) (x y : Piece) (old begins ends new : Sink) → framed ≡ true → a ≡ s → b ≡ s → x ≡ y → Gains old (text_begun a) begins → Gains begins (x ∷ []) ends → Gains ends (text_stopped p b) new
    → Gains old (framing_text framed p s (y ∷ [])) new
text_framed framed p s a b x y old begins ends new asked at to same begins_there found stops_there =
    subst (λ f. Gains old (framing_text f p s (y ∷ [])) new) (sym asked)
    (three old begins ends new (text_begun s) (y ∷ []) (text_stopped p s) (subst (λ s. Gains old (text_begun s) begins) at begins_there) (subst (λ z. Gains begins (z ∷ []) ends) same found) (subst (λ s. Gains ends (text_stopped p s) new) to stops_there))

-- the span of a node's own, and that of what it holds, which four calls have told
pub in_two_frames : (framed : Bool) (s r a b c d : Option Span) (ps : List Piece) (old one two three_on four new : Sink) → framed ≡ true → a ≡ s → b ≡ r → c ≡ r → d ≡ s
    → Gains old (begun a) one → Gains one (begun b) two → Gains two ps three_on → Gains three_on (stopped c) four → Gains four (stopped d) new
    → Gains old (framing framed s (framing framed r ps)) new
in_two_frames framed s r a b c d ps old one two three_on four new asked at inner_at inner_to to begins_there inside found inside_stops stops_there =
    in_frame framed s a d (framing framed r ps) old one four new asked at to begins_there
    (in_frame framed r b c ps one two three_on four asked inner_at inner_to inside found inside_stops)
    stops_there
