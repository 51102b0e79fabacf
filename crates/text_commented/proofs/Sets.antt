-- Pieces and comments read one after another.
use Rattle.std.proofs.Common.{◌≡◌, ℕ, ◌+◌, ◌-◌, ◌<◌, ◌≤◌, Bool, true, false, Some, List, [], ◌∷◌, ◌++◌, length, map, take, drop, get_or, refl, sym, ap, subst, arith, ◌∙◌}
use Rattle.std.specs.Borrow.{Bor}
use Rattle.std.specs.List.{slice_get}
use Rattle.std.proofs.lemmas.List.{append-nil, drop_more, drop_all, drop-drop, drop-map, map-append, take-append-drop, take-map}
use Rattle.swc_tree_node.specs.declared.node.Node.{Node}
use Rattle.text_comments.specs.declared.comment.Comment.{Comment}
use Rattle.text_lexer.specs.declared.blank.Comments.{Comments}
use Rattle.text_follow.specs.Endings.{ending_behind}
use Rattle.text_follow.specs.Follows.{Follows, FollowsFrom, Takes, fresh_behind}
use Rattle.text_pieces.specs.declared.item.Ending.{Ending}
use Rattle.text_pieces.specs.declared.item.Ending.TheVariants as ending
use Rattle.text_pieces.specs.declared.piece.Piece as code
use Rattle.text_pieces.specs.Frames.{without_frames}
use Rattle.text_pieces.specs.Pieces.{framed_pieces, pieces}
use Rattle.text_pieces.specs.Tokens.{Piece, frame, piece_view}
use Rattle.text_commented.specs.Commented.{IsCommented, IsSet, IsSetFrom, IsWrittenWith, Item, Meets, due_behind, remark, token, written}
use Rattle.text_commented.specs.Steps.{GoesOn, Placed, Steps, merged, placed_view}
use Rattle.text_commented.specs.declared.check.Walk.{Walk}
use Rattle.text_commented.specs.declared.left.Left.{Left}
use Rattle.text_commented.specs.declared.remark.Placed as placed_code
use Rattle.text_commented.specs.declared.remark.Remark.{Remark}

-- the pieces alone
abbrev pieces_of : List Item → List Piece
pieces_of [] = []
pieces_of (token p ∷ items) = p ∷ pieces_of items
pieces_of (remark n ∷ items) = pieces_of items

set_follows : (c : Comments) (whole : List ℕ) (rs : List Remark) (fresh : Bool) (e : Ending) (due : List (List ℕ)) (items : List Item) (text : List ℕ) → IsSetFrom c whole rs fresh e due items text
    → FollowsFrom c false fresh e (pieces_of items) text
set_follows c whole rs fresh e due [] text (ended, behind, found) = (ended, behind)
set_follows c whole rs fresh e due (remark n ∷ items) text (r, is, after) = set_follows c whole rs fresh e (due ++ r.text.now ∷ []) items text after
set_follows c whole rs fresh e due (token p ∷ items) text (rest, takes, meets, after) =
    (rest, takes, set_follows c whole rs (fresh_behind fresh p) (ending_behind e p) (due_behind text rest due) items rest after)

-- a text that has pieces one after another has those that are no frames
bare_follows : (c : Comments) (fresh : Bool) (e : Ending) (ps : List Piece) (text : List ℕ) → FollowsFrom c false fresh e ps text → FollowsFrom c false fresh e (without_frames ps) text
bare_follows c fresh e [] text h = h
bare_follows c fresh e (frame f ∷ ps) text h = subst (FollowsFrom c false fresh e (without_frames ps)) h.1 (bare_follows c fresh e ps h.0 h.2)
bare_follows c fresh e (p ∷ ps) text h = (h.0, h.1, bare_follows c (fresh_behind fresh p) (ending_behind e p) ps h.0 h.2)

pieces_among : (ps : List Piece) (items : List Item) → pieces_of (map token ps ++ items) ≡ ps ++ pieces_of items
pieces_among [] items = refl
pieces_among (p ∷ ps) items = ap (λ l. p ∷ l) (pieces_among ps items)

pieces_merged : (at : ℕ) (ps : List Piece) (placed : List Placed) → pieces_of (merged at ps placed) ≡ ps
pieces_merged at ps [] = ap pieces_of (sym (append-nil (map token ps))) ∙ pieces_among ps [] ∙ append-nil ps
pieces_merged at ps (r ∷ more) =
    let front = take (r.0 - at) ps in
    let rest = drop (r.0 - at) ps in
    pieces_among front (remark r.1 ∷ merged r.0 rest more) ∙ ap (λ l. front ++ l) (pieces_merged r.0 rest more) ∙ take-append-drop (r.0 - at) ps

-- a text that has pieces and comments among them follows the tokens
pub follows_merged : (c : Comments) (rs : List Remark) (ps : List Piece) (placed : List Placed) (text : List ℕ) → IsSet c rs (merged 0 ps placed) text → Follows c false (without_frames ps) text
follows_merged c rs ps placed text set =
    bare_follows c true ending.Closed ps text
    (subst (λ l. Follows c false l text) (pieces_merged 0 ps placed) (set_follows c text rs true ending.Closed [] (merged 0 ps placed) text set))

-- one piece more
pub one_passed : (c : Comments) (whole : List ℕ) (rs : List Remark) (ps : List code.Piece) (i : ℕ) (d : code.Piece) (s t : Walk) (more : List Item) → i < length ps → Steps c whole rs (token (piece_view (get_or ps i d)) ∷ []) s t
    → GoesOn c whole rs t (map token (map piece_view (drop (i + 1) ps)) ++ more) → GoesOn c whole rs s (map token (map piece_view (drop i ps)) ++ more)
one_passed c whole rs ps i d s t more within steps after =
    subst (λ l. GoesOn c whole rs s (map token (map piece_view l) ++ more)) (sym (drop_more ps i d within)) (steps (map token (map piece_view (drop (i + 1) ps)) ++ more) after)

-- no piece is left
pub all_passed : (c : Comments) (whole : List ℕ) (rs : List Remark) (ps : List code.Piece) (i : ℕ) (s : Walk) (more : List Item) → length ps ≤ i → GoesOn c whole rs s more
    → GoesOn c whole rs s (map token (map piece_view (drop i ps)) ++ more)
all_passed c whole rs ps i s more none after = subst (λ l. GoesOn c whole rs s (map token (map piece_view l) ++ more)) (sym (drop_all i ps none)) after

-- the pieces before a comment, and those behind it
front_pieces : (ps here : List code.Piece) (at before : ℕ) → here ≡ take (before - at) (drop at ps) → map piece_view here ≡ take (before - at) (map piece_view (drop at ps))
front_pieces ps here at before is = ap (λ l. map piece_view l) is ∙ sym (take-map piece_view (before - at) (drop at ps))

other_pieces : (ps : List code.Piece) (at before : ℕ) → at ≤ before → map piece_view (drop before ps) ≡ drop (before - at) (map piece_view (drop at ps))
other_pieces ps at before rises =
    let on : before ≡ at + (before - at) = omega arith in
    ap (λ n. map piece_view (drop n ps)) on ∙ ap (λ l. map piece_view l) (sym (drop-drop (before - at) at ps))
    ∙ sym (drop-map piece_view (before - at) (drop at ps))

pub merged_more : (ps here : List code.Piece) (at before n : ℕ) (more : List Placed) → at ≤ before → here ≡ take (before - at) (drop at ps)
    → map token (map piece_view here) ++ remark n ∷ merged before (map piece_view (drop before ps)) more ≡ merged at (map piece_view (drop at ps)) ((before, n) ∷ more)
merged_more ps here at before n more rises is =
    let rest = map piece_view (drop at ps) in
    ap (λ l. map token l ++ remark n ∷ merged before (map piece_view (drop before ps)) more) (front_pieces ps here at before is)
    ∙ ap (λ l. map token (take (before - at) rest) ++ remark n ∷ merged before l more) (other_pieces ps at before rises)

-- one comment more, and the pieces before it
pub one_placed : (c : Comments) (whole : List ℕ) (rs : List Remark) (ps here : List code.Piece) (placed : List placed_code.Placed) (i : ℕ) (d : placed_code.Placed) (at : ℕ) (s t r : Walk) → i < length placed
    → at ≤ (get_or placed i d).before → here ≡ take ((get_or placed i d).before - at) (drop at ps) → Steps c whole rs (map token (map piece_view here)) s t → Steps c whole rs (remark (get_or placed i d).number ∷ []) t r
    → GoesOn c whole rs r (merged (get_or placed i d).before (map piece_view (drop (get_or placed i d).before ps)) (map placed_view (drop (i + 1) placed)))
    → GoesOn c whole rs s (merged at (map piece_view (drop at ps)) (map placed_view (drop i placed)))
one_placed c whole rs ps here placed i d at s t r within rises is first then after =
    let one = get_or placed i d in
    let more = map placed_view (drop (i + 1) placed) in
    let items = merged one.before (map piece_view (drop one.before ps)) more in
    let behind : GoesOn c whole rs s (map token (map piece_view here) ++ remark one.number ∷ items) = first (remark one.number ∷ items) (then items after) in
    subst (λ l. GoesOn c whole rs s (merged at (map piece_view (drop at ps)) (map placed_view l))) (sym (drop_more placed i d within))
    (subst (λ l. GoesOn c whole rs s l) (merged_more ps here at one.before one.number more rises is) behind)

-- no comment is left
pub all_placed : (c : Comments) (whole : List ℕ) (rs : List Remark) (ps here : List code.Piece) (placed : List placed_code.Placed) (i at : ℕ) (s t : Walk) → length placed ≤ i → here ≡ drop at ps
    → Steps c whole rs (map token (map piece_view here)) s t → GoesOn c whole rs t [] → GoesOn c whole rs s (merged at (map piece_view (drop at ps)) (map placed_view (drop i placed)))
all_placed c whole rs ps here placed i at s t none is first end =
    let those : GoesOn c whole rs s (map token (map piece_view here)) = subst (λ l. GoesOn c whole rs s l) (append-nil (map token (map piece_view here))) (first [] end) in
    subst (λ l. GoesOn c whole rs s (merged at (map piece_view (drop at ps)) (map placed_view l))) (sym (drop_all i placed none))
    (subst (λ l. GoesOn c whole rs s (map token (map piece_view l))) is those)

-- one comment more that is written
pub one_written : (whole : List ℕ) (ks : List Comment) (ds : List (Bor (List ℕ))) (i : ℕ) (k : Comment) (d : Bor (List ℕ)) → i < length ks → i < length ds → written whole (get_or ks i k) ≡ (get_or ds i d).now
    → map (written whole) (drop (i + 1) ks) ≡ map (λ x. x.now) (drop (i + 1) ds) → map (written whole) (drop i ks) ≡ map (λ x. x.now) (drop i ds)
one_written whole ks ds i k d within inside is after =
    ap (λ l. map (written whole) l) (drop_more ks i k within)
    ∙ ap (λ x. x ∷ map (written whole) (drop (i + 1) ks)) is ∙ ap (λ l. (get_or ds i d).now ∷ l) after
    ∙ ap (λ l. map (λ x. x.now) l) (sym (drop_more ds i d inside))

pub none_written : (whole : List ℕ) (ks : List Comment) (ds : List (Bor (List ℕ))) (i : ℕ) → length ks ≤ i → length ds ≤ i → map (written whole) (drop i ks) ≡ map (λ x. x.now) (drop i ds)
none_written whole ks ds i none empty = ap (λ l. map (written whole) l) (drop_all i ks none) ∙ ap (λ l. map (λ x. x.now) l) (sym (drop_all i ds empty))

-- a comment is taken for one that is due
pub expected : (c : Comments) (whole : List ℕ) (rs : List Remark) (s t : Walk) (n : ℕ) (r : Remark) → slice_get rs n ≡ Some r → t.rest ≡ s.rest → t.fresh ≡ s.fresh → t.ending ≡ s.ending → t.due.items ≡ s.due.items ++ r.text ∷ []
    → Steps c whole rs (remark n ∷ []) s t
expected c whole rs s t n r is rest fresh ending due = λ more after.
    let at_rest = subst (λ (x : Bor (List ℕ)). IsSetFrom c whole rs t.fresh t.ending (map (λ d. d.now) t.due.items) more x.now) rest after in
    let at_fresh = subst (λ (f : Bool). IsSetFrom c whole rs f t.ending (map (λ d. d.now) t.due.items) more s.rest.now) fresh at_rest in
    let at_ending = subst (λ (e : Ending). IsSetFrom c whole rs s.fresh e (map (λ d. d.now) t.due.items) more s.rest.now) ending at_fresh in
    (r, is, subst (λ l. IsSetFrom c whole rs s.fresh s.ending l more s.rest.now) (ap (λ l. map (λ d. d.now) l) due ∙ map-append (λ d. d.now) s.due.items (r.text ∷ [])) at_ending)

-- a piece is gone behind
pub passed : (c : Comments) (whole : List ℕ) (rs : List Remark) (s t : Walk) (p : Piece) (rest : List ℕ) → Takes c false s.fresh s.ending p s.rest.now rest → Meets c whole s.fresh p s.rest.now rest (map (λ d. d.now) s.due.items)
    → t.rest.now ≡ rest → t.fresh ≡ fresh_behind s.fresh p → t.ending ≡ ending_behind s.ending p → map (λ d. d.now) t.due.items ≡ due_behind s.rest.now rest (map (λ d. d.now) s.due.items) → Steps c whole rs (token p ∷ []) s t
passed c whole rs s t p rest takes meets is_rest fresh ending due = λ more after.
    let at_rest = subst (λ x. IsSetFrom c whole rs t.fresh t.ending (map (λ d. d.now) t.due.items) more x) is_rest after in
    let at_fresh = subst (λ (f : Bool). IsSetFrom c whole rs f t.ending (map (λ d. d.now) t.due.items) more rest) fresh at_rest in
    let at_ending = subst (λ (e : Ending). IsSetFrom c whole rs (fresh_behind s.fresh p) e (map (λ d. d.now) t.due.items) more rest) ending at_fresh in
    (rest, takes, meets, subst (λ l. IsSetFrom c whole rs (fresh_behind s.fresh p) (ending_behind s.ending p) l more rest) due at_ending)

-- what is written with some pieces is so with those that these are
pub written_with : (c : Comments) (t : Node) (rs : List Remark) (ps found : List code.Piece) (text : List ℕ) (left : List Left) → ps ≡ found → map piece_view found ≡ framed_pieces t → without_frames (map piece_view found) ≡ pieces t
    → IsWrittenWith c (without_frames (map piece_view ps)) (map piece_view ps) rs text left → IsCommented c t rs text left
written_with c t rs ps found text left same frames tokens is =
    let all = ap (λ l. map piece_view l) same in
    subst (λ l. IsWrittenWith c l (framed_pieces t) rs text left) (ap without_frames all ∙ tokens)
    (subst (λ l. IsWrittenWith c (without_frames (map piece_view ps)) l rs text left) (all ∙ frames) is)
