-- What a walk writes, one child after another.
use Rattle.std.proofs.Common.{◌≡◌, true, Bool, ℕ, zero, suc, ◌+◌, Some, None, List, [], ◌∷◌, ◌++◌, take, drop, map, length, refl, sym, ap, ◌∙◌, append_assoc, append-nil, ◌<◌, ◌≤◌, get_or, arith, rules}
use Rattle.std.specs.Prelude.{if◌then◌else◌, nat_lt}
use Rattle.std.specs.List.{slice_get}
use Rattle.std.proofs.lemmas.Bool.Decides.{nat_tests}
use Rattle.std.proofs.lemmas.Option.{slice_get_read, slice_get-map}
use Rattle.swc_tree_node.specs.declared.kind.Kind.{Kind}
use Rattle.swc_tree_node.specs.declared.node.Node.{Node, List as Many, Tree, out-Node, roll-Node, roll-out-Node, the_lemmas}
use Rattle.swc_tree_node.specs.declared.node.Node.TheOpen.{Node-F}
use Rattle.swc_tree_node.specs.declared.node.Node.TheVariants.{rolls-List, rolls-Tree}
use Rattle.swc_tree_grammar.proofs.Wholes.{carried}
use Rattle.text_lexer.specs.declared.mark.Mark.TheVariants as mark
use Rattle.text_pieces.specs.declared.item.Item.{Item}
use Rattle.text_pieces.specs.declared.piece.Gap.TheVariants as line
use Rattle.text_pieces.specs.Layouts.{apart_layout_of, layout_of}
use Rattle.text_pieces.specs.Frames.{in_frames}
use Rattle.text_pieces.specs.Pieces.{Written, behind_commas, item_pieces, layout_pieces, lines, with_commas, wholes, written, written_step, written_with}
use Rattle.text_pieces.specs.Tokens.{Piece, gap, punctuator}

pub written_whole : (f : Bool) (t : Node) → (written f t).whole ≡ t
written_whole f t = carried Written (written_step f) (λ e. e.whole) (λ x. refl) t

pub field_there : (f : Bool) (ts : List Node) (n : ℕ) (t : Node) → n < length ts → t ≡ get_or ts n t → slice_get (map (written f) ts) n ≡ Some (written f t)
field_there f ts n t within is = slice_get-map (written f) ts n ∙ rw (slice_get_read ts (length ts) n t refl within is) refl

none_past : (f : Bool) (ts : List Node) (n : ℕ) → length ts ≤ n → slice_get (map (written f) ts) n ≡ None
none_past f [] n h = refl
none_past f (t ∷ ts) zero h = absurd (omega arith)
none_past f (t ∷ ts) (suc n) h = none_past f ts n (omega arith)

pub no_field : (f : Bool) (ts : List Node) (n : ℕ) → length ts ≤ n → slice_get (map (written f) ts) n ≡ None
no_field f ts n h = none_past f ts n h

pub none_there : (ts : List Node) (n : ℕ) → length ts ≤ n → slice_get ts n ≡ None
none_there [] n h = refl
none_there (t ∷ ts) zero h = absurd (omega arith)
none_there (t ∷ ts) (suc n) h = none_there ts n (omega arith)

fused : (f : Bool) (ts : List Node) → map (λ e. e.pieces) (map (written f) ts) ≡ map (written_with f) ts
fused f [] = refl
fused f (t ∷ ts) = ap (λ l. written_with f t ∷ l) (fused f ts)

wholes_fused : (f : Bool) (ts : List Node) → wholes (map (written f) ts) ≡ ts
wholes_fused f [] = refl
wholes_fused f (t ∷ ts) = rw (written_whole f t, wholes_fused f ts) refl

each_apart : (f : Bool) (ts : List Node) → (written f (Many ts)).each ≡ Some (wholes (map (written f) ts), map (λ e. e.pieces) (map (written f) ts))
each_apart f ts = search (rules, the_lemmas)

pub each_items : (f : Bool) (ts : List Node) → (written f (Many ts)).each ≡ Some (ts, map (written_with f) ts)
each_items f ts = each_apart f ts ∙ rw (fused f ts, wholes_fused f ts) refl

list_apart : (f : Bool) (ts : List Node) → written_with f (Many ts) ≡ lines (map (λ e. e.pieces) (map (written f) ts))
list_apart f ts = search (rules, the_lemmas)

pub list_pieces : (f : Bool) (ts : List Node) → written_with f (Many ts) ≡ lines (map (written_with f) ts)
list_pieces f ts = list_apart f ts ∙ ap lines (fused f ts)

tree_parts : (f : Bool) (k : Kind) (ts : List Node) → written_with f (Tree k ts) ≡ in_frames f k (wholes (map (written f) ts)) (layout_pieces f (wholes (map (written f) ts)) (map (written f) ts) (layout_of k))
tree_parts f k ts = search (rules, the_lemmas)

pub tree_pieces : (f : Bool) (k : Kind) (ts : List Node) → written_with f (Tree k ts) ≡ in_frames f k ts (layout_pieces f ts (map (written f) ts) (layout_of k))
tree_pieces f k ts = tree_parts f k ts ∙ ap (λ ws. in_frames f k ws (layout_pieces f ws (map (written f) ts) (layout_of k))) (wholes_fused f ts)

apart_parts : (f : Bool) (k : Kind) (ts : List Node) → (written f (Tree k ts)).apart ≡ in_frames f k (wholes (map (written f) ts)) (layout_pieces f (wholes (map (written f) ts)) (map (written f) ts) (apart_layout_of k))
apart_parts f k ts = search (rules, the_lemmas)

pub tree_apart : (f : Bool) (k : Kind) (ts : List Node) → (written f (Tree k ts)).apart ≡ in_frames f k ts (layout_pieces f ts (map (written f) ts) (apart_layout_of k))
tree_apart f k ts = apart_parts f k ts ∙ ap (λ ws. in_frames f k ws (layout_pieces f ws (map (written f) ts) (apart_layout_of k))) (wholes_fused f ts)

within_parts : (f : Bool) (k : Kind) (ts : List Node) → (written f (Tree k ts)).within ≡ layout_pieces f (wholes (map (written f) ts)) (map (written f) ts) (layout_of k)
within_parts f k ts = search (rules, the_lemmas)

pub tree_within : (f : Bool) (k : Kind) (ts : List Node) → (written f (Tree k ts)).within ≡ layout_pieces f ts (map (written f) ts) (layout_of k)
tree_within f k ts = within_parts f k ts ∙ ap (λ ws. layout_pieces f ws (map (written f) ts) (layout_of k)) (wholes_fused f ts)

pub no_within : (f : Bool) (t : Node) → ((k : Kind) (ts : List Node) → t ≡ Tree k ts → ⊥) → (written f t).within ≡ []
no_within f t h = by (out-Node t) (sym (roll-out-Node t))
  where
    by : (y : Node-F Node) → t ≡ roll-Node y → (written f t).within ≡ []
    by (Node-F.Tree k ts) e = absurd (h k ts (e ∙ rolls-Tree k ts))
    by y e = ap (λ t. (written f t).within) e ∙ search (rules, the_lemmas)

-- a node that is no tree has nothing apart
pub no_apart : (f : Bool) (t : Node) → ((k : Kind) (ts : List Node) → t ≡ Tree k ts → ⊥) → (written f t).apart ≡ []
no_apart f t h = by (out-Node t) (sym (roll-out-Node t))
  where
    by : (y : Node-F Node) → t ≡ roll-Node y → (written f t).apart ≡ []
    by (Node-F.Tree k ts) e = absurd (h k ts (e ∙ rolls-Tree k ts))
    by y e = ap (λ t. (written f t).apart) e ∙ search (rules, the_lemmas)

positive : (i : ℕ) → nat_lt 0 (suc i) ≡ true
positive i = grind (arith, nat_tests)

pub there_by : (is : List Item) (i : ℕ) (d : Item) → i < length is → slice_get is i ≡ Some (get_or is i d)
there_by [] i d h = absurd (omega arith)
there_by (x ∷ is) zero d h = refl
there_by (x ∷ is) (suc i) d h = there_by is i d (omega arith)

-- one more
pub lines_one : (f : Bool) (ts : List Node) (i : ℕ) (t : Node) → slice_get ts i ≡ Some t → lines (map (written_with f) (take (suc i) ts)) ≡ lines (map (written_with f) (take i ts)) ++ gap line.Line ∷ written_with f t
lines_one f [] i t h = absurd (cc)
lines_one f (x ∷ ts) zero t h = let same : x ≡ t = cc in rw (same, append-nil (written_with f t)) refl
lines_one f (x ∷ ts) (suc i) t h = ap (λ l. gap line.Line ∷ written_with f x ++ l) (lines_one f ts i t h) ∙ ap (λ l. gap line.Line ∷ l) (sym (append_assoc (written_with f x) (lines (map (written_with f) (take i ts))) (gap line.Line ∷ written_with f t)))

behind_more : (f : Bool) (ts : List Node) (i : ℕ) (t : Node) → slice_get ts i ≡ Some t → behind_commas (map (written_with f) (take (suc i) ts)) ≡ behind_commas (map (written_with f) (take i ts)) ++ punctuator mark.Comma ∷ written_with f t
behind_more f [] i t h = absurd (cc)
behind_more f (x ∷ ts) zero t h = let same : x ≡ t = cc in rw (same, append-nil (written_with f t)) refl
behind_more f (x ∷ ts) (suc i) t h = ap (λ l. punctuator mark.Comma ∷ written_with f x ++ l) (behind_more f ts i t h) ∙ ap (λ l. punctuator mark.Comma ∷ l) (sym (append_assoc (written_with f x) (behind_commas (map (written_with f) (take i ts))) (punctuator mark.Comma ∷ written_with f t)))

pub listed_more : (f : Bool) (ts : List Node) (i : ℕ) (t : Node) → slice_get ts i ≡ Some t
    → with_commas (map (written_with f) (take (suc i) ts)) ≡ (with_commas (map (written_with f) (take i ts)) ++ (if nat_lt 0 i then punctuator mark.Comma ∷ [] else [])) ++ written_with f t
listed_more f [] i t h = absurd (cc)
listed_more f (x ∷ ts) zero t h = let same : x ≡ t = cc in append-nil (written_with f x) ∙ ap (written_with f) same
listed_more f (x ∷ ts) (suc i) t h =
    rw (positive i) (ap (λ l. written_with f x ++ l) (behind_more f ts i t h)
    ∙ sym (append_assoc (written_with f x) (behind_commas (map (written_with f) (take i ts))) (punctuator mark.Comma ∷ written_with f t))
    ∙ sym (append_assoc (written_with f x ++ behind_commas (map (written_with f) (take i ts))) (punctuator mark.Comma ∷ []) (written_with f t)))

pub layout_more : (f : Bool) (ws : List Node) (es : List Written) (is : List Item) (i : ℕ) (x : Item) → slice_get is i ≡ Some x → layout_pieces f ws es (take (suc i) is) ≡ layout_pieces f ws es (take i is) ++ item_pieces f ws es x
layout_more f ws es [] i x h = absurd (cc)
layout_more f ws es (y ∷ is) zero x h = let same : y ≡ x = cc in append-nil (item_pieces f ws es y) ∙ ap (item_pieces f ws es) same
layout_more f ws es (y ∷ is) (suc i) x h = ap (λ l. item_pieces f ws es y ++ l) (layout_more f ws es is i x h) ∙ sym (append_assoc (item_pieces f ws es y) (layout_pieces f ws es (take i is)) (item_pieces f ws es x))

-- a field that is no list has no items
pub no_items : (f : Bool) (t : Node) → ((ts : List Node) → t ≡ Many ts → ⊥) → (written f t).each ≡ None
no_items f t h = by (out-Node t) (sym (roll-out-Node t))
  where
    by : (y : Node-F Node) → t ≡ roll-Node y → (written f t).each ≡ None
    by (Node-F.List ts) e = absurd (h ts (e ∙ rolls-List ts))
    by y e = ap (λ t. (written f t).each) e ∙ search (rules, the_lemmas)
