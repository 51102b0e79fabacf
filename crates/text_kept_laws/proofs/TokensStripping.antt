-- Pieces of a tree that is stripped.
use Rattle.std.proofs.Common.{◌≡◌, ℕ, zero, suc, Bool, true, false, IsTrue, None, List, [], ◌∷◌, ◌++◌, map, append-nil, rules, refl, sym, ap, ◌∙◌, subst}
use Rattle.std.specs.Prelude.{is_some}
use Rattle.std.specs.List.{filter, flat_map, list_all}
use Rattle.std.proofs.lemmas.Bool.{and_parts}
use Rattle.swc_tree_node.specs.declared.kind.Kind.{Kind}
use Rattle.swc_tree_node.specs.declared.kind.Kind.TheVariants as kind
use Rattle.swc_tree_node.specs.declared.kind.Class.TheVariants as class
use Rattle.swc_tree_node.specs.declared.slot.Content.TheVariants as content
use Rattle.swc_tree_node.specs.declared.slot.Slot.{Slot}
use Rattle.swc_tree_node.specs.declared.node.Node.{Node, Absent, Flag, Word, Text, Span, List as Many, Identifier, Tree, out-Node, the_lemmas}
use Rattle.swc_tree_node.specs.declared.node.Node.TheOpen.{Node-F}
use Rattle.swc_tree_node.specs.declared.node.Node.TheVariants.{outs-List, outs-Tree, rolls-Tree}
use Rattle.swc_tree_node.specs.Fits.{Fits}
use Rattle.swc_tree_node.proofs.Fit.{tree_closes}
use Rattle.swc_tree_grammar.specs.Shapes.{items_of}
use Rattle.swc_tree_grammar.specs.Stripped.{is_member, parts, sequence, settled, strip_step, stripped, target}
use Rattle.swc_tree_grammar.specs.Targets.{all_bare, bare_in, seen}
use Rattle.swc_tree_grammar.proofs.Induction.{Each, by_children}
use Rattle.swc_tree_grammar.proofs.Items.{items_of_list, listed}
use Rattle.swc_tree_grammar.proofs.Kept.{stripped_fits}
use Rattle.swc_tree_grammar.proofs.Stripped.{stripped_of_list, stripped_of_tree}
use Rattle.swc_tree_grammar.proofs.Walks.{bare_of_list, bare_of_tree}
use Rattle.swc_base_rename_substitution.proofs.Room.{tree_open}
use Rattle.text_lexer.specs.declared.mark.Mark.TheVariants as mark
use Rattle.text_pieces.specs.declared.item.Ending.TheVariants as ending
use Rattle.text_pieces.specs.declared.item.Form.TheVariants as form
use Rattle.text_pieces.specs.declared.item.Many.TheVariants as many
use Rattle.text_pieces.specs.declared.keyword.Keyword.TheVariants as keyword
use Rattle.text_pieces.specs.declared.piece.Gap.TheVariants as line
use Rattle.text_pieces.specs.Forms.{form_pieces, when}
use Rattle.text_pieces.specs.Leaves.{bound_name, is_let, is_set, is_set_in, only_name}
use Rattle.text_pieces.specs.Pieces.{items_pieces, lines, with_commas, written_with}
use Rattle.text_pieces.specs.Tokens.{Piece, closes, gap, punctuator}
use Rattle.text_walk.proofs.Walked.{each_items, list_pieces, tree_apart, tree_pieces, tree_within}
use Rattle.text_kept_laws.proofs.PiecesRows.{Kept, lone_pieces, none_each, none_items}
use Rattle.text_kept_laws.proofs.Then.{kept_as, kept_then}
use Rattle.text_kept_laws.proofs.Plain.{Plain, plain_kept, plain_tree, seen_plain}
use Rattle.text_kept_laws.specs.Written.{AsWritten, WithoutIdle}
use Rattle.text_kept_laws.specs.Written.WithoutIdle.{after, items, join, members, written as as_written}
use Rattle.text_kept_laws.proofs.Steps.{even as evenly, let_ends as ends_evenly}
use Rattle.text_kept_laws.proofs.Places.{Stays, below_kept, leaf_stays, list_none, list_stays, tree_none, tree_stays, wide, wide_there}
use Rattle.text_kept_laws.proofs.Unpairing.{an_expression, assigned_kept, expression, pair_off}

abbrev R : List Piece → List Piece → Type 0
R = WithoutIdle

abbrev W : Node → List Piece
W t = written_with false t

never : {A : Type 0} → true ≡ false → A
never h = absurd (cc)

even : (ps : List Piece) → R ps ps
even ps = as_written ps ps (evenly ps)

stated : (ps qs rs ss : List Piece) → ps ≡ rs → qs ≡ ss → R rs ss → R ps qs
stated ps qs rs ss e f h = subst (λ (l : List Piece). R l qs) (sym e) (subst (R rs) (sym f) h)

let_ends : (b c : Bool) → R (when b (closes ending.Let)) (when c (closes ending.Let))
let_ends b c = as_written (when b (closes ending.Let)) (when c (closes ending.Let)) (ends_evenly b c)

as_kept : (w : Bool) (t u : Node) → Kept AsWritten w t u → Kept R w t u
as_kept = kept_as AsWritten WithoutIdle as_written

-- ---- targets that can stand bare

abbrev Bare : Node → Type 0
Bare t = IsTrue (all_bare t)

each_bare : (ts : List Node) → list_all all_bare ts ≡ true → Each Bare ts
each_bare [] h = tt
each_bare (t ∷ ts) h = let p = and_parts (all_bare t) (list_all all_bare ts) h in (p.0, each_bare ts p.1)

bare_list : (ts : List Node) → Bare (Many ts) → Each Bare ts
bare_list ts h = each_bare ts (sym (bare_of_list ts) ∙ h)

bare_tree : (k : Kind) (ts : List Node) → Bare (Tree k ts) → Each Bare ts
bare_tree k ts h = each_bare ts (and_parts (bare_in (Node-F.Tree k (map seen ts))) (list_all all_bare ts) (sym (bare_of_tree k ts) ∙ h)).1

-- ---- what is left of an expression is one

pair_left : (ts : List Node) (s : Slot) → Bare (Tree kind.ParenExpr ts) → Fits (Tree kind.ParenExpr ts) s → Fits (stripped (Tree kind.ParenExpr ts)) an_expression
pair_left ts s b h = stripped_fits (Tree kind.ParenExpr ts) an_expression b refl (tree_closes kind.ParenExpr ts class.Expr refl refl (tree_open kind.ParenExpr ts s h).4)

sequence_left : (ts : List Node) (s : Slot) → Bare (Tree kind.SeqExpr ts) → Fits (Tree kind.SeqExpr ts) s → Fits (stripped (Tree kind.SeqExpr ts)) an_expression
sequence_left ts s b h = stripped_fits (Tree kind.SeqExpr ts) an_expression b refl (tree_closes kind.SeqExpr ts class.Expr refl refl (tree_open kind.SeqExpr ts s h).4)

-- ---- names that are bound

-- all others stay of their kind
abbrev is_taken : Kind → Bool
is_taken kind.ParenExpr = true
is_taken kind.SeqExpr = true
is_taken k = false

step_tree : (k : Kind) (ts : List Node) → is_taken k ≡ false → (us : List Node) × (strip_step (Node-F.Tree k ts) ≡ Tree k us)
step_tree kind.ParenExpr ts h = never h
step_tree kind.SeqExpr ts h = never h
step_tree kind.AssignExpr (a ∷ o ∷ t ∷ v ∷ []) h = (_, refl)
step_tree kind.Class (a ∷ c ∷ b ∷ []) h = (_, refl)
step_tree k ts h = (ts, rolls-Tree k ts)

both_none : (t u : Node) → bound_name (out-Node t) ≡ None → stripped t ≡ u → bound_name (out-Node u) ≡ None → bound_name (out-Node t) ≡ bound_name (out-Node (stripped t))
both_none t u n is m = n ∙ sym (ap (λ t. bound_name (out-Node t)) is ∙ m)

tree_bound : (k : Kind) (ts : List Node) (s : Slot) → Bare (Tree k ts) → Fits (Tree k ts) s → bound_name (out-Node (Tree k ts)) ≡ bound_name (out-Node (stripped (Tree k ts)))
tree_bound kind.ParenExpr ts s b h = tree_none kind.ParenExpr ts ∙ sym (expression (stripped (Tree kind.ParenExpr ts)) (pair_left ts s b h)).1
tree_bound kind.SeqExpr ts s b h = tree_none kind.SeqExpr ts ∙ sym (expression (stripped (Tree kind.SeqExpr ts)) (sequence_left ts s b h)).1
tree_bound k ts s b h = let (us, is) = step_tree k (map stripped ts) refl in both_none (Tree k ts) (Tree k us) (tree_none k ts) (stripped_of_tree k ts ∙ is) (tree_none k us)

same_bound : (t : Node) → stripped t ≡ t → bound_name (out-Node t) ≡ bound_name (out-Node (stripped t))
same_bound t e = sym (ap (λ t. bound_name (out-Node t)) e)

pub bound : (t : Node) (s : Slot) → IsTrue (all_bare t) → Fits t s → bound_name (out-Node t) ≡ bound_name (out-Node (stripped t))
bound t = by_children (λ t. (s : Slot) → Bare t → Fits t s → bound_name (out-Node t) ≡ bound_name (out-Node (stripped t))) (
  λ s b h. same_bound Absent (search (rules, the_lemmas)),
  λ x s b h. same_bound (Flag x) (search (rules, the_lemmas)),
  λ w s b h. same_bound (Word w) (search (rules, the_lemmas)),
  λ x s b h. same_bound (Text x) (search (rules, the_lemmas)),
  λ r s b h. same_bound (Span r) (search (rules, the_lemmas)),
  λ k i s b h. same_bound (Identifier k i) (search (rules, the_lemmas)),
)
    (λ ts l s b h. both_none (Many ts) (Many (map stripped ts)) (list_none ts) (stripped_of_list ts) (list_none (map stripped ts)))
    (λ k ts l. tree_bound k ts) t

abbrev Holds : Node → Type 0
Holds t = Stays WithoutIdle even join stripped (λ t. IsTrue (all_bare t)) bare_list bare_tree bound t

abbrev below : (s : Slot) (k : Kind) (ts : List Node) → Each Holds ts → Bare (Tree k ts) → Fits (Tree k ts) s → Kept R (wide s) (Tree k ts) (Tree k (map stripped ts))
below = below_kept WithoutIdle even join stripped (λ t. IsTrue (all_bare t)) bare_list bare_tree bound

-- what stands in a wide place
in_place : (k : Kind) (ts : List Node) (s : Slot) → wide s ≡ true → Kept R true (Tree k ts) (stripped (Tree k ts)) → Kept R (wide s) (Tree k ts) (stripped (Tree k ts))
in_place k ts s w h = subst (λ (w : Bool). Kept R w (Tree k ts) (stripped (Tree k ts))) (sym w) h

-- ---- pairs

pair_stays : (ts : List Node) → Each Holds ts → Holds (Tree kind.ParenExpr ts)
pair_stays (a ∷ e ∷ []) l s b h =
    let ts : List Node = a ∷ e ∷ [] in
    let f : Fits e an_expression = (tree_open kind.ParenExpr ts s h).4.1.0 in
    let all : Kept R true (Tree kind.ParenExpr ts) (stripped e)
    = kept_then R after true (Tree kind.ParenExpr ts) e (stripped e) (as_kept true (Tree kind.ParenExpr ts) e (pair_off a e (expression e f).0)) (l.1.0 an_expression (bare_tree kind.ParenExpr ts b).1.0 f) in
    in_place kind.ParenExpr ts s (wide_there kind.ParenExpr ts s refl h) (subst (Kept R true (Tree kind.ParenExpr ts)) (sym (stripped_of_tree kind.ParenExpr ts)) all)
pair_stays [] l s b h = absurd ((tree_open kind.ParenExpr [] s h).4)
pair_stays (a ∷ []) l s b h = absurd ((tree_open kind.ParenExpr (a ∷ []) s h).4.1)
pair_stays (a ∷ e ∷ c ∷ ts) l s b h = absurd ((tree_open kind.ParenExpr (a ∷ e ∷ c ∷ ts) s h).4.1.1)

-- ---- sequences

sequence_pieces : (a : Node) (es : List Node) → W (Tree kind.SeqExpr (a ∷ Many es ∷ [])) ≡ with_commas (map (written_with false) es)
sequence_pieces a es =
    tree_pieces false kind.SeqExpr (a ∷ Many es ∷ []) ∙ ap (λ e. items_pieces false many.List [] e ++ []) (each_items false es) ∙ append-nil (with_commas (map (written_with false) es))

left_pieces : (a : Node) (es : List Node) → W (sequence a es) ≡ with_commas (map (written_with false) es)
left_pieces a (e ∷ []) = sym (append-nil (W e))
left_pieces a [] = sequence_pieces a []
left_pieces a (e ∷ d ∷ es) = sequence_pieces a (e ∷ d ∷ es)

settled_kept : (a : Node) (es : List Node) → Plain false (sequence a (settled (flat_map parts es))) → Kept R true (Tree kind.SeqExpr (a ∷ Many es ∷ [])) (sequence a (settled (flat_map parts es)))
settled_kept a es p =
    let left : Node = sequence a (settled (flat_map parts es)) in
    plain_kept R even join false (Tree kind.SeqExpr (a ∷ Many es ∷ [])) left (plain_tree kind.SeqExpr (a ∷ Many es ∷ []) refl) p (let_ends (is_let (out-Node (Tree kind.SeqExpr (a ∷ Many es ∷ [])))) (is_let (out-Node left)))
    (stated (W (Tree kind.SeqExpr (a ∷ Many es ∷ []))) (W left) (with_commas (map (written_with false) es)) (with_commas (map (written_with false) (settled (flat_map parts es)))) (sequence_pieces a es) (left_pieces a (settled (flat_map parts es))) (items es))

sequence_stays : (ts : List Node) → Each Holds ts → Holds (Tree kind.SeqExpr ts)
sequence_stays (a ∷ e ∷ []) l s b h =
    let ts : List Node = a ∷ e ∷ [] in
    let w : wide s ≡ true = wide_there kind.SeqExpr ts s refl h in
    let i = listed e (content.Node class.Expr) (tree_open kind.SeqExpr ts s h).4.1.0 in
    let es : List Node = map stripped i.items in
    let many_is : stripped e ≡ Many es = ap stripped i.is ∙ stripped_of_list i.items in
    let left : Node = sequence (stripped a) (settled (flat_map parts es)) in
    let left_is : stripped (Tree kind.SeqExpr ts) ≡ left
    = stripped_of_tree kind.SeqExpr ts ∙ ap (λ e. sequence (stripped a) (settled (flat_map parts (items_of e)))) many_is ∙ ap (λ es. sequence (stripped a) (settled (flat_map parts es))) (items_of_list es) in
    let p : Plain false left = subst (Plain false) left_is (expression (stripped (Tree kind.SeqExpr ts)) (sequence_left ts s b h)).0 in
    let first : Kept R true (Tree kind.SeqExpr ts) (Tree kind.SeqExpr (stripped a ∷ Many es ∷ []))
    = subst (λ e. Kept R true (Tree kind.SeqExpr ts) (Tree kind.SeqExpr (stripped a ∷ e ∷ []))) many_is (subst (λ (w : Bool). Kept R w (Tree kind.SeqExpr ts) (Tree kind.SeqExpr (map stripped ts))) w (below s kind.SeqExpr ts l b h)) in
    let all : Kept R true (Tree kind.SeqExpr ts) left = kept_then R after true (Tree kind.SeqExpr ts) (Tree kind.SeqExpr (stripped a ∷ Many es ∷ [])) left first (settled_kept (stripped a) es p) in
    in_place kind.SeqExpr ts s w (subst (Kept R true (Tree kind.SeqExpr ts)) (sym left_is) all)
sequence_stays [] l s b h = absurd ((tree_open kind.SeqExpr [] s h).4)
sequence_stays (a ∷ []) l s b h = absurd ((tree_open kind.SeqExpr (a ∷ []) s h).4.1)
sequence_stays (a ∷ e ∷ c ∷ ts) l s b h = absurd ((tree_open kind.SeqExpr (a ∷ e ∷ c ∷ ts) s h).4.1.1)

-- ---- assignments

assignment_stays : (ts : List Node) → Each Holds ts → Holds (Tree kind.AssignExpr ts)
assignment_stays (a ∷ o ∷ t ∷ v ∷ []) l s b h =
    let ts : List Node = a ∷ o ∷ t ∷ v ∷ [] in
    let us : List Node = stripped a ∷ stripped o ∷ target (stripped t) ∷ stripped v ∷ [] in
    subst (Kept R (wide s) (Tree kind.AssignExpr ts)) (sym (stripped_of_tree kind.AssignExpr ts))
    (kept_then R after (wide s) (Tree kind.AssignExpr ts) (Tree kind.AssignExpr (map stripped ts)) (Tree kind.AssignExpr us) (below s kind.AssignExpr ts l b h)
    (as_kept (wide s) (Tree kind.AssignExpr (map stripped ts)) (Tree kind.AssignExpr us) (assigned_kept (wide s) (stripped a) (stripped o) (stripped t) (stripped v))))
assignment_stays [] l s b h = absurd ((tree_open kind.AssignExpr [] s h).4)
assignment_stays (a ∷ []) l s b h = absurd ((tree_open kind.AssignExpr (a ∷ []) s h).4.1)
assignment_stays (a ∷ o ∷ []) l s b h = absurd ((tree_open kind.AssignExpr (a ∷ o ∷ []) s h).4.1.1)
assignment_stays (a ∷ o ∷ t ∷ []) l s b h = absurd ((tree_open kind.AssignExpr (a ∷ o ∷ t ∷ []) s h).4.1.1.1)
assignment_stays (a ∷ o ∷ t ∷ v ∷ w ∷ ts) l s b h = absurd ((tree_open kind.AssignExpr (a ∷ o ∷ t ∷ v ∷ w ∷ ts) s h).4.1.1.1.1)

-- ---- classes

module _ (a c : Node) where
  abbrev class_of : List Node → Node
  class_of ms = Tree kind.Class (a ∷ c ∷ Many ms ∷ [])

  abbrev led : List Piece → List Piece
  led ps = form_pieces (form.WordIf keyword.Extends) c ++ (W c ++ (punctuator mark.LeftBrace ∷ gap line.In ∷ (ps ++ (gap line.Out ∷ punctuator mark.RightBrace ∷ []))))

  plain_class : (ms : List Node) → Plain false (class_of ms)
  plain_class ms = plain_tree kind.Class (a ∷ c ∷ Many ms ∷ []) refl

  fields_set : (ms ns : List Node) (n : ℕ) → is_set_in n (Node-F.Tree kind.Class (a ∷ c ∷ Many ms ∷ [])) ≡ is_set_in n (Node-F.Tree kind.Class (a ∷ c ∷ Many ns ∷ []))
  fields_set ms ns zero = refl
  fields_set ms ns (suc zero) = refl
  fields_set ms ns (suc (suc zero)) = ap is_set (outs-List ms) ∙ sym (ap is_set (outs-List ns))
  fields_set ms ns (suc (suc (suc n))) = refl

  body_kept : (ms : List Node) → R (led (W (Many ms))) (led (W (Many (filter is_member ms))))
  body_kept ms =
      let open_brace : List Piece = punctuator mark.LeftBrace ∷ gap line.In ∷ [] in
      let close_brace : List Piece = gap line.Out ∷ punctuator mark.RightBrace ∷ [] in
      let extends : List Piece = form_pieces (form.WordIf keyword.Extends) c in
      join extends extends _ _ (even extends)
      (join (W c) (W c) _ _ (even (W c))
      (join open_brace open_brace _ _ (even open_brace)
      (join (W (Many ms)) (W (Many (filter is_member ms))) close_brace close_brace
      (stated (W (Many ms)) (W (Many (filter is_member ms))) (lines (map (written_with false) ms)) (lines (map (written_with false) (filter is_member ms))) (list_pieces false ms) (list_pieces false (filter is_member ms)) (members ms)) (even close_brace))))

  class_kept : (w : Bool) (ms : List Node) → Kept R w (Tree kind.Class (a ∷ c ∷ Many ms ∷ [])) (Tree kind.Class (a ∷ c ∷ Many (filter is_member ms) ∷ []))
  class_kept w ms =
      let ns : List Node = filter is_member ms in
      let p : Plain false (class_of ms) = plain_class ms in
      let q : Plain false (class_of ns) = plain_class ns in
      record {
        looks = record {
          seen = seen_plain false (class_of ms) (class_of ns) p q;
          items = none_items R even join _ _ p.items q.items;
          function = λ o n. ap (is_set_in n) (outs-Tree kind.Class (a ∷ c ∷ Many ms ∷ [])) ∙ fields_set ms ns n ∙ sym (ap (is_set_in n) (outs-Tree kind.Class (a ∷ c ∷ Many ns ∷ [])));
          only = λ o. ap (λ l. is_some (only_name l)) p.items ∙ sym (ap (λ l. is_some (only_name l)) q.items);
          lone = λ o. stated _ _ _ _ (ap (λ l. lone_pieces (only_name l)) p.items) (ap (λ l. lone_pieces (only_name l)) q.items) (even []);
          let_ends = let_ends (is_let (out-Node (class_of ms))) (is_let (out-Node (class_of ns)));
        };
        stands = record {
          of_pieces = stated _ _ _ _ (tree_pieces false kind.Class (a ∷ c ∷ Many ms ∷ [])) (tree_pieces false kind.Class (a ∷ c ∷ Many ns ∷ [])) (body_kept ms);
          of_each = none_each R even join _ _ p.each q.each;
        };
        within = λ o. stated _ _ _ _ (tree_within false kind.Class (a ∷ c ∷ Many ms ∷ [])) (tree_within false kind.Class (a ∷ c ∷ Many ns ∷ [])) (body_kept ms);
        apart = λ own. stated _ _ _ _ (tree_apart false kind.Class (a ∷ c ∷ Many ms ∷ [])) (tree_apart false kind.Class (a ∷ c ∷ Many ns ∷ [])) (body_kept ms);
      }

class_stays : (ts : List Node) → Each Holds ts → Holds (Tree kind.Class ts)
class_stays (a ∷ c ∷ m ∷ []) l s b h =
    let ts : List Node = a ∷ c ∷ m ∷ [] in
    let i = listed m (content.Node class.ClassMember) (tree_open kind.Class ts s h).4.1.1.0 in
    let ms : List Node = map stripped i.items in
    let many_is : stripped m ≡ Many ms = ap stripped i.is ∙ stripped_of_list i.items in
    let left_is : stripped (Tree kind.Class ts) ≡ Tree kind.Class (stripped a ∷ stripped c ∷ Many (filter is_member ms) ∷ [])
    = stripped_of_tree kind.Class ts ∙ ap (λ m. Tree kind.Class (stripped a ∷ stripped c ∷ Many (filter is_member (items_of m)) ∷ [])) many_is
    ∙ ap (λ ms. Tree kind.Class (stripped a ∷ stripped c ∷ Many (filter is_member ms) ∷ [])) (items_of_list ms) in
    let first : Kept R (wide s) (Tree kind.Class ts) (Tree kind.Class (stripped a ∷ stripped c ∷ Many ms ∷ []))
    = subst (λ m. Kept R (wide s) (Tree kind.Class ts) (Tree kind.Class (stripped a ∷ stripped c ∷ m ∷ []))) many_is (below s kind.Class ts l b h) in
    subst (Kept R (wide s) (Tree kind.Class ts)) (sym left_is)
    (kept_then R after (wide s) (Tree kind.Class ts) (Tree kind.Class (stripped a ∷ stripped c ∷ Many ms ∷ [])) (Tree kind.Class (stripped a ∷ stripped c ∷ Many (filter is_member ms) ∷ [])) first
    (class_kept (stripped a) (stripped c) (wide s) ms))
class_stays [] l s b h = absurd ((tree_open kind.Class [] s h).4)
class_stays (a ∷ []) l s b h = absurd ((tree_open kind.Class (a ∷ []) s h).4.1)
class_stays (a ∷ c ∷ []) l s b h = absurd ((tree_open kind.Class (a ∷ c ∷ []) s h).4.1.1)
class_stays (a ∷ c ∷ m ∷ d ∷ ts) l s b h = absurd ((tree_open kind.Class (a ∷ c ∷ m ∷ d ∷ ts) s h).4.1.1.1)

-- ---- each node

each_tree : (k : Kind) (ts : List Node) → Each Holds ts → Holds (Tree k ts)
each_tree kind.ParenExpr ts l = pair_stays ts l
each_tree kind.SeqExpr ts l = sequence_stays ts l
each_tree kind.AssignExpr ts l = assignment_stays ts l
each_tree kind.Class ts l = class_stays ts l
each_tree k ts l = tree_stays WithoutIdle even join stripped (λ t. IsTrue (all_bare t)) bare_list bare_tree bound k ts (stripped_of_tree k ts ∙ rolls-Tree k (map stripped ts)) l

leaf : (t : Node) → stripped t ≡ t → Holds t
leaf = leaf_stays WithoutIdle even join stripped (λ t. IsTrue (all_bare t)) bare_list bare_tree bound

pub stripped_kept : (t : Node) (s : Slot) → IsTrue (all_bare t) → Fits t s → Kept WithoutIdle (wide s) t (stripped t)
stripped_kept t = by_children Holds (
  leaf Absent (search (rules, the_lemmas)),
  λ x. leaf (Flag x) (search (rules, the_lemmas)),
  λ w. leaf (Word w) (search (rules, the_lemmas)),
  λ x. leaf (Text x) (search (rules, the_lemmas)),
  λ r. leaf (Span r) (search (rules, the_lemmas)),
  λ k i. leaf (Identifier k i) (search (rules, the_lemmas)),
)
    (λ ts l. list_stays WithoutIdle even join stripped (λ t. IsTrue (all_bare t)) bare_list bare_tree bound ts (stripped_of_list ts) l) each_tree t
