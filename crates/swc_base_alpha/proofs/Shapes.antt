-- Where two trees first have other outlines.
use denote.Enum.Bare.{sameb, same_true, true_same}
use Rattle.std.proofs.Common.{◌≡◌, ℕ, zero, suc, ◌+◌, ◌<◌, ◌⊎◌, inl, inr, ⊎_elim, IsTrue, ◌↔◌, Bool, Option, Some, None, List, [], ◌∷◌, map, length, refl, sym, ap, ◌∙◌, subst, arith, MatchOption}
use Rattle.std.specs.List.{slice_get}
use Rattle.std.specs.Option.{option_map}
use Rattle.std.proofs.lemmas.Option.{slice_get-map}
use Rattle.swc_tree_marks.specs.declared.span.Span.{Span as Range}
use Rattle.swc_tree_marks.specs.declared.ident.Ident.{Ident}
use Rattle.swc_tree_node.specs.contracts.kind.Kind as kind_type
use Rattle.swc_tree_node.specs.declared.kind.Kind.{Kind}
use Rattle.swc_tree_node.specs.declared.node.Node.{Node, Identifier, Tree, out-Node, roll-Node, roll-out-Node}
use Rattle.swc_tree_node.specs.declared.node.Node.TheVariants.{outs-Identifier, outs-Tree, rolls-Span, rolls-List, rolls-Identifier, rolls-Tree}
use Rattle.swc_tree_node.specs.declared.node.Node.TheOpen.{Node-F}
use Rattle.swc_tree_scoping.specs.Places.{Path, children_in, given}
use Rattle.swc_base_rename_laws.specs.NewNames.{no_name, outline}
use Rattle.swc_base_rename_laws.proofs.Outline.{layer, out_is}
use Rattle.swc_base_alpha.proofs.Forms.{IsLeaf, rolled}
use Rattle.swc_base_alpha.specs.Among.{AlikeBefore, AmongShows, SameOutlines, nearest_among, stands_among}
use Rattle.swc_base_alpha.specs.Shapes.{ComesBefore, ShapeShows, alone, nearest, own_span, span_or, stands}
use Rattle.swc_base_alpha.specs.declared.spans.Spans.{Spans}
use Rattle.swc_base_alpha.specs.declared.spans.Unplaced.{Unplaced}

-- ---- an outline, by what a node is alone and what stands below

alone_of_layer : (y : Node-F Node) → alone (layer y) ≡ alone y
alone_of_layer Node-F.Absent = refl
alone_of_layer (Node-F.Flag x) = refl
alone_of_layer (Node-F.Word x) = refl
alone_of_layer (Node-F.Text x) = refl
alone_of_layer (Node-F.Span x) = refl
alone_of_layer (Node-F.List x) = refl
alone_of_layer (Node-F.Identifier k x) = refl
alone_of_layer (Node-F.Tree k x) = refl

below_layer : (y : Node-F Node) → children_in (layer y) ≡ map outline (children_in y)
below_layer Node-F.Absent = refl
below_layer (Node-F.Flag x) = refl
below_layer (Node-F.Word x) = refl
below_layer (Node-F.Text x) = refl
below_layer (Node-F.Span x) = refl
below_layer (Node-F.List x) = refl
below_layer (Node-F.Identifier k x) = refl
below_layer (Node-F.Tree k x) = refl

abbrev over : Node-F Node → List Node → Node-F Node
over (Node-F.List x) ts = Node-F.List ts
over (Node-F.Tree k x) ts = Node-F.Tree k ts
over y ts = y

layer_again : (y : Node-F Node) → layer y ≡ over (alone y) (map outline (children_in y))
layer_again Node-F.Absent = refl
layer_again (Node-F.Flag x) = refl
layer_again (Node-F.Word x) = refl
layer_again (Node-F.Text x) = refl
layer_again (Node-F.Span x) = refl
layer_again (Node-F.List x) = refl
layer_again (Node-F.Identifier k x) = refl
layer_again (Node-F.Tree k x) = refl

one_layer : (t s : Node) → outline t ≡ outline s → layer (out-Node t) ≡ layer (out-Node s)
one_layer t s e = sym (out_is t) ∙ ap out-Node e ∙ out_is s

pub alone_same : (t s : Node) → outline t ≡ outline s → alone (out-Node t) ≡ alone (out-Node s)
alone_same t s e = sym (alone_of_layer (out-Node t)) ∙ ap alone (one_layer t s e) ∙ alone_of_layer (out-Node s)

below_same : (t s : Node) → outline t ≡ outline s → SameOutlines (children_in (out-Node t)) (children_in (out-Node s))
below_same t s e = sym (below_layer (out-Node t)) ∙ ap children_in (one_layer t s e) ∙ below_layer (out-Node s)

outline_by : (t s : Node) → alone (out-Node t) ≡ alone (out-Node s) → SameOutlines (children_in (out-Node t)) (children_in (out-Node s)) → outline t ≡ outline s
outline_by t s here below =
    sym (roll-out-Node (outline t))
    ∙ ap roll-Node (out_is t ∙ layer_again (out-Node t) ∙ (λ j. over (here j) (below j)) ∙ sym (layer_again (out-Node s)) ∙ sym (out_is s))
    ∙ roll-out-Node (outline s)

-- ---- nodes alone, as the code compares them

pub name_alike : (t s : Node) (k l : Kind) (i j : Ident) (b : Bool) → t ≡ Identifier k i → s ≡ Identifier l j → b ≡ sameb kind_type.the_type k l → IsTrue b ↔ (alone (out-Node t) ≡ alone (out-Node s))
name_alike t s k l i j b e f is = (
  λ h. one ∙ ap (λ k. Node-F.Identifier k no_name) (same_true kind_type.the_type tt k l (sym is ∙ h)) ∙ sym other,
  λ h. is ∙ true_same kind_type.the_type k l (inner (sym one ∙ h ∙ other)),
)
  where
    one : alone (out-Node t) ≡ Node-F.Identifier k no_name
    one = ap (λ t. alone (out-Node t)) e ∙ ap alone (outs-Identifier k i)

    other : alone (out-Node s) ≡ Node-F.Identifier l no_name
    other = ap (λ t. alone (out-Node t)) f ∙ ap alone (outs-Identifier l j)

    inner : ◌≡◌ {A = Node-F Node} (Node-F.Identifier k no_name) (Node-F.Identifier l no_name) → k ≡ l
    inner h = cc

pub tree_alike : (t s : Node) (k l : Kind) (ts ss : List Node) (b : Bool) → t ≡ Tree k ts → s ≡ Tree l ss → b ≡ sameb kind_type.the_type k l → IsTrue b ↔ (alone (out-Node t) ≡ alone (out-Node s))
tree_alike t s k l ts ss b e f is = (
  λ h. one ∙ ap (λ k. Node-F.Tree k []) (same_true kind_type.the_type tt k l (sym is ∙ h)) ∙ sym other,
  λ h. is ∙ true_same kind_type.the_type k l (inner (sym one ∙ h ∙ other)),
)
  where
    one : alone (out-Node t) ≡ Node-F.Tree k []
    one = ap (λ t. alone (out-Node t)) e ∙ ap alone (outs-Tree k ts)

    other : alone (out-Node s) ≡ Node-F.Tree l []
    other = ap (λ t. alone (out-Node t)) f ∙ ap alone (outs-Tree l ss)

    inner : ◌≡◌ {A = Node-F Node} (Node-F.Tree k []) (Node-F.Tree l []) → k ≡ l
    inner h = cc

leaf_alone : (t : Node) → IsLeaf t → alone (out-Node t) ≡ out-Node t
leaf_alone t l = by (out-Node t) refl
  where
    by : (y : Node-F Node) → out-Node t ≡ y → alone y ≡ y
    by Node-F.Absent o = refl
    by (Node-F.Flag x) o = refl
    by (Node-F.Word x) o = refl
    by (Node-F.Text x) o = refl
    by (Node-F.Span x) o = absurd (l.no_span x (rolled t _ o ∙ rolls-Span x))
    by (Node-F.List x) o = absurd (l.no_list x (rolled t _ o ∙ rolls-List x))
    by (Node-F.Identifier k x) o = absurd (l.no_name k x (rolled t _ o ∙ rolls-Identifier k x))
    by (Node-F.Tree k x) o = absurd (l.no_tree k x (rolled t _ o ∙ rolls-Tree k x))

leaf_by_layer : (t : Node) → IsLeaf t → (y : Node-F Node) → out-Node t ≡ alone y → alone y ≡ y
leaf_by_layer t l Node-F.Absent o = refl
leaf_by_layer t l (Node-F.Flag x) o = refl
leaf_by_layer t l (Node-F.Word x) o = refl
leaf_by_layer t l (Node-F.Text x) o = refl
leaf_by_layer t l (Node-F.Span x) o = absurd (l.no_span _ (rolled t _ o ∙ rolls-Span _))
leaf_by_layer t l (Node-F.List x) o = absurd (l.no_list _ (rolled t _ o ∙ rolls-List _))
leaf_by_layer t l (Node-F.Identifier k x) o = absurd (l.no_name k _ (rolled t _ o ∙ rolls-Identifier k _))
leaf_by_layer t l (Node-F.Tree k x) o = absurd (l.no_tree k _ (rolled t _ o ∙ rolls-Tree k _))

pub leaf_alike : (t s : Node) → IsLeaf t → (b : Bool) → IsTrue b ↔ (t ≡ s) → IsTrue b ↔ (alone (out-Node t) ≡ alone (out-Node s))
leaf_alike t s l b told = (λ h. ap (λ t. alone (out-Node t)) (told.0 h), λ h. told.1 (one h))
  where
    one : alone (out-Node t) ≡ alone (out-Node s) → t ≡ s
    one h =
        let is : out-Node t ≡ alone (out-Node s) = sym (leaf_alone t l) ∙ h in
        sym (roll-out-Node t) ∙ ap roll-Node (is ∙ leaf_by_layer t l (out-Node s) is) ∙ roll-out-Node s

-- ---- trees of one outline have the same at each path

some_same : (t s : Node) → Some t ≡ Some s → t ≡ s
some_same t s e = cc

same_given : {A : Type 0} (f : Node → Option A) → ((t s : Node) → outline t ≡ outline s → f t ≡ f s) → (o r : Option Node) → option_map outline o ≡ option_map outline r → given o None f ≡ given r None f
same_given f h None None e = refl
same_given f h None (Some s) e = absurd (cc)
same_given f h (Some t) None e = absurd (cc)
same_given f h (Some t) (Some s) e = h t s (some_same (outline t) (outline s) e)

same_stands : (p : Path) (t s : Node) → outline t ≡ outline s → stands t p ≡ stands s p
same_stands [] t s e = ap (λ y. Some y) (alone_same t s e)
same_stands (i ∷ p) t s e =
    let ts = children_in (out-Node t) in
    let ss = children_in (out-Node s) in
    same_given (λ c. stands c p) (same_stands p) (slice_get ts i) (slice_get ss i) (sym (slice_get-map outline ts i) ∙ ap (λ l. slice_get l i) (below_same t s e) ∙ slice_get-map outline ss i)

-- ---- where it shows

pub here : (u : Unplaced) (round around : Range) (t s : Node) (before after : Range) → before ≡ span_or u round (own_span (out-Node t)) → after ≡ span_or u around (own_span (out-Node s))
    → ¬ (alone (out-Node t) ≡ alone (out-Node s)) → ShapeShows u round around t s before after
here u round around t s before after e f other = record {
  path = [];
  apart = record { apart = λ same. other (inside same); first = none };
  is_before = e;
  is_after = f;
}
  where
    inside : Some (alone (out-Node t)) ≡ Some (alone (out-Node s)) → alone (out-Node t) ≡ alone (out-Node s)
    inside same = cc

    none : (q : Path) → ComesBefore q [] → stands t q ≡ stands s q
    none [] h = absurd h
    none (m ∷ q) h = absurd h

pub below : (u : Unplaced) (round around near beside : Range) (t s : Node) (before after : Range) → near ≡ span_or u round (own_span (out-Node t)) → beside ≡ span_or u around (own_span (out-Node s))
    → alone (out-Node t) ≡ alone (out-Node s) → AmongShows u near beside (children_in (out-Node t)) (children_in (out-Node s)) before after → ShapeShows u round around t s before after
below u round around near beside t s before after e f alike shows = record {
  path = shows.number ∷ shows.path;
  apart = record { apart = shows.apart.apart; first = earlier };
  is_before = shows.is_before ∙ ap (λ n. nearest_among u n (children_in (out-Node t)) shows.number shows.path) e;
  is_after = shows.is_after ∙ ap (λ n. nearest_among u n (children_in (out-Node s)) shows.number shows.path) f;
}
  where
    earlier : (q : Path) → ComesBefore q (shows.number ∷ shows.path) → stands t q ≡ stands s q
    earlier [] h = ap (λ y. Some y) alike
    earlier (m ∷ q) h = shows.apart.first m q h

-- ---- among trees

alike_among : (ts ss : List Node) (n : ℕ) → AlikeBefore ts ss n → (j : ℕ) (q : Path) → j < n → stands_among ts j q ≡ stands_among ss j q
alike_among ts ss n alike j q l = same_given (λ c. stands c q) (same_stands q) (slice_get ts j) (slice_get ss j) (alike j l)

pub at_child : (u : Unplaced) (round around : Range) (ts ss : List Node) (i : ℕ) (t s : Node) (before after : Range) → slice_get ts i ≡ Some t → slice_get ss i ≡ Some s → AlikeBefore ts ss i
    → ShapeShows u round around t s before after → AmongShows u round around ts ss before after
at_child u round around ts ss i t s before after e f alike shows = record {
  number = i;
  path = shows.path;
  apart = record {
    apart = λ same. shows.apart.apart (sym (ap (λ o. given o None (λ c. stands c shows.path)) e) ∙ same ∙ ap (λ o. given o None (λ c. stands c shows.path)) f);
    first = earlier;
  };
  is_before = shows.is_before ∙ sym (ap (λ o. given o round (λ c. nearest u round c shows.path)) e);
  is_after = shows.is_after ∙ sym (ap (λ o. given o around (λ c. nearest u around c shows.path)) f);
}
  where
    there : (q : Path) → ComesBefore q shows.path → stands_among ts i q ≡ stands_among ss i q
    there q h = ap (λ o. given o None (λ c. stands c q)) e ∙ shows.apart.first q h ∙ sym (ap (λ o. given o None (λ c. stands c q)) f)

    earlier : (j : ℕ) (q : Path) → (j < i) ⊎ ((j ≡ i) × ComesBefore q shows.path) → stands_among ts j q ≡ stands_among ss j q
    earlier j q (inl l) = alike_among ts ss i alike j q l
    earlier j q (inr (is, h)) = subst (λ j. stands_among ts j q ≡ stands_among ss j q) (sym is) (there q h)

-- one stands in one list alone
module _ (u : Unplaced) (round around : Range) (ts ss : List Node) (i : ℕ) (alike : AlikeBefore ts ss i) where
  nothing_before : (j : ℕ) (q : Path) → (j < i) ⊎ ((j ≡ i) × ComesBefore q []) → stands_among ts j q ≡ stands_among ss j q
  nothing_before j q (inl l) = alike_among ts ss i alike j q l
  nothing_before j [] (inr (is, h)) = absurd h
  nothing_before j (m ∷ q) (inr (is, h)) = absurd h

  some_none : {A : Type 0} (a : A) → Some a ≡ None → ⊥
  some_none a e = absurd (cc)

  pub in_first : (t : Node) (before after : Range) → slice_get ts i ≡ Some t → slice_get ss i ≡ None → before ≡ span_or u round (own_span (out-Node t)) → after ≡ around → AmongShows u round around ts ss before after
  in_first t before after e f is also = record {
    number = i;
    path = [];
    apart = record {
      apart = λ same. some_none (alone (out-Node t)) (sym (ap (λ o. given o None (λ c. stands c [])) e) ∙ same ∙ ap (λ o. given o None (λ c. stands c [])) f);
      first = nothing_before;
    };
    is_before = is ∙ sym (ap (λ o. given o round (λ c. nearest u round c [])) e);
    is_after = also ∙ sym (ap (λ o. given o around (λ c. nearest u around c [])) f);
  }

  pub in_second : (s : Node) (before after : Range) → slice_get ts i ≡ None → slice_get ss i ≡ Some s → before ≡ round → after ≡ span_or u around (own_span (out-Node s)) → AmongShows u round around ts ss before after
  in_second s before after e f is also = record {
    number = i;
    path = [];
    apart = record {
      apart = λ same. some_none (alone (out-Node s)) (sym (ap (λ o. given o None (λ c. stands c [])) f) ∙ sym same ∙ ap (λ o. given o None (λ c. stands c [])) e);
      first = nothing_before;
    };
    is_before = is ∙ sym (ap (λ o. given o round (λ c. nearest u round c [])) e);
    is_after = also ∙ sym (ap (λ o. given o around (λ c. nearest u around c [])) f);
  }

-- so many and one more
pub one_alike : (ts ss : List Node) (i : ℕ) (t s : Node) → slice_get ts i ≡ Some t → slice_get ss i ≡ Some s → outline t ≡ outline s → AlikeBefore ts ss i → AlikeBefore ts ss (i + 1)
one_alike ts ss i t s e f same alike j l = by (eq_or_less)
  where
    eq_or_less : (j < i) ⊎ (j ≡ i)
    eq_or_less = split j i (omega (arith, l))
      where
        split : (j i : ℕ) → j < suc i → (j < i) ⊎ (j ≡ i)
        split zero zero l = inr refl
        split zero (suc i) l = inl (omega arith)
        split (suc j) zero l = absurd (omega (arith, l))
        split (suc j) (suc i) l = ⊎_elim (λ m. inl (omega (arith, m))) (λ e. inr (ap suc e)) (split j i (omega (arith, l)))

    by : (j < i) ⊎ (j ≡ i) → option_map outline (slice_get ts j) ≡ option_map outline (slice_get ss j)
    by (inl m) = alike j m
    by (inr is) = ap (λ n. option_map outline (slice_get ts n)) is ∙ ap (option_map outline) e ∙ ap (λ x. Some x) same ∙ sym (ap (option_map outline) f) ∙ sym (ap (λ n. option_map outline (slice_get ss n)) is)

-- all of both
pub all_alike : (ts ss : List Node) → AlikeBefore ts ss (length ts) → slice_get ss (length ts) ≡ None → SameOutlines ts ss
all_alike [] [] alike none = refl
all_alike [] (s ∷ ss) alike none = absurd (cc)
all_alike (t ∷ ts) [] alike none = absurd (let first = alike zero (omega arith) in cc)
all_alike (t ∷ ts) (s ∷ ss) alike none = λ j. first j ∷ all_alike ts ss (λ i l. alike (suc i) (omega (arith, l))) none j
  where
    first : outline t ≡ outline s
    first = some_same (outline t) (outline s) (alike zero (omega arith))

pub none_past : (ts : List Node) → slice_get ts (length ts) ≡ None
none_past [] = refl
none_past (t ∷ ts) = none_past ts

-- what is said of the nodes below, of the trees
pub told_below : (u : Unplaced) (round around near beside : Range) (t s : Node) (ts ss : List Node) (o : Option Spans) → near ≡ span_or u round (own_span (out-Node t)) → beside ≡ span_or u around (own_span (out-Node s))
    → alone (out-Node t) ≡ alone (out-Node s) → ts ≡ children_in (out-Node t) → ss ≡ children_in (out-Node s) → MatchOption o (SameOutlines ts ss) (λ f. AmongShows u near beside ts ss f.before f.after)
    → MatchOption o (outline t ≡ outline s) (λ f. ShapeShows u round around t s f.before f.after)
told_below u round around near beside t s ts ss None e f alike is also h = outline_by t s alike (subst (λ ts. SameOutlines ts (children_in (out-Node s))) is (subst (λ ss. SameOutlines ts ss) also h))
told_below u round around near beside t s ts ss (Some x) e f alike is also h =
    below u round around near beside t s x.before x.after e f alike (subst (λ ts. AmongShows u near beside ts (children_in (out-Node s)) x.before x.after) is (subst (λ ss. AmongShows u near beside ts ss x.before x.after) also h))
