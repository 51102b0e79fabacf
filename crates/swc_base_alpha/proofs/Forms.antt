-- What nodes of one outline are like.
use denote.Enum.Bare.{sameb, same_true, true_same}
use Rattle.std.proofs.Common.{◌≡◌, ℕ, ◌+◌, ◌<◌, ◌≤◌, Bool, true, IsTrue, ◌↔◌, Some, List, [], ◌∷◌, ◌++◌, map, take, length, get_or, refl, sym, ap, ◌∙◌}
use Rattle.std.specs.List.{slice_get}
use Rattle.std.specs.Option.{option_map}
use Rattle.std.proofs.lemmas.List.{map-append, take_all, take_more}
use Rattle.std.proofs.lemmas.Option.{slice_get-map, slice_get_read}
use Rattle.swc_tree_node.specs.Sameness.{same, same_decides}
use Rattle.swc_tree_node.specs.contracts.kind.Kind as kind_type
use Rattle.swc_tree_marks.specs.declared.ident.Ident.{Ident}
use Rattle.swc_tree_marks.specs.declared.span.Span.{Span as Range}
use Rattle.swc_tree_node.specs.declared.kind.Kind.{Kind}
use Rattle.swc_tree_node.specs.declared.node.Node.{Node, Span, List as Many, Identifier, Tree, out-Node, roll-Node, roll-out-Node}
use Rattle.swc_tree_node.specs.declared.node.Node.TheOpen.{Node-F}
use Rattle.swc_tree_node.specs.declared.node.Node.TheVariants.{outs-Identifier, outs-List, outs-Span, outs-Tree, rolls-Span, rolls-List, rolls-Identifier, rolls-Tree}
use Rattle.swc_base_rename_laws.specs.NewNames.{no_name, outline}
use Rattle.swc_base_rename_laws.proofs.Outline.{layer, out_is, outline_identifier, outline_list, outline_span, outline_tree}

-- a node of which the layer is known
pub rolled : (t : Node) (y : Node-F Node) → out-Node t ≡ y → t ≡ roll-Node y
rolled t y e = sym (roll-out-Node t) ∙ ap roll-Node e

layers : (t u : Node) (y : Node-F Node) → outline t ≡ outline u → out-Node t ≡ y → layer y ≡ layer (out-Node u)
layers t u y e o = ap layer (sym o) ∙ sym (out_is t) ∙ ap out-Node e ∙ out_is u

pub span_there : (t u : Node) (s : Range) → t ≡ Span s → outline t ≡ outline u → (r : Range) × (u ≡ Span r)
span_there t u s is e = by (out-Node u) refl
  where
    layer_is : (z : Node-F Node) → out-Node u ≡ z → layer (Node-F.Span s) ≡ layer z
    layer_is z o = layers t u (Node-F.Span s) e (ap out-Node is ∙ outs-Span s) ∙ ap layer o

    by : (z : Node-F Node) → out-Node u ≡ z → (r : Range) × (u ≡ Span r)
    by (Node-F.Span r) o = (r, rolled u _ o ∙ rolls-Span r)
    by Node-F.Absent o = let e = layer_is Node-F.Absent o in absurd (cc)
    by (Node-F.Flag x) o = let e = layer_is (Node-F.Flag x) o in absurd (cc)
    by (Node-F.Word x) o = let e = layer_is (Node-F.Word x) o in absurd (cc)
    by (Node-F.Text x) o = let e = layer_is (Node-F.Text x) o in absurd (cc)
    by (Node-F.List x) o = let e = layer_is (Node-F.List x) o in absurd (cc)
    by (Node-F.Identifier l x) o = let e = layer_is (Node-F.Identifier l x) o in absurd (cc)
    by (Node-F.Tree l x) o = let e = layer_is (Node-F.Tree l x) o in absurd (cc)

pub list_there : (t u : Node) (ts : List Node) → t ≡ Many ts → outline t ≡ outline u → (us : List Node) × (u ≡ Many us) × (map outline ts ≡ map outline us)
list_there t u ts is e = by (out-Node u) refl
  where
    layer_is : (z : Node-F Node) → out-Node u ≡ z → layer (Node-F.List ts) ≡ layer z
    layer_is z o = layers t u (Node-F.List ts) e (ap out-Node is ∙ outs-List ts) ∙ ap layer o

    by : (z : Node-F Node) → out-Node u ≡ z → (us : List Node) × (u ≡ Many us) × (map outline ts ≡ map outline us)
    by (Node-F.List us) o = let e = layer_is (Node-F.List us) o in (us, rolled u _ o ∙ rolls-List us, cc)
    by Node-F.Absent o = let e = layer_is Node-F.Absent o in absurd (cc)
    by (Node-F.Flag x) o = let e = layer_is (Node-F.Flag x) o in absurd (cc)
    by (Node-F.Word x) o = let e = layer_is (Node-F.Word x) o in absurd (cc)
    by (Node-F.Text x) o = let e = layer_is (Node-F.Text x) o in absurd (cc)
    by (Node-F.Span x) o = let e = layer_is (Node-F.Span x) o in absurd (cc)
    by (Node-F.Identifier l x) o = let e = layer_is (Node-F.Identifier l x) o in absurd (cc)
    by (Node-F.Tree l x) o = let e = layer_is (Node-F.Tree l x) o in absurd (cc)

pub name_there : (t u : Node) (k : Kind) (i : Ident) → t ≡ Identifier k i → outline t ≡ outline u → (j : Ident) × (u ≡ Identifier k j)
name_there t u k i is e = by (out-Node u) refl
  where
    layer_is : (z : Node-F Node) → out-Node u ≡ z → layer (Node-F.Identifier k i) ≡ layer z
    layer_is z o = layers t u (Node-F.Identifier k i) e (ap out-Node is ∙ outs-Identifier k i) ∙ ap layer o

    by : (z : Node-F Node) → out-Node u ≡ z → (j : Ident) × (u ≡ Identifier k j)
    by (Node-F.Identifier l j) o =
        let e = layer_is (Node-F.Identifier l j) o in
        let kinds : l ≡ k = cc in
        (j, rolled u _ o ∙ rolls-Identifier l j ∙ ap (λ l. Identifier l j) kinds)
    by Node-F.Absent o = let e = layer_is Node-F.Absent o in absurd (cc)
    by (Node-F.Flag x) o = let e = layer_is (Node-F.Flag x) o in absurd (cc)
    by (Node-F.Word x) o = let e = layer_is (Node-F.Word x) o in absurd (cc)
    by (Node-F.Text x) o = let e = layer_is (Node-F.Text x) o in absurd (cc)
    by (Node-F.Span x) o = let e = layer_is (Node-F.Span x) o in absurd (cc)
    by (Node-F.List x) o = let e = layer_is (Node-F.List x) o in absurd (cc)
    by (Node-F.Tree l x) o = let e = layer_is (Node-F.Tree l x) o in absurd (cc)

pub tree_there : (t u : Node) (k : Kind) (ts : List Node) → t ≡ Tree k ts → outline t ≡ outline u → (us : List Node) × (u ≡ Tree k us) × (map outline ts ≡ map outline us)
tree_there t u k ts is e = by (out-Node u) refl
  where
    layer_is : (z : Node-F Node) → out-Node u ≡ z → layer (Node-F.Tree k ts) ≡ layer z
    layer_is z o = layers t u (Node-F.Tree k ts) e (ap out-Node is ∙ outs-Tree k ts) ∙ ap layer o

    by : (z : Node-F Node) → out-Node u ≡ z → (us : List Node) × (u ≡ Tree k us) × (map outline ts ≡ map outline us)
    by (Node-F.Tree l us) o =
        let e = layer_is (Node-F.Tree l us) o in
        let kinds : l ≡ k = cc in
        (us, rolled u _ o ∙ rolls-Tree l us ∙ ap (λ l. Tree l us) kinds, cc)
    by Node-F.Absent o = let e = layer_is Node-F.Absent o in absurd (cc)
    by (Node-F.Flag x) o = let e = layer_is (Node-F.Flag x) o in absurd (cc)
    by (Node-F.Word x) o = let e = layer_is (Node-F.Word x) o in absurd (cc)
    by (Node-F.Text x) o = let e = layer_is (Node-F.Text x) o in absurd (cc)
    by (Node-F.Span x) o = let e = layer_is (Node-F.Span x) o in absurd (cc)
    by (Node-F.List x) o = let e = layer_is (Node-F.List x) o in absurd (cc)
    by (Node-F.Identifier l x) o = let e = layer_is (Node-F.Identifier l x) o in absurd (cc)

-- ---- a leaf is its own outline

pub record IsLeaf (t : Node) : Type 0 where
  pub no_span : (s : Range) → t ≡ Span s → ⊥
  pub no_list : (ts : List Node) → t ≡ Many ts → ⊥
  pub no_name : (k : Kind) (i : Ident) → t ≡ Identifier k i → ⊥
  pub no_tree : (k : Kind) (ts : List Node) → t ≡ Tree k ts → ⊥

leaf_same : (t : Node) → IsLeaf t → outline t ≡ t
leaf_same t l = sym (roll-out-Node (outline t)) ∙ ap roll-Node (out_is t ∙ by (out-Node t) refl) ∙ roll-out-Node t
  where
    by : (y : Node-F Node) → out-Node t ≡ y → layer y ≡ y
    by Node-F.Absent o = refl
    by (Node-F.Flag x) o = refl
    by (Node-F.Word x) o = refl
    by (Node-F.Text x) o = refl
    by (Node-F.Span x) o = absurd (l.no_span x (rolled t _ o ∙ rolls-Span x))
    by (Node-F.List x) o = absurd (l.no_list x (rolled t _ o ∙ rolls-List x))
    by (Node-F.Identifier k x) o = absurd (l.no_name k x (rolled t _ o ∙ rolls-Identifier k x))
    by (Node-F.Tree k x) o = absurd (l.no_tree k x (rolled t _ o ∙ rolls-Tree k x))

pub leaves : (t u : Node) → IsLeaf t → (b : Bool) → IsTrue b ↔ (t ≡ u) → IsTrue b ↔ (outline t ≡ outline u)
leaves t u l b h = (λ g. ap outline (h.0 g), λ e. h.1 (sym (leaf_same t l) ∙ e ∙ leaf_same u (other e)))
  where
    other : outline t ≡ outline u → IsLeaf u
    other e = record {
      no_span = λ s is. let (r, z) = span_there u t s is (sym e) in l.no_span r z;
      no_list = λ ts is. let (us, z, same) = list_there u t ts is (sym e) in l.no_list us z;
      no_name = λ k i is. let (j, z) = name_there u t k i is (sym e) in l.no_name k j z;
      no_tree = λ k ts is. let (us, z, same) = tree_there u t k ts is (sym e) in l.no_tree k us z;
    }

-- ---- the other way round

pub spans : (t u : Node) (s r : Range) → t ≡ Span s → u ≡ Span r → outline t ≡ outline u
spans t u s r e f = ap outline e ∙ outline_span s ∙ sym (outline_span r) ∙ ap outline (sym f)

pub lists : (t u : Node) (ts us : List Node) → t ≡ Many ts → u ≡ Many us → map outline ts ≡ map outline us → outline t ≡ outline u
lists t u ts us e f same = ap outline e ∙ outline_list ts ∙ ap Many same ∙ sym (outline_list us) ∙ ap outline (sym f)

pub names : (t u : Node) (k l : Kind) (i j : Ident) → t ≡ Identifier k i → u ≡ Identifier l j → k ≡ l → outline t ≡ outline u
names t u k l i j e f same = ap outline e ∙ outline_identifier k i ∙ ap (λ k. Identifier k no_name) same ∙ sym (outline_identifier l j) ∙ ap outline (sym f)

pub trees : (t u : Node) (k l : Kind) (ts us : List Node) → t ≡ Tree k ts → u ≡ Tree l us → k ≡ l → map outline ts ≡ map outline us → outline t ≡ outline u
trees t u k l ts us e f kinds same = ap outline e ∙ outline_tree k ts ∙ ap (Tree k) same ∙ ap (λ k. Tree k (map outline us)) kinds ∙ sym (outline_tree l us) ∙ ap outline (sym f)

-- ---- what the code answers, by the form of two nodes

pub list_case : (t u : Node) (ts us xs ys : List Node) (b : Bool) → t ≡ Many ts → u ≡ Many us → xs ≡ ts → ys ≡ us → IsTrue b ↔ (map outline xs ≡ map outline ys) → IsTrue b ↔ (outline t ≡ outline u)
list_case t u ts us xs ys b e f g h is = (
  λ k. lists t u ts us e f (ap (map outline) (sym g) ∙ is.0 k ∙ ap (map outline) h),
  λ k. is.1 (ap (map outline) g ∙ inner (layers t u (Node-F.List ts) k (ap out-Node e ∙ outs-List ts) ∙ ap layer (ap out-Node f ∙ outs-List us)) ∙ ap (map outline) (sym h)),
)
  where
    inner : layer (Node-F.List ts) ≡ layer (Node-F.List us) → map outline ts ≡ map outline us
    inner k = cc

pub name_case : (t u : Node) (k l : Kind) (i j : Ident) (b : Bool) → t ≡ Identifier k i → u ≡ Identifier l j → b ≡ sameb kind_type.the_type k l → IsTrue b ↔ (outline t ≡ outline u)
name_case t u k l i j b e f is = (
  λ h. names t u k l i j e f (same_true kind_type.the_type tt k l (sym is ∙ h)),
  λ h. is ∙ true_same kind_type.the_type k l (inner (layers t u (Node-F.Identifier k i) h (ap out-Node e ∙ outs-Identifier k i) ∙ ap layer (ap out-Node f ∙ outs-Identifier l j))),
)
  where
    inner : layer (Node-F.Identifier k i) ≡ layer (Node-F.Identifier l j) → k ≡ l
    inner h = cc

pub tree_case : (t u : Node) (k l : Kind) (ts us xs ys : List Node) (b : Bool) → t ≡ Tree k ts → u ≡ Tree l us → true ≡ sameb kind_type.the_type k l → xs ≡ ts → ys ≡ us → IsTrue b ↔ (map outline xs ≡ map outline ys) → IsTrue b ↔ (outline t ≡ outline u)
tree_case t u k l ts us xs ys b e f kinds g h is = (
  λ j. trees t u k l ts us e f (same_true kind_type.the_type tt k l (sym kinds)) (ap (map outline) (sym g) ∙ is.0 j ∙ ap (map outline) h),
  λ j. is.1 (ap (map outline) g ∙ inner (layers t u (Node-F.Tree k ts) j (ap out-Node e ∙ outs-Tree k ts) ∙ ap layer (ap out-Node f ∙ outs-Tree l us)) ∙ ap (map outline) (sym h)),
)
  where
    inner : layer (Node-F.Tree k ts) ≡ layer (Node-F.Tree l us) → map outline ts ≡ map outline us
    inner h = cc

-- ---- one more of two lists

pub one_more : (ts us : List Node) (i : ℕ) (a b : Node) → i < length ts → i < length us → a ≡ get_or ts i a → b ≡ get_or us i b → map outline (take i ts) ≡ map outline (take i us) → outline a ≡ outline b
    → map outline (take (i + 1) ts) ≡ map outline (take (i + 1) us)
one_more ts us i a b l m e f before same = more ts a l e ∙ ap (λ x. x ++ outline a ∷ []) before ∙ ap (λ n. map outline (take i us) ++ n ∷ []) same ∙ sym (more us b m f)
  where
    more : (ts : List Node) (a : Node) → i < length ts → a ≡ get_or ts i a → map outline (take (i + 1) ts) ≡ map outline (take i ts) ++ outline a ∷ []
    more ts a l e = ap (map outline) (take_more ts i a l) ∙ map-append outline (take i ts) (get_or ts i a ∷ []) ∙ ap (λ n. map outline (take i ts) ++ outline n ∷ []) (sym e)

pub one_there : (ts us : List Node) (i : ℕ) (a b : Node) → i < length ts → i < length us → a ≡ get_or ts i a → b ≡ get_or us i b → map outline ts ≡ map outline us → outline a ≡ outline b
one_there ts us i a b l m e f same = some_same (outline a) (outline b) (sym (at ts a l e) ∙ ap (λ l. slice_get l i) same ∙ at us b m f)
  where
    some_same : (a b : Node) → Some a ≡ Some b → a ≡ b
    some_same a b e = cc

    at : (ts : List Node) (a : Node) → i < length ts → a ≡ get_or ts i a → slice_get (map outline ts) i ≡ Some (outline a)
    at ts a l e = slice_get-map outline ts i ∙ ap (option_map outline) (slice_get_read ts (length ts) i a refl l e)

pub decides : (b : Bool) (t u : Node) → b ≡ same t u → IsTrue b ↔ (t ≡ u)
decides b t u e = let d = same_decides t u in (λ h. d.0 (sym e ∙ h), λ p. e ∙ d.1 p)

pub all_of : (ts us : List Node) (n : ℕ) → length ts ≤ n → length us ≤ n → map outline (take n ts) ≡ map outline (take n us) → map outline ts ≡ map outline us
all_of ts us n l m e = ap (map outline) (sym (take_all n ts l)) ∙ e ∙ ap (map outline) (take_all n us m)
