-- What a node is whose parts are lent, and a list whose elements are changed in turn or passed over.
use Rattle.std.proofs.Common.{◌≡◌, ℕ, zero, suc, ◌+◌, ◌<◌, false, Some, None, List, [], ◌∷◌, ◌++◌, length, map, take, drop, slice_set, get_or, refl, sym, ap, ◌∙◌, arith, add-one}
use Rattle.std.specs.List.{slice_get}
use Rattle.std.proofs.lemmas.Option.{slice_get_read}
use Rattle.swc_tree_node.specs.declared.kind.Kind.{Kind}
use Rattle.swc_tree_node.specs.declared.node.Node.{Node, List as Many, Tree, out-Node, roll-Node, roll-out-Node}
use Rattle.swc_tree_node.specs.declared.node.Node.TheOpen.{Node-F}
use Rattle.swc_tree_node.specs.declared.node.Node.TheVariants.{rolls-List, rolls-Tree}
use Rattle.swc_tree_node.specs.Changed.{fields_at, fields_in, items_at, items_in, nodes_at, nodes_in, with_children, with_children_at, with_fields, with_fields_at}
use Rattle.swc_tree_node.specs.Parts.{has_parts, has_parts_in, kind_in, kind_of}

pub items_out : (y : Node-F Node) (ts : List Node) → Some ts ≡ items_at y → y ≡ Node-F.List ts
items_out (Node-F.List us) ts h = let same : us ≡ ts = cc in ap (λ l. Node-F.List l) same
items_out Node-F.Absent ts h = absurd (cc)
items_out (Node-F.Flag b) ts h = absurd (cc)
items_out (Node-F.Word w) ts h = absurd (cc)
items_out (Node-F.Text x) ts h = absurd (cc)
items_out (Node-F.Span s) ts h = absurd (cc)
items_out (Node-F.Identifier k i) ts h = absurd (cc)
items_out (Node-F.Tree k us) ts h = absurd (cc)

-- a list, by its items
pub list_of_items : (t : Node) (ts : List Node) → Some ts ≡ items_in t → t ≡ Many ts
list_of_items t ts h = sym (roll-out-Node t) ∙ ap roll-Node (items_out (out-Node t) ts h) ∙ rolls-List ts

fields_out : (y : Node-F Node) (ts : List Node) → Some ts ≡ fields_at y → (k : Kind) × (y ≡ Node-F.Tree k ts)
fields_out (Node-F.Tree k us) ts h = let same : us ≡ ts = cc in (k, ap (λ l. Node-F.Tree k l) same)
fields_out Node-F.Absent ts h = absurd (cc)
fields_out (Node-F.Flag b) ts h = absurd (cc)
fields_out (Node-F.Word w) ts h = absurd (cc)
fields_out (Node-F.Text x) ts h = absurd (cc)
fields_out (Node-F.Span s) ts h = absurd (cc)
fields_out (Node-F.Identifier k i) ts h = absurd (cc)
fields_out (Node-F.List us) ts h = absurd (cc)

-- a tree, by its fields, and the same with others
pub tree_of_fields : (t : Node) (ts us : List Node) → Some ts ≡ fields_in t → (k : Kind) × (t ≡ Tree k ts) × (with_fields t us ≡ Tree k us)
tree_of_fields t ts us h = let q = fields_out (out-Node t) ts h in
    (q.0, sym (roll-out-Node t) ∙ ap roll-Node q.1 ∙ rolls-Tree q.0 ts, ap (λ y. with_fields_at y us) q.1)

list_out : (y : Node-F Node) (ts : List Node) → None ≡ kind_in y → Some ts ≡ nodes_at y → y ≡ Node-F.List ts
list_out (Node-F.List us) ts n h = let same : us ≡ ts = cc in ap (λ l. Node-F.List l) same
list_out Node-F.Absent ts n h = absurd (cc)
list_out (Node-F.Flag b) ts n h = absurd (cc)
list_out (Node-F.Word w) ts n h = absurd (cc)
list_out (Node-F.Text x) ts n h = absurd (cc)
list_out (Node-F.Span s) ts n h = absurd (cc)
list_out (Node-F.Identifier k i) ts n h = absurd (cc)
list_out (Node-F.Tree k us) ts n h = absurd (cc)

-- a node that is of no kind and has nodes below is their list
pub list_of_children : (t : Node) (ts us : List Node) → None ≡ kind_of t → Some ts ≡ nodes_in t → (t ≡ Many ts) × (with_children t us ≡ Many us)
list_of_children t ts us n h = let q = list_out (out-Node t) ts n h in (sym (roll-out-Node t) ∙ ap roll-Node q ∙ rolls-List ts, ap (λ y. with_children_at y us) q)

tree_out : (y : Node-F Node) (k : Kind) (ts : List Node) → Some k ≡ kind_in y → Some ts ≡ nodes_at y → y ≡ Node-F.Tree k ts
tree_out (Node-F.Tree j us) k ts n h = let same : us ≡ ts = cc in let alike : j ≡ k = cc in rw (same, alike) refl
tree_out Node-F.Absent k ts n h = absurd (cc)
tree_out (Node-F.Flag b) k ts n h = absurd (cc)
tree_out (Node-F.Word w) k ts n h = absurd (cc)
tree_out (Node-F.Text x) k ts n h = absurd (cc)
tree_out (Node-F.Span s) k ts n h = absurd (cc)
tree_out (Node-F.Identifier j i) k ts n h = absurd (cc)
tree_out (Node-F.List us) k ts n h = absurd (cc)

-- one that is of a kind and has nodes below is a tree
pub tree_of_children : (t : Node) (k : Kind) (ts us : List Node) → Some k ≡ kind_of t → Some ts ≡ nodes_in t → (t ≡ Tree k ts) × (with_children t us ≡ Tree k us)
tree_of_children t k ts us n h = let q = tree_out (out-Node t) k ts n h in (sym (roll-out-Node t) ∙ ap roll-Node q ∙ rolls-Tree k ts, ap (λ y. with_children_at y us) q)

none_out : (y : Node-F Node) → None ≡ nodes_at y → has_parts_in y ≡ false
none_out (Node-F.List us) h = absurd (cc)
none_out (Node-F.Tree k us) h = absurd (cc)
none_out Node-F.Absent h = refl
none_out (Node-F.Flag b) h = refl
none_out (Node-F.Word w) h = refl
none_out (Node-F.Text x) h = refl
none_out (Node-F.Span s) h = refl
none_out (Node-F.Identifier k i) h = refl

-- one that has none has no parts
pub none_of_children : (t : Node) → None ≡ nodes_in t → has_parts t ≡ false
none_of_children t h = none_out (out-Node t) h

set_at : {X : Type 0} (f : X → X) (xs : List X) (i : ℕ) (x : X) → i < length xs → slice_get (map f (take i xs) ++ drop i xs) i ≡ Some x
    → slice_set (map f (take i xs) ++ drop i xs) i (f x) ≡ map f (take (suc i) xs) ++ drop (suc i) xs
set_at f [] i x h g = absurd (omega arith)
set_at f (y ∷ xs) zero x h g = let same : y ≡ x = cc in ap (λ z. f z ∷ xs) (sym same)
set_at f (y ∷ xs) (suc i) x h g = ap (λ l. f y ∷ l) (set_at f xs i x (omega arith) g)

-- one element more
pub set_next : {X : Type 0} (f : X → X) (xs ys : List X) (i : ℕ) (x y : X) → i < length xs → ys ≡ map f (take i xs) ++ drop i xs → slice_get ys i ≡ Some x → y ≡ f x
    → slice_set ys i y ≡ map f (take (i + 1) xs) ++ drop (i + 1) xs
set_next f xs ys i x y h was here new = rw (new, was, add-one) (set_at f xs i x h (rw (← was) here))

map_left : {X : Type 0} (f : X → X) (xs : List X) (i : ℕ) (x : X) → i < length xs → slice_get (map f (take i xs) ++ drop i xs) i ≡ Some x → f x ≡ x
    → map f (take i xs) ++ drop i xs ≡ map f (take (suc i) xs) ++ drop (suc i) xs
map_left f [] i x l h e = absurd (omega arith)
map_left f (y ∷ xs) zero x l h e = let same : y ≡ x = cc in rw same (ap (λ u. u ∷ xs) (sym e))
map_left f (y ∷ xs) (suc i) x l h e = ap (λ ys. f y ∷ ys) (map_left f xs i x (omega arith) h e)

-- one element more, which stays as it is
pub next_left : {X : Type 0} (f : X → X) (xs ys : List X) (i : ℕ) (x : X) → i < length xs → ys ≡ map f (take i xs) ++ drop i xs → slice_get ys i ≡ Some x → f x ≡ x
    → ys ≡ map f (take (i + 1) xs) ++ drop (i + 1) xs
next_left f xs ys i x l was here stays = was ∙ rw add-one (map_left f xs i x l (rw (← was) here) stays)

-- what was looked at in place
pub looked_at : (xs ys : List Node) (i : ℕ) (t : Node) → i < length xs → ys ≡ xs → t ≡ get_or ys i t → slice_get xs i ≡ Some t
looked_at xs ys i t h same is = slice_get_read xs (length xs) i t refl h (is ∙ ap (λ l. get_or l i t) same)
