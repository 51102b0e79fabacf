-- What the reader's table names in a part of a node, it names from the node.
use Rattle.std.proofs.Common.{◌≡◌, ℕ, zero, suc, Bool, true, false, ◌&&◌, ◌||◌, List, [], ◌∷◌, refl, sym, ap, ◌∙◌, rules}
use Rattle.std.specs.Prelude.{Some, None, slice_get}
use Rattle.swc_tree_node.specs.declared.kind.Kind.{Kind}
use Rattle.swc_tree_node.specs.declared.kind.Kind.TheVariants as kind
use Rattle.swc_tree_node.specs.declared.node.Node.{Node, List as Many, Tree, out-Node, the_lemmas}
use Rattle.swc_tree_node.specs.declared.node.Node.TheOpen.{Node-F}
use Rattle.swc_tree_scoping.specs.Places.{Path, child, given}
use Rattle.swc_tree_grammar.specs.Shapes.{items_of}
use Rattle.swc_tree_grammar.specs.Needed.{content_at}
use Rattle.swc_tree_grammar.specs.Readers.{none, named_in, names, names_below, names_item_in, test_at, has_later, is_odd_item}
use Rattle.swc_base_fixer_needs.specs.Reasons.{Label, nothing, labels, field_labels, item_labels}
use Rattle.swc_base_fixer_needs.specs.Reasons.Label.{Names, OfStatement, OfItems}
use Rattle.swc_base_fixer_needs.specs.Reads.{read, Reads}
use Rattle.swc_base_fixer_needs.proofs.Paths.{child_of_tree, child_of_list}

-- the test of a place, at a path that ends there
abbrev at_end : (Node → Bool) → Path → Node → Bool
at_end test [] e = test e
at_end test (i ∷ p) e = false

test_read : (f : Node → Bool) (t : Node) (p : Path) (e : Node) → read (Names f) t p e ≡ at_end f p e
test_read f t [] e = refl
test_read f t (i ∷ p) e = refl

-- what a field or an item reads, and the same seen from the list of them
abbrev pub ReadsAt : List Label → List Node → ℕ → Path → Type 0
ReadsAt (l ∷ ls) (t ∷ ts) zero p = Reads l t p
ReadsAt (l ∷ ls) (t ∷ ts) (suc i) p = ReadsAt ls ts i p
ReadsAt _ _ i p = ⊥

record Found (test : Path → Node → Bool) (ts : List Node) (i : ℕ) (p : Path) : Type 0 where
  content : Node
  stands : given (slice_get ts i) None (λ u. content_at u p) ≡ Some content
  named : (test p content || given (slice_get ts i) false (λ u. names u p content)) ≡ true

found : (f : Node → Bool) (t : Node) (ts : List Node) (p : Path) → Reads (Names f) t p → Found (at_end f) (t ∷ ts) zero p
found f t ts p x = record { content = x.content; stands = x.stands; named = sym (ap (λ b. b || names t p x.content) (test_read f t p x.content)) ∙ x.named }

further : (test : Path → Node → Bool) (t : Node) (ts : List Node) (i : ℕ) (p : Path) → Found test ts i p → Found test (t ∷ ts) (suc i) p
further test t ts i p x = record { content = x.content; stands = x.stands; named = x.named }

field : (fs : List (Node → Bool)) (ts : List Node) (i : ℕ) (p : Path) → ReadsAt (field_labels fs ts) ts i p → Found (at_end (test_at fs i)) ts i p
field fs [] i p x = absurd x
field [] (t ∷ ts) zero p x = found none t ts p x
field [] (t ∷ ts) (suc i) p x = further (at_end none) t ts i p (field [] ts i p x)
field (f ∷ fs) (t ∷ ts) zero p x = found f t ts p x
field (f ∷ fs) (t ∷ ts) (suc i) p x = further (at_end (test_at fs i)) t ts i p (field fs ts i p x)

item : (ts : List Node) (i : ℕ) (p : Path) → ReadsAt (item_labels ts) ts i p → Found (at_end (λ e. has_later i ts && is_odd_item e)) ts i p
item [] i p x = absurd x
item (t ∷ []) zero p x = found none t [] p x
item (t ∷ []) (suc i) p x = absurd x
item (t ∷ u ∷ ts) zero p x = found is_odd_item t (u ∷ ts) p x
item (t ∷ u ∷ ts) (suc i) p x = further (at_end (λ e. has_later i (u ∷ ts) && is_odd_item e)) t (u ∷ ts) i p (item (u ∷ ts) i p x)

-- from the node
some_of : (x y r b : Bool) → (x ≡ true → (r || b) ≡ true) → (x || y) ≡ true → (r || (b || y)) ≡ true
some_of x y true b f h = refl
some_of x y false true f h = refl
some_of true y false false f h = absurd (cc (f refl))
some_of false y false false f h = h

abbrev Passes : Label → Kind → List Node → ℕ → Path → (Path → Node → Bool) → Type 0
Passes l k ts i p test = (e : Node) → test p e ≡ true → (read l (Tree k ts) (i ∷ p) e || names_below (Node-F.Tree k ts) (i ∷ p) e) ≡ true

below : (l : Label) (k : Kind) (ts : List Node) (i : ℕ) (p : Path) (test : Path → Node → Bool) → Passes l k ts i p test → Found test ts i p → Reads l (Tree k ts) (i ∷ p)
below l k ts i p test f x =
    let n : names (Tree k ts) (i ∷ p) x.content ≡ (names_below (out-Node (Tree k ts)) (i ∷ p) x.content || given (child (Tree k ts) i) false (λ u. names u p x.content)) = refl in
    let o : names_below (out-Node (Tree k ts)) (i ∷ p) x.content ≡ names_below (Node-F.Tree k ts) (i ∷ p) x.content = search (rules, the_lemmas) in
    let g = ap (λ b. given b false (λ u. names u p x.content)) (child_of_tree k ts i) in
    record {
      content = x.content;
      stands = ap (λ b. given b None (λ u. content_at u p)) (child_of_tree k ts i) ∙ x.stands;
      named = rw (o, g) (some_of (test p x.content) (given (slice_get ts i) false (λ u. names u p x.content)) (read l (Tree k ts) (i ∷ p) x.content) (names_below (Node-F.Tree k ts) (i ∷ p) x.content) (f x.content) x.named);
    }

or_right : (a b : Bool) → b ≡ true → (a || b) ≡ true
or_right true b h = refl
or_right false b h = h

by_test : (l : Label) (k : Kind) (ts : List Node) (i : ℕ) (p : Path) → Passes l k ts i p (at_end (test_at (named_in (Node-F.Tree k ts)) i))
by_test l k ts i [] e h = or_right (read l (Tree k ts) (i ∷ []) e) (names_below (Node-F.Tree k ts) (i ∷ []) e) h
by_test l k ts i (j ∷ p) e h = absurd (cc)

no_item : (x : Node-F Node) (c : Node) → names_item_in x [] c ≡ false
no_item (Node-F.Tree kind.SeqExpr (s ∷ e ∷ [])) c = refl
no_item x c = refl

-- the expression of a statement, and the list of a sequence that is one
of_statement : (s e : Node) (i : ℕ) (p : Path) → ReadsAt (nothing ∷ OfStatement ∷ []) (s ∷ e ∷ []) i p → (l : Label) → Reads l (Tree kind.ExprStmt (s ∷ e ∷ [])) (i ∷ p)
of_statement s e zero p x l = below l kind.ExprStmt (s ∷ e ∷ []) zero p (at_end none) (by_test l kind.ExprStmt (s ∷ e ∷ []) zero p) (found none s (e ∷ []) p x)
of_statement s e (suc zero) p x l =
    below l kind.ExprStmt (s ∷ e ∷ []) 1 p (λ p c. names_item_in (out-Node e) p c) (statement_passes p) (record { content = x.content; stands = x.stands; named = x.named })
  where
    statement_passes : (p : Path) → Passes l kind.ExprStmt (s ∷ e ∷ []) 1 p (λ p c. names_item_in (out-Node e) p c)
    statement_passes [] c h = let n = no_item (out-Node e) c in absurd (cc)
    statement_passes (j ∷ p) c h = or_right (read l (Tree kind.ExprStmt (s ∷ e ∷ [])) (1 ∷ j ∷ p) c) (names_item_in (out-Node e) (j ∷ p) c) h
of_statement s e (suc (suc i)) p x l = absurd x

of_sequence : (s e : Node) (i : ℕ) (p : Path) → ReadsAt (nothing ∷ OfItems ∷ []) (s ∷ e ∷ []) i p → Reads OfStatement (Tree kind.SeqExpr (s ∷ e ∷ [])) (i ∷ p)
of_sequence s e zero p x = below OfStatement kind.SeqExpr (s ∷ e ∷ []) zero p (at_end none) (by_test OfStatement kind.SeqExpr (s ∷ e ∷ []) zero p) (found none s (e ∷ []) p x)
of_sequence s e (suc zero) p x =
    below OfStatement kind.SeqExpr (s ∷ e ∷ []) 1 p (λ p c. read OfItems e p c) (sequence_passes p) (record { content = x.content; stands = x.stands; named = x.named })
  where
    sequence_passes : (p : Path) → Passes OfStatement kind.SeqExpr (s ∷ e ∷ []) 1 p (λ p c. read OfItems e p c)
    sequence_passes [] c h = absurd (cc)
    sequence_passes (j ∷ []) c h =
        let q : read OfStatement (Tree kind.SeqExpr (s ∷ e ∷ [])) (1 ∷ j ∷ []) c ≡ (has_later j (items_of e) && is_odd_item c) = search (rules, the_lemmas) in rw (q, h) refl
    sequence_passes (j ∷ k ∷ p) c h = absurd (cc)
of_sequence s e (suc (suc i)) p x = absurd x

by_fields : (l : Label) (k : Kind) (ts : List Node) (i : ℕ) (p : Path) → ReadsAt (field_labels (named_in (Node-F.Tree k ts)) ts) ts i p → Reads l (Tree k ts) (i ∷ p)
by_fields l k ts i p x = below l k ts i p (at_end (test_at (named_in (Node-F.Tree k ts)) i)) (by_test l k ts i p) (field (named_in (Node-F.Tree k ts)) ts i p x)

pub reads_of_tree : (l : Label) (k : Kind) (ts : List Node) (i : ℕ) (p : Path) → ReadsAt (labels l (Node-F.Tree k ts)) ts i p → Reads l (Tree k ts) (i ∷ p)
reads_of_tree l kind.ExprStmt (s ∷ e ∷ []) i p x = of_statement s e i p x l
reads_of_tree OfStatement kind.SeqExpr (s ∷ e ∷ []) i p x = of_sequence s e i p x
reads_of_tree (Names f) kind.SeqExpr (s ∷ e ∷ []) i p x = by_fields (Names f) kind.SeqExpr (s ∷ e ∷ []) i p x
reads_of_tree OfItems kind.SeqExpr (s ∷ e ∷ []) i p x = by_fields OfItems kind.SeqExpr (s ∷ e ∷ []) i p x
reads_of_tree l k ts i p x = by_fields l k ts i p x

-- lists
list_below : (l : Label) (ts : List Node) (i : ℕ) (p : Path) (test : Path → Node → Bool) → ((e : Node) → test p e ≡ true → read l (Many ts) (i ∷ p) e ≡ true) → Found test ts i p → Reads l (Many ts) (i ∷ p)
list_below l ts i p test f x =
    let o : names_below (out-Node (Many ts)) (i ∷ p) x.content ≡ names_below (Node-F.List ts) (i ∷ p) x.content = search (rules, the_lemmas) in
    let n : names_below (Node-F.List ts) (i ∷ p) x.content ≡ false = list_names ts i p x.content in
    let g = ap (λ b. given b false (λ u. names u p x.content)) (child_of_list ts i) in
    record {
      content = x.content;
      stands = ap (λ b. given b None (λ u. content_at u p)) (child_of_list ts i) ∙ x.stands;
      named = rw (o, n, g) (some_of (test p x.content) (given (slice_get ts i) false (λ u. names u p x.content)) (read l (Many ts) (i ∷ p) x.content) false (λ h. rw (f x.content h) refl) x.named);
    }
  where
    list_names : (ts : List Node) (i : ℕ) (p : Path) (e : Node) → names_below (Node-F.List ts) (i ∷ p) e ≡ false
    list_names ts i [] e = refl
    list_names ts i (j ∷ p) e = refl

no_test : (i : ℕ) (p : Path) (e : Node) → at_end (test_at [] i) p e ≡ false
no_test i [] e = refl
no_test i (j ∷ p) e = refl

bare_list : (l : Label) (ts : List Node) (i : ℕ) (p : Path) → ReadsAt (field_labels [] ts) ts i p → Reads l (Many ts) (i ∷ p)
bare_list l ts i p x = list_below l ts i p (at_end (test_at [] i)) (λ e h. (let n = no_test i p e in absurd (cc))) (field [] ts i p x)

items_pass : (ts : List Node) (i : ℕ) (p : Path) (e : Node) → at_end (λ e. has_later i ts && is_odd_item e) p e ≡ true → read OfItems (Many ts) (i ∷ p) e ≡ true
items_pass ts i [] e h = (let q : items_of (Many ts) ≡ ts = search (rules, the_lemmas) in ap (λ us. has_later i us && is_odd_item e) q ∙ h)
items_pass ts i (j ∷ p) e h = absurd (cc)

pub reads_of_list : (l : Label) (ts : List Node) (i : ℕ) (p : Path) → ReadsAt (labels l (Node-F.List ts)) ts i p → Reads l (Many ts) (i ∷ p)
reads_of_list OfItems ts i p x = list_below OfItems ts i p (at_end (λ e. has_later i ts && is_odd_item e)) (items_pass ts i p) (item ts i p x)
reads_of_list (Names f) ts i p x = bare_list (Names f) ts i p x
reads_of_list OfStatement ts i p x = bare_list OfStatement ts i p x
