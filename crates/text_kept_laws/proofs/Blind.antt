-- A test of nodes that sees no context passes somewhere in a tree exactly if it does in the tree without contexts.
use Rattle.std.proofs.Common.{◌≡◌, ℕ, zero, suc, Bool, IsTrue, ◌↔◌, Option, Some, None, List, [], ◌∷◌, map, refl, sym, ap, ◌∙◌}
use Rattle.std.specs.Prelude.{option_map, slice_get}
use Rattle.swc_tree_node.specs.declared.node.Node.{Node, Absent, Flag, Word, Text, Span, out-Node}
use Rattle.swc_tree_node.specs.declared.node.Node.TheOpen.{Node-F}
use Rattle.swc_tree_node.specs.declared.node.Node.TheVariants.{outs-Absent, outs-Flag, outs-Identifier, outs-List, outs-Span, outs-Text, outs-Tree, outs-Word}
use Rattle.swc_tree_scoping.specs.Places.{Path, child, children_in, given}
use Rattle.swc_tree_scoping.specs.Readings.{by_texts}
use Rattle.swc_tree_grammar.proofs.Induction.{by_children}
use Rattle.swc_tree_walk.specs.Nodes.{HasNode, node_at}
use Rattle.text_kept_laws.proofs.Cleared.{bare, text_absent, text_flag, text_list, text_name, text_span, text_text, text_tree, text_word}

some_same : {X : Type 0} {a b : X} → Some a ≡ Some b → a ≡ b
some_same h = cc

-- ---- what stands at a path

leaf : (t : Node) (y : Node-F Node) → by_texts t ≡ t → out-Node t ≡ y → children_in y ≡ [] → children_in (out-Node (by_texts t)) ≡ map by_texts (children_in (out-Node t))
leaf t y e o none = ap (λ t. children_in (out-Node t)) e ∙ ap children_in o ∙ none ∙ sym (ap (λ y. map by_texts (children_in y)) o ∙ ap (map by_texts) none)

children_same : (t : Node) → children_in (out-Node (by_texts t)) ≡ map by_texts (children_in (out-Node t))
children_same t = by_children (λ t. children_in (out-Node (by_texts t)) ≡ map by_texts (children_in (out-Node t))) (
  leaf Absent Node-F.Absent text_absent outs-Absent refl,
  λ x. leaf (Flag x) (Node-F.Flag x) (text_flag x) (outs-Flag x) refl,
  λ w. leaf (Word w) (Node-F.Word w) (text_word w) (outs-Word w) refl,
  λ x. leaf (Text x) (Node-F.Text x) (text_text x) (outs-Text x) refl,
  λ s. leaf (Span s) (Node-F.Span s) (text_span s) (outs-Span s) refl,
  λ k i. ap (λ t. children_in (out-Node t)) (text_name k i) ∙ ap children_in (outs-Identifier k (bare i)) ∙ sym (ap (λ y. map by_texts (children_in y)) (outs-Identifier k i)),
)
    (λ ts l. ap (λ t. children_in (out-Node t)) (text_list ts) ∙ ap children_in (outs-List (map by_texts ts)) ∙ sym (ap (λ y. map by_texts (children_in y)) (outs-List ts)))
    (λ k ts l. ap (λ t. children_in (out-Node t)) (text_tree k ts) ∙ ap children_in (outs-Tree k (map by_texts ts)) ∙ sym (ap (λ y. map by_texts (children_in y)) (outs-Tree k ts))) t

get_same : (ts : List Node) (i : ℕ) → slice_get (map by_texts ts) i ≡ option_map by_texts (slice_get ts i)
get_same [] i = refl
get_same (t ∷ ts) zero = refl
get_same (t ∷ ts) (suc i) = get_same ts i

child_same : (t : Node) (i : ℕ) (o : Option Node) → child t i ≡ o → child (by_texts t) i ≡ option_map by_texts o
child_same t i o e = ap (λ ts. slice_get ts i) (children_same t) ∙ get_same (children_in (out-Node t)) i ∙ ap (option_map by_texts) e

there : (p : Path) (t n : Node) → node_at t p ≡ Some n → node_at (by_texts t) p ≡ Some (by_texts n)
there [] t n e = ap (option_map by_texts) e
there (i ∷ p) t n e = by (λ c g. there p c n g) (child t i) refl e
  where
    by : ((c : Node) → node_at c p ≡ Some n → node_at (by_texts c) p ≡ Some (by_texts n)) → (o : Option Node) → child t i ≡ o → given o None (λ c. node_at c p) ≡ Some n
        → given (child (by_texts t) i) None (λ c. node_at c p) ≡ Some (by_texts n)
    by further None g e = absurd (cc)
    by further (Some c) g e = ap (λ o. given o None (λ c. node_at c p)) (child_same t i (Some c) g) ∙ further c e

-- what stands at a path in the tree without contexts
abbrev Stood : Path → Node → Node → Type 0
Stood p t n = (m : Node) × (node_at t p ≡ Some m) × (by_texts m ≡ n)

back : (p : Path) (t n : Node) → node_at (by_texts t) p ≡ Some n → Stood p t n
back [] t n e = (t, refl, some_same e)
back (i ∷ p) t n e = by (λ c g. back p c n g) (child t i) refl
  where
    by : ((c : Node) → node_at (by_texts c) p ≡ Some n → Stood p c n) → (o : Option Node) → child t i ≡ o → Stood (i ∷ p) t n
    by further None g = let none : given None None (λ c. node_at c p) ≡ Some n = ap (λ o. given o None (λ c. node_at c p)) (sym (child_same t i None g)) ∙ e in absurd (cc)
    by further (Some c) g =
        let (m, at, is) = further c (ap (λ o. given o None (λ c. node_at c p)) (sym (child_same t i (Some c) g)) ∙ e) in
        (m, ap (λ o. given o None (λ c. node_at c p)) g ∙ at, is)

-- ---- tests

module _ (test : Node-F Node → Bool) (blind : (t : Node) → test (out-Node (by_texts t)) ≡ test (out-Node t)) where
  up : (t : Node) → HasNode test t → HasNode test (by_texts t)
  up t (p, n, e, r) = (p, by_texts n, there p t n e, blind n ∙ r)

  down : (t : Node) → HasNode test (by_texts t) → HasNode test t
  down t (p, n, e, r) = let (m, at, is) = back p t n e in (p, m, at, sym (blind m) ∙ ap (λ n. test (out-Node n)) is ∙ r)

  -- none passes in the one exactly if none does in the other
  pub none_same : (t : Node) → (HasNode test (by_texts t) → ⊥) ↔ (HasNode test t → ⊥)
  none_same t = (λ f h. f (up t h), λ f h. f (down t h))
