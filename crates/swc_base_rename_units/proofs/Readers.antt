-- What reads names in a tree: at the node itself or in one of its children, and whether anything does.
use Rattle.std.proofs.Common.{◌≡◌, ◌↔◌, ℕ, zero, suc, ◌+◌, ◌<◌, Bool, true, false, IsTrue, ◌⊎◌, inl, inr, Option, Some, None, List, [], ◌∷◌, refl, sym, ap, ◌∙◌, subst, arith}
use Rattle.std.specs.List.{slice_get}
use Rattle.swc_tree_node.specs.declared.kind.Kind.{Kind}
use Rattle.swc_tree_node.specs.declared.node.Node.{Node, List as Many, Tree, out-Node, roll-Node, roll-out-Node}
use Rattle.swc_tree_node.specs.declared.node.Node.TheVariants.{outs-List, outs-Tree, rolls-List, rolls-Tree}
use Rattle.swc_tree_node.specs.declared.node.Node.TheOpen.{Node-F}
use Rattle.swc_tree_node.specs.Parts.{has_parts, has_parts_in}
use Rattle.swc_tree_scoping.specs.Places.{Path, child, children_in, given}
use Rattle.swc_tree_scoping.proofs.Under.{by_children}
use Rattle.swc_base_rename_units.specs.Eval.{AnyHasEval, HasEval, node_at, reads_names}
use Rattle.swc_base_rename_units.proofs.Steps.{parted}

-- what a path goes to, by its first step
pub some_same : {X : Type 0} {a b : X} → Some a ≡ Some b → a ≡ b
some_same h = cc

pub one_child : (t : Node) (i : ℕ) (c d : Node) → child t i ≡ Some c → child t i ≡ Some d → c ≡ d
one_child t i c d e f = some_same (sym e ∙ f)

pub node_below : (t c : Node) (i : ℕ) (p : Path) → child t i ≡ Some c → node_at t (i ∷ p) ≡ node_at c p
node_below t c i p e = ap (λ o. given o None (λ c. node_at c p)) e

pub first_step : (t n : Node) (i : ℕ) (p : Path) → node_at t (i ∷ p) ≡ Some n → (c : Node) × (child t i ≡ Some c) × (node_at c p ≡ Some n)
first_step t n i p h = by (child t i) refl
  where
    by : (o : Option Node) → child t i ≡ o → (c : Node) × (child t i ≡ Some c) × (node_at c p ≡ Some n)
    by None e = let none : given None None (λ c. node_at c p) ≡ Some n = ap (λ o. given o None (λ c. node_at c p)) (sym e) ∙ h in absurd (cc)
    by (Some c) e = (c, e, sym (node_below t c i p e) ∙ h)

-- it stands at the node, or in a child
abbrev pub ReadsBelow : Node → Type 0
ReadsBelow t = IsTrue (reads_names (out-Node t)) ⊎ AnyHasEval (children_in (out-Node t))

pub reads_open : (t : Node) → HasEval t → ReadsBelow t
reads_open t h = by h.0 h.1 h.2 h.3
  where
    by : (p : Path) (n : Node) → node_at t p ≡ Some n → IsTrue (reads_names (out-Node n)) → ReadsBelow t
    by [] n e r = inl (subst (λ n. IsTrue (reads_names (out-Node n))) (sym (some_same e)) r)
    by (i ∷ p) n e r = let s = first_step t n i p e in inr (i, s.0, s.1, (p, n, s.2, r))

pub reads_here : (t : Node) → IsTrue (reads_names (out-Node t)) → HasEval t
reads_here t h = ([], t, refl, h)

pub reads_below : (t : Node) → AnyHasEval (children_in (out-Node t)) → HasEval t
reads_below t h = by h.0 h.1 h.2 h.3.0 h.3.1 h.3.2 h.3.3
  where
    by : (i : ℕ) (c : Node) → child t i ≡ Some c → (p : Path) (n : Node) → node_at c p ≡ Some n → IsTrue (reads_names (out-Node n)) → HasEval t
    by i c e p n f r = (i ∷ p, n, node_below t c i p e ∙ f, r)

-- by the children, where the layer is known
pub reads_in : (t : Node) (y : Node-F Node) → out-Node t ≡ y → IsTrue (reads_names y) ⊎ AnyHasEval (children_in y) → HasEval t
reads_in t y e (inl r) = reads_here t (subst (λ y. IsTrue (reads_names y)) (sym e) r)
reads_in t y e (inr r) = reads_below t (subst (λ y. AnyHasEval (children_in y)) (sym e) r)

pub reads_out : (t : Node) (y : Node-F Node) → out-Node t ≡ y → HasEval t → IsTrue (reads_names y) ⊎ AnyHasEval (children_in y)
reads_out t y e h = subst (λ y. IsTrue (reads_names y) ⊎ AnyHasEval (children_in y)) e (reads_open t h)

-- each tree has a reader or has none
abbrev pub Decided : Type 0 → Type 0
Decided P = P ⊎ (P → ⊥)

any_decided : (ts : List Node) → ((i : ℕ) (c : Node) → slice_get ts i ≡ Some c → Decided (HasEval c)) → Decided (AnyHasEval ts)
any_decided [] h = inr none
  where
    none : AnyHasEval [] → ⊥
    none (i, c, e, r) = absurd (cc)
any_decided (t ∷ ts) h = by (h zero t refl) (any_decided ts (λ i c e. h (suc i) c e))
  where
    none : (HasEval t → ⊥) → (AnyHasEval ts → ⊥) → AnyHasEval (t ∷ ts) → ⊥
    none n m (zero, c, e, r) = n (subst HasEval (sym (some_same e)) r)
    none n m (suc i, c, e, r) = m (i, c, e, r)

    by : Decided (HasEval t) → Decided (AnyHasEval ts) → Decided (AnyHasEval (t ∷ ts))
    by (inl r) m = inl (zero, t, refl, r)
    by (inr n) (inl (i, c, e, r)) = inl (suc i, c, e, r)
    by (inr n) (inr m) = inr (none n m)

true_decided : (b : Bool) → Decided (IsTrue b)
true_decided true = inl refl
true_decided false = inr (λ h. absurd (cc))

pub reads_decided : (t : Node) → Decided (HasEval t)
reads_decided t = by_children (λ t. Decided (HasEval t)) step t
  where
    step : (t : Node) → ((i : ℕ) (c : Node) → child t i ≡ Some c → Decided (HasEval c)) → Decided (HasEval t)
    step t below = by (true_decided (reads_names (out-Node t))) (any_decided (children_in (out-Node t)) below)
      where
        none : (IsTrue (reads_names (out-Node t)) → ⊥) → (AnyHasEval (children_in (out-Node t)) → ⊥) → ReadsBelow t → ⊥
        none n m (inl r) = n r
        none n m (inr r) = m r

        by : Decided (IsTrue (reads_names (out-Node t))) → Decided (AnyHasEval (children_in (out-Node t))) → Decided (HasEval t)
        by (inl r) m = inl (reads_here t r)
        by (inr n) (inl r) = inl (reads_below t r)
        by (inr n) (inr m) = inr (λ h. none n m (reads_open t h))

-- what a walk answers at each form of a node
pub at_list : (b : Bool) (t : Node) (ts us : List Node) → t ≡ Many ts → us ≡ ts → IsTrue b ↔ AnyHasEval us → IsTrue b ↔ HasEval t
at_list b t ts us is same h = (λ g. reads_in t (Node-F.List ts) out (inr (subst AnyHasEval same (h.0 g))), λ r. down (reads_out t (Node-F.List ts) out r))
  where
    out : out-Node t ≡ Node-F.List ts
    out = ap out-Node is ∙ outs-List ts

    down : IsTrue false ⊎ AnyHasEval ts → IsTrue b
    down (inl never) = absurd (cc)
    down (inr r) = h.1 (subst AnyHasEval (sym same) r)

pub at_reader : (b : Bool) (t : Node) (k : Kind) (ts us : List Node) → t ≡ Tree k ts → us ≡ ts → b ≡ reads_names (Node-F.Tree k us) → b ≡ true → IsTrue b ↔ HasEval t
at_reader b t k ts us is same reads found = (λ g. reads_in t (Node-F.Tree k ts) (ap out-Node is ∙ outs-Tree k ts) (inl (ap (λ us. reads_names (Node-F.Tree k us)) (sym same) ∙ sym reads ∙ found)), λ r. found)

pub at_tree : (a b : Bool) (t : Node) (k : Kind) (ts us vs : List Node) → t ≡ Tree k ts → us ≡ ts → vs ≡ ts → a ≡ reads_names (Node-F.Tree k us) → a ≡ false → IsTrue b ↔ AnyHasEval vs
    → IsTrue b ↔ HasEval t
at_tree a b t k ts us vs is one other reads lost h = (λ g. reads_in t (Node-F.Tree k ts) out (inr (subst AnyHasEval other (h.0 g))), λ r. down (reads_out t (Node-F.Tree k ts) out r))
  where
    out : out-Node t ≡ Node-F.Tree k ts
    out = ap out-Node is ∙ outs-Tree k ts

    reads_none : reads_names (Node-F.Tree k ts) ≡ false
    reads_none = ap (λ us. reads_names (Node-F.Tree k us)) (sym one) ∙ sym reads ∙ lost

    down : IsTrue (reads_names (Node-F.Tree k ts)) ⊎ AnyHasEval ts → IsTrue b
    down (inl r) = absurd (cc)
    down (inr r) = h.1 (subst AnyHasEval (sym other) r)

-- none of some trees has one, nor has the next
pub next_without : (ts : List Node) (i : ℕ) (t : Node) → slice_get ts i ≡ Some t → (HasEval t → ⊥) → ((k : ℕ) (c : Node) → k < i → slice_get ts k ≡ Some c → HasEval c → ⊥)
    → (k : ℕ) (c : Node) → k < i + 1 → slice_get ts k ≡ Some c → HasEval c → ⊥
next_without ts i t here none before k c below there h = by (parted k i (omega (arith, below)))
  where
    by : (k < i) ⊎ (k ≡ i) → ⊥
    by (inl less) = before k c less there h
    by (inr same) = none (subst HasEval (some_same (sym (subst (λ k. slice_get ts k ≡ Some c) same there) ∙ here)) h)

-- a node without parts has no children
abbrev pub IsIdle : Node-F Node → Type 0
IsIdle y = (children_in y ≡ []) × (reads_names y ≡ false)

none_if_idle : (t : Node) → IsIdle (out-Node t) → HasEval t → ⊥
none_if_idle t none h = down (reads_open t h)
  where
    down : ReadsBelow t → ⊥
    down (inl r) = let never : true ≡ false = sym r ∙ none.1 in absurd (cc)
    down (inr (i, c, e, r)) = let never : slice_get {X = Node} [] i ≡ Some c = ap (λ l. slice_get l i) (sym none.0) ∙ e in absurd (cc)

idle_without_parts : (y : Node-F Node) → has_parts_in y ≡ false → IsIdle y
idle_without_parts (Node-F.List ts) h = absurd (cc)
idle_without_parts (Node-F.Tree k ts) h = absurd (cc)
idle_without_parts y h = (refl, refl)

pub none_without_parts : (t : Node) → has_parts t ≡ false → HasEval t → ⊥
none_without_parts t h = none_if_idle t (idle_without_parts (out-Node t) h)

pub leaf : (t : Node) → ((ts : List Node) → t ≡ Many ts → ⊥) → ((k : Kind) (ts : List Node) → t ≡ Tree k ts → ⊥) → IsIdle (out-Node t)
leaf t no_list no_tree = by (out-Node t) (sym (roll-out-Node t))
  where
    by : (y : Node-F Node) → t ≡ roll-Node y → IsIdle y
    by (Node-F.List ts) e = absurd (no_list ts (e ∙ rolls-List ts))
    by (Node-F.Tree k ts) e = absurd (no_tree k ts (e ∙ rolls-Tree k ts))
    by y e = (refl, refl)

pub at_leaf : (t : Node) → ((ts : List Node) → t ≡ Many ts → ⊥) → ((k : Kind) (ts : List Node) → t ≡ Tree k ts → ⊥) → IsTrue false ↔ HasEval t
at_leaf t no_list no_tree = (λ g. absurd (cc), λ h. absurd (none_if_idle t (leaf t no_list no_tree) h))
