-- What stands at a path of a tree that fits, and what follows where it can't be told which of two cases holds.
use Rattle.std.proofs.Common.{◌≡◌, ℕ, ◌⊎◌, inl, inr, Option, Some, None, [], ◌∷◌, ◌++◌, refl, sym, ap, ◌∙◌, subst}
use Rattle.swc_tree_node.specs.declared.node.Node.{Node, out-Node}
use Rattle.swc_tree_node.specs.declared.node.Node.TheOpen.{Node-F}
use Rattle.swc_tree_scoping.specs.Places.{Path, child, children_in, given}
use Rattle.swc_tree_scoping.proofs.Remarked.{list_is, tree_is}
use Rattle.swc_tree_grammar.proofs.Induction.{Each}
use Rattle.swc_base_rename_units.specs.Eval.{node_at}
use Rattle.text_kept_laws.proofs.Free.{at_each, some_same}
use Rattle.text_kept_laws.proofs.Fitting.{Fitting, list_fitting, tree_fitting}

-- ---- either case

abbrev pub May : Type 0 → Type 0
May A = (A → ⊥) → ⊥

pub either : (A : Type 0) → May (A ⊎ (A → ⊥))
either A refute = refute (inr (λ a. refute (inl a)))

pub may_then : {A B : Type 0} → May A → (A → May B) → May B
may_then m f refute = m (λ a. f a refute)

-- ---- paths

children_fit : (t : Node) → Fitting t → Each Fitting (children_in (out-Node t))
children_fit t f = by (out-Node t) refl
  where
    by : (y : Node-F Node) → out-Node t ≡ y → Each Fitting (children_in y)
    by (Node-F.List ts) o = list_fitting ts (subst Fitting (list_is t ts o) f)
    by (Node-F.Tree k ts) o = tree_fitting k ts (subst Fitting (tree_is t k ts o) f)
    by (Node-F.Identifier k i) o = tt
    by Node-F.Absent o = tt
    by (Node-F.Flag x) o = tt
    by (Node-F.Word x) o = tt
    by (Node-F.Text x) o = tt
    by (Node-F.Span x) o = tt

pub fits_at : (p : Path) (t n : Node) → Fitting t → node_at t p ≡ Some n → Fitting n
fits_at [] t n f e = subst Fitting (some_same e) f
fits_at (i ∷ p) t n f e = by (λ c g. fits_at p c n g) (child t i) refl e
  where
    by : ((c : Node) → Fitting c → node_at c p ≡ Some n → Fitting n) → (o : Option Node) → child t i ≡ o → given o None (λ c. node_at c p) ≡ Some n → Fitting n
    by further None g e = absurd (cc)
    by further (Some c) g e = further c (at_each Fitting (children_in (out-Node t)) (children_fit t f) i c g) e

-- one step further
pub further : (p : Path) (t n : Node) (i : ℕ) → node_at t p ≡ Some n → node_at t (p ++ i ∷ []) ≡ child n i
further [] t n i e = whole (child t i) ∙ ap (λ t. child t i) (some_same e)
  where
    whole : (o : Option Node) → given o None (λ c. node_at c []) ≡ o
    whole None = refl
    whole (Some c) = refl
further (j ∷ p) t n i e = by (λ c g. further p c n i g) (child t j) refl e
  where
    by : ((c : Node) → node_at c p ≡ Some n → node_at c (p ++ i ∷ []) ≡ child n i) → (o : Option Node) → child t j ≡ o → given o None (λ c. node_at c p) ≡ Some n
        → given o None (λ c. node_at c (p ++ i ∷ [])) ≡ child n i
    by more None g e = absurd (cc)
    by more (Some c) g e = more c e

pub not_nothing : (r : Path) (j : ℕ) (below : Path) → [] ≡ r ++ j ∷ below → ⊥
not_nothing [] j below e = absurd (cc)
not_nothing (b ∷ r) j below e = absurd (cc)

-- a path that leads on to one step further leads on, or is the path
pub one_further : (r q : Path) (i j : ℕ) (below : Path) → q ++ i ∷ [] ≡ r ++ j ∷ below → (r ≡ q) ⊎ ((k : ℕ) × (more : Path) × (q ≡ r ++ k ∷ more))
one_further [] [] i j below e = inl refl
one_further [] (a ∷ q) i j below e = inr (a, q, refl)
one_further (b ∷ r) [] i j below e = let rest : [] ≡ r ++ j ∷ below = cc in absurd (not_nothing r j below rest)
one_further (b ∷ r) (a ∷ q) i j below e =
    let first : a ≡ b = cc in
    let rest : q ++ i ∷ [] ≡ r ++ j ∷ below = cc in
    by first (one_further r q i j below rest)
  where
    by : a ≡ b → (r ≡ q) ⊎ ((k : ℕ) × (more : Path) × (q ≡ r ++ k ∷ more)) → (b ∷ r ≡ a ∷ q) ⊎ ((k : ℕ) × (more : Path) × (a ∷ q ≡ b ∷ (r ++ k ∷ more)))
    by first (inl same) = inl (ap (λ x. x ∷ r) (sym first) ∙ ap (λ l. a ∷ l) same)
    by first (inr (k, more, is)) = inr (k, more, ap (λ l. a ∷ l) is ∙ ap (λ x. x ∷ (r ++ k ∷ more)) first)
