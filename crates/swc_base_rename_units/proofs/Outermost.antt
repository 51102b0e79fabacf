-- Units of a node's child, and units of the node: outermost ones without a reader of names.
use Rattle.std.proofs.Common.{◌≡◌, ℕ, IsTrue, ◌⊎◌, inl, inr, Some, [], ◌∷◌, ◌++◌, refl, sym, ap, ◌∙◌, subst}
use Rattle.swc_tree_node.specs.declared.node.Node.{Node, out-Node}
use Rattle.swc_tree_scoping.specs.Places.{Path, child}
use Rattle.swc_base_rename_units.specs.Eval.{HasEval, node_at}
use Rattle.swc_base_rename_units.specs.Units.{IsOutermost, IsUnit, LeadsOn, is_unit_below}
use Rattle.swc_base_rename_units.proofs.Readers.{first_step, node_below, one_child, some_same}

-- whether a child is a unit, by its number
abbrev pub UnitAt : Node → ℕ → Node → Type 0
UnitAt t i c = IsTrue (is_unit_below (out-Node t) i (out-Node c))

pub unit_here : (t c : Node) (i : ℕ) → child t i ≡ Some c → UnitAt t i c → IsUnit t (i ∷ []) c
unit_here t c i e h = record { above = []; parent = t; index = i; path = refl; parent_there = refl; there = e; is_unit = h }

pub unit_below : (t c u : Node) (i : ℕ) (p : Path) → child t i ≡ Some c → IsUnit c p u → IsUnit t (i ∷ p) u
unit_below t c u i p e h = record {
  above = i ∷ h.above;
  parent = h.parent;
  index = h.index;
  path = ap (λ p. i ∷ p) h.path;
  parent_there = node_below t c i h.above e ∙ h.parent_there;
  there = h.there;
  is_unit = h.is_unit;
}

-- a unit of a node is one of its children, or a unit of one
abbrev pub UnitFrom : Node → Path → Node → Type 0
UnitFrom t p u = ((i : ℕ) × (p ≡ i ∷ []) × (child t i ≡ Some u) × UnitAt t i u) ⊎ ((i : ℕ) × (q : Path) × (c : Node) × (p ≡ i ∷ q) × (child t i ≡ Some c) × IsUnit c q u)

pub unit_from : (t u : Node) (p : Path) → IsUnit t p u → UnitFrom t p u
unit_from t u p h = by h.above h.parent h.index h.path h.parent_there h.there h.is_unit
  where
    by : (above : Path) (parent : Node) (index : ℕ) → p ≡ above ++ (index ∷ []) → node_at t above ≡ Some parent → child parent index ≡ Some u → UnitAt parent index u → UnitFrom t p u
    by [] parent index path stands there is_unit =
        let same : parent ≡ t = sym (some_same stands) in
        inl (index, path, subst (λ n. child n index ≡ Some u) same there, subst (λ n. UnitAt n index u) same is_unit)
    by (i ∷ above) parent index path stands there is_unit =
        let s = first_step t parent i above stands in
        inr (i, above ++ (index ∷ []), s.0, path, s.1, record { above = above; parent = parent; index = index; path = refl; parent_there = s.2; there = there; is_unit = is_unit })

-- paths
same_first : {i j : ℕ} {p q : Path} → i ∷ p ≡ j ∷ q → i ≡ j
same_first h = cc

same_rest : {i j : ℕ} {p q : Path} → i ∷ p ≡ j ∷ q → p ≡ q
same_rest h = cc

pub some_path : (above : Path) (index : ℕ) → (k : ℕ) × (rest : Path) × (above ++ (index ∷ []) ≡ k ∷ rest)
some_path [] index = (index, [], refl)
some_path (i ∷ above) index = (i, above ++ (index ∷ []), refl)

-- a unit stands at a path of one step at least
pub unit_path : (t u : Node) (p : Path) → IsUnit t p u → (k : ℕ) × (rest : Path) × (p ≡ k ∷ rest)
unit_path t u p h = let s = some_path h.above h.index in (s.0, s.1, h.path ∙ s.2)

pub leads_below : (i : ℕ) (q p : Path) → LeadsOn q p → LeadsOn (i ∷ q) (i ∷ p)
leads_below i q p h = (h.0, h.1, ap (λ p. i ∷ p) h.2)

-- no unit stands round a child
pub none_round : (t v : Node) (q : Path) (i : ℕ) → IsUnit t q v → LeadsOn q (i ∷ []) → ⊥
none_round t v q i h (k, below, e) = by q e (unit_path t v q h)
  where
    by : (q : Path) → i ∷ [] ≡ q ++ (k ∷ below) → (j : ℕ) × (rest : Path) × (q ≡ j ∷ rest) → ⊥
    by [] e s = let never = s.2 in absurd (cc)
    by (j ∷ []) e s = absurd (cc)
    by (j ∷ l ∷ q) e s = absurd (cc)

pub outermost_here : (t c : Node) (i : ℕ) → child t i ≡ Some c → UnitAt t i c → (HasEval c → ⊥) → IsOutermost t (i ∷ []) c
outermost_here t c i e h free = record { unit = unit_here t c i e h; free = free; round = λ q v w leads. absurd (none_round t v q i w leads) }

-- an outermost unit of a child, which is none itself or has a reader of names
pub outermost_below : (t c u : Node) (i : ℕ) (p : Path) → child t i ≡ Some c → (UnitAt t i c → HasEval c) → IsOutermost c p u → IsOutermost t (i ∷ p) u
outermost_below t c u i p e reads h = record { unit = unit_below t c u i p e h.unit; free = h.free; round = λ q v w leads. round q v (unit_from t v q w) leads }
  where
    round : (q : Path) (v : Node) → UnitFrom t q v → LeadsOn q (i ∷ p) → HasEval v
    round q v (inl (j, path, there, is_unit)) (k, below, leads) =
        let on : i ∷ p ≡ j ∷ (k ∷ below) = leads ∙ ap (λ q. q ++ (k ∷ below)) path in
        let one : j ≡ i = sym (same_first on) in
        let same : c ≡ v = one_child t i c v e (subst (λ j. child t j ≡ Some v) one there) in
        subst HasEval same (reads (subst (λ v. UnitAt t i v) (sym same) (subst (λ j. UnitAt t j v) one is_unit)))
    round q v (inr (j, r, d, path, there, unit)) (k, below, leads) =
        let on : i ∷ p ≡ j ∷ (r ++ (k ∷ below)) = leads ∙ ap (λ q. q ++ (k ∷ below)) path in
        let one : j ≡ i = sym (same_first on) in
        let same : d ≡ c = one_child t i d c (subst (λ j. child t j ≡ Some d) one there) e in
        h.round r v (subst (λ d. IsUnit d r v) same unit) (k, below, same_rest on)

-- an outermost unit of a node is one of its children, or an outermost unit of one
abbrev pub OutermostFrom : Node → Path → Node → Type 0
OutermostFrom t p u =
    ((i : ℕ) × (p ≡ i ∷ []) × (child t i ≡ Some u) × UnitAt t i u × (HasEval u → ⊥))
    ⊎ ((i : ℕ) × (q : Path) × (c : Node) × (p ≡ i ∷ q) × (child t i ≡ Some c) × (UnitAt t i c → HasEval c) × IsOutermost c q u)

pub outermost_from : (t u : Node) (p : Path) → IsOutermost t p u → OutermostFrom t p u
outermost_from t u p h = by (unit_from t u p h.unit)
  where
    by : UnitFrom t p u → OutermostFrom t p u
    by (inl (i, path, there, is_unit)) = inl (i, path, there, is_unit, h.free)
    by (inr (i, q, c, path, there, unit)) =
        let s = unit_path c u q unit in
        let reads : UnitAt t i c → HasEval c = λ w. h.round (i ∷ []) c (unit_here t c i there w) (s.0, s.1, path ∙ ap (λ q. i ∷ q) s.2) in
        let round : (r : Path) (v : Node) → IsUnit c r v → LeadsOn r q → HasEval v
        = λ r v w leads. h.round (i ∷ r) v (unit_below t c v i r there w) (subst (LeadsOn (i ∷ r)) (sym path) (leads_below i r q leads)) in
        inr (i, q, c, path, there, reads, record { unit = unit; free = h.free; round = round })
