-- From the children of a node to the node: the units named, and those refused.
use Rattle.std.proofs.Common.{◌≡◌, ℕ, IsTrue, ◌⊎◌, inl, inr, Some, List, [], ◌∷◌, length, map, refl, sym, ap, ◌∙◌, subst}
use Rattle.std.specs.List.{slice_get}
use Rattle.swc_tree_marks.specs.declared.error.PassError.{PassError}
use Rattle.swc_tree_node.specs.declared.kind.Kind.{Kind}
use Rattle.swc_tree_node.specs.declared.kind.Kind.TheVariants as kind
use Rattle.swc_tree_node.specs.declared.node.Node.{Node, List as Many, Tree, map-Node, out-Node}
use Rattle.swc_tree_node.specs.declared.node.Node.TheOpen.{Node-F}
use Rattle.swc_tree_node.specs.declared.node.Node.TheVariants.{outs-List, outs-Tree}
use Rattle.swc_tree_scoping.specs.Places.{Path, child, children_in}
use Rattle.swc_base_rename_units.specs.declared.units.Above.TheVariants.{Items, Fields}
use Rattle.swc_base_rename_units.specs.Eval.{HasEval, node_at}
use Rattle.swc_base_rename_units.specs.Units.{HasUnits, IsOutermost, LeadsOn, RefusesUnit, is_unit_below, shape}
use Rattle.swc_base_rename_units.specs.Walk.{EachBecomes, IsChildNamed, RefusesEach, is_unit_at}
use Rattle.swc_base_rename_units.proofs.Outermost.{OutermostFrom, UnitAt, leads_below, outermost_below, outermost_from, outermost_here}
use Rattle.swc_base_rename_units.proofs.Readers.{Decided, first_step, node_below, reads_decided, some_same}

-- each child has become one with its units named
abbrev pub ChildrenNamed : (Node → Node → Type 0) → Node → Node → Type 0
ChildrenNamed becomes t after = (i : ℕ) (c : Node) → child t i ≡ Some c → (d : Node) × (child after i ≡ Some d) × IsChildNamed becomes (is_unit_below (out-Node t) i (out-Node c)) c d

module _ (becomes : Node → Node → Type 0) (t after : Node) (each : ChildrenNamed becomes t after) where
  -- where outermost units stand
  lifted_units : (p : Path) (u : Node) → IsOutermost t p u → (v : Node) × (node_at after p ≡ Some v) × becomes u v
  lifted_units p u h = by (outermost_from t u p h)
    where
      by : OutermostFrom t p u → (v : Node) × (node_at after p ≡ Some v) × becomes u v
      by (inl (i, path, there, is_unit, free)) =
          let d = each i u there in
          (d.0, ap (node_at after) path ∙ node_below after d.0 i [] d.1, d.2.alone is_unit free)
      by (inr (i, q, c, path, there, reads, outermost)) =
          let d = each i c there in
          let below : HasUnits becomes c d.0 = d.2.below reads in
          let v = below.units q u outermost in
          (v.0, ap (node_at after) path ∙ node_below after d.0 i q d.1 ∙ v.1, v.2)

  -- ... and everywhere else
  abbrev Elsewhere : Node → Path → Type 0
  Elsewhere t p = (q : Path) (u : Node) → IsOutermost t q u → ((q ≡ p) ⊎ LeadsOn q p) → ⊥

  from_first : (i : ℕ) (p : Path) → (i ∷ [] ≡ i ∷ p) ⊎ LeadsOn (i ∷ []) (i ∷ p)
  from_first i [] = inl refl
  from_first i (k ∷ p) = inr (k, p, refl)

  on_below : (i : ℕ) (q p : Path) → (q ≡ p) ⊎ LeadsOn q p → (i ∷ q ≡ i ∷ p) ⊎ LeadsOn (i ∷ q) (i ∷ p)
  on_below i q p (inl e) = inl (ap (λ p. i ∷ p) e)
  on_below i q p (inr l) = inr (leads_below i q p l)

  -- a child that an outermost unit does not reach is none without a reader of names
  child_reads : (i : ℕ) (c : Node) (p : Path) → child t i ≡ Some c → Elsewhere t (i ∷ p) → UnitAt t i c → HasEval c
  child_reads i c p there elsewhere is_unit = by (reads_decided c)
    where
      by : Decided (HasEval c) → HasEval c
      by (inl h) = h
      by (inr free) = absurd (elsewhere (i ∷ []) c (outermost_here t c i there is_unit free) (from_first i p))

  lifted_others : shape after ≡ shape t → (p : Path) (n : Node) → node_at t p ≡ Some n → Elsewhere t p → (m : Node) × (node_at after p ≡ Some m) × (shape m ≡ shape n)
  lifted_others same [] n stands elsewhere = (after, refl, same ∙ ap shape (some_same stands))
  lifted_others same (i ∷ p) n stands elsewhere =
      let s = first_step t n i p stands in
      let reads : UnitAt t i s.0 → HasEval s.0 = child_reads i s.0 p s.1 elsewhere in
      let d = each i s.0 s.1 in
      let below : HasUnits becomes s.0 d.0 = d.2.below reads in
      let m = below.others p n s.2 (λ q u outermost on. elsewhere (i ∷ q) u (outermost_below t s.0 u i q s.1 reads outermost) (on_below i q p on)) in
      (m.0, node_below after d.0 i p d.1 ∙ m.1, m.2)

  pub lifted : shape after ≡ shape t → HasUnits becomes t after
  lifted same = record { units = lifted_units; others = lifted_others same }

-- by what the children are of
by_kind : (k : Kind) (ts : List Node) (i : ℕ) (c : Node-F Node) → is_unit_at (Fields k) i c ≡ is_unit_below (Node-F.Tree k ts) i c
by_kind kind.FnDecl ts i c = refl
by_kind k ts i c = refl

as_long : (ts us : List Node) → length us ≡ length ts → map {A = Node} {B = Unit {0}} (λ c. tt) us ≡ map (λ c. tt) ts
as_long [] [] h = refl
as_long [] (u ∷ us) h = absurd (cc)
as_long (t ∷ ts) [] h = absurd (cc)
as_long (t ∷ ts) (u ∷ us) h = ap (λ l. tt ∷ l) (as_long ts us (cc))

pub list_named : (becomes : Node → Node → Type 0) (t : Node) (ts us : List Node) → t ≡ Many ts → EachBecomes becomes Items ts us → HasUnits becomes t (Many us)
list_named becomes t ts us is h = lifted becomes t (Many us) each same
  where
    out : out-Node t ≡ Node-F.List ts
    out = ap out-Node is ∙ outs-List ts

    each : ChildrenNamed becomes t (Many us)
    each i c there =
        let d = h.each i c (sym (ap (λ y. slice_get (children_in y) i) out) ∙ there) in
        (d.0, ap (λ y. slice_get (children_in y) i) (outs-List us) ∙ d.1, subst (λ y. IsChildNamed becomes (is_unit_below y i (out-Node c)) c d.0) (sym out) d.2)

    same : shape (Many us) ≡ shape t
    same = ap (λ y. map-Node Node (Unit {0}) (λ c. tt) y) (outs-List us) ∙ ap (λ l. Node-F.List l) (as_long ts us h.as_many) ∙ sym (ap (λ y. map-Node Node (Unit {0}) (λ c. tt) y) out)

pub tree_named : (becomes : Node → Node → Type 0) (t : Node) (k : Kind) (ts us : List Node) → t ≡ Tree k ts → EachBecomes becomes (Fields k) ts us → HasUnits becomes t (Tree k us)
tree_named becomes t k ts us is h = lifted becomes t (Tree k us) each same
  where
    out : out-Node t ≡ Node-F.Tree k ts
    out = ap out-Node is ∙ outs-Tree k ts

    each : ChildrenNamed becomes t (Tree k us)
    each i c there =
        let d = h.each i c (sym (ap (λ y. slice_get (children_in y) i) out) ∙ there) in
        let test : is_unit_at (Fields k) i (out-Node c) ≡ is_unit_below (out-Node t) i (out-Node c) = by_kind k ts i (out-Node c) ∙ sym (ap (λ y. is_unit_below y i (out-Node c)) out) in
        (d.0, ap (λ y. slice_get (children_in y) i) (outs-Tree k us) ∙ d.1, subst (λ b. IsChildNamed becomes b c d.0) test d.2)

    same : shape (Tree k us) ≡ shape t
    same = ap (λ y. map-Node Node (Unit {0}) (λ c. tt) y) (outs-Tree k us) ∙ ap (λ l. Node-F.Tree k l) (as_long ts us h.as_many) ∙ sym (ap (λ y. map-Node Node (Unit {0}) (λ c. tt) y) out)

-- a leaf stays
pub leaf_named : (becomes : Node → Node → Type 0) (t : Node) → children_in (out-Node t) ≡ [] → HasUnits becomes t t
leaf_named becomes t none = lifted becomes t t (λ i c there. absurd (never i c there)) refl
  where
    never : (i : ℕ) (c : Node) → child t i ≡ Some c → ⊥
    never i c there = let no : slice_get {X = Node} [] i ≡ Some c = ap (λ l. slice_get l i) (sym none) ∙ there in absurd (cc)

-- what was refused
pub lifted_refusal : (refuses : Node → PassError → Type 0) (t : Node) (e : PassError) (i : ℕ) (c : Node) → child t i ≡ Some c
    → (UnitAt t i c × (HasEval c → ⊥) × refuses c e) ⊎ ((UnitAt t i c → HasEval c) × RefusesUnit refuses c e) → RefusesUnit refuses t e
lifted_refusal refuses t e i c there (inl (is_unit, free, why)) = (i ∷ [], c, outermost_here t c i there is_unit free, why)
lifted_refusal refuses t e i c there (inr (reads, below)) = by below
  where
    by : RefusesUnit refuses c e → RefusesUnit refuses t e
    by (p, u, outermost, why) = (i ∷ p, u, outermost_below t c u i p there reads outermost, why)

pub list_refused : (refuses : Node → PassError → Type 0) (t : Node) (ts : List Node) (e : PassError) → t ≡ Many ts → RefusesEach refuses Items ts e → RefusesUnit refuses t e
list_refused refuses t ts e is (i, c, there, why) =
    let out : out-Node t ≡ Node-F.List ts = ap out-Node is ∙ outs-List ts in
    lifted_refusal refuses t e i c (ap (λ y. slice_get (children_in y) i) out ∙ there)
    (subst (λ b. (IsTrue b × (HasEval c → ⊥) × refuses c e) ⊎ ((IsTrue b → HasEval c) × RefusesUnit refuses c e)) (sym (ap (λ y. is_unit_below y i (out-Node c)) out)) why)

pub tree_refused : (refuses : Node → PassError → Type 0) (t : Node) (k : Kind) (ts : List Node) (e : PassError) → t ≡ Tree k ts → RefusesEach refuses (Fields k) ts e → RefusesUnit refuses t e
tree_refused refuses t k ts e is (i, c, there, why) =
    let out : out-Node t ≡ Node-F.Tree k ts = ap out-Node is ∙ outs-Tree k ts in
    lifted_refusal refuses t e i c (ap (λ y. slice_get (children_in y) i) out ∙ there)
    (subst (λ b. (IsTrue b × (HasEval c → ⊥) × refuses c e) ⊎ ((IsTrue b → HasEval c) × RefusesUnit refuses c e)) (by_kind k ts i (out-Node c) ∙ sym (ap (λ y. is_unit_below y i (out-Node c)) out)) why)
