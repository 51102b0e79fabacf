-- What the third step makes of one node.
use Rattle.std.proofs.Common.{◌≡◌, ℕ, Bool, true, false, List, [], ◌∷◌, Option, Some, None, slice_set, refl, sym, ap, ◌∙◌}
use Rattle.std.specs.Prelude.{if◌then◌else◌}
use Rattle.std.specs.List.{slice_get}
use Rattle.swc_tree_node.specs.declared.kind.Kind.{Kind}
use Rattle.swc_tree_node.specs.declared.kind.Kind.TheVariants as kind
use Rattle.swc_tree_node.specs.declared.node.Node.{Node, Absent, Tree}
use Rattle.swc_tree_node.specs.declared.node.Node.TheVariants.{rolls-Tree}
use Rattle.swc_tree_node.specs.declared.node.Node.TheOpen.{Node-F}
use Rattle.swc_tree_grammar.specs.Kinds.{has_kind, is_block}
use Rattle.swc_tree_grammar.specs.Due.{Places, begin_step, begun}
use Rattle.swc_base_fixer_due.specs.declared.starts.Beginning.{Beginning}
use Rattle.swc_base_fixer_due.specs.declared.starts.Beginning.TheVariants as beginning
use Rattle.swc_base_fixer_due.specs.Begin.{beginning_for, may_begin}
use Rattle.swc_base_fixer_due.proofs.Fields.{second_is, third_is}

abbrev Found : Type 0
Found = Option (ℕ × Beginning)

abbrev found : Found → ℕ × Beginning
found None = (0, beginning.Body)
found (Some q) = q

same_found : (n i : ℕ) (x y : Beginning) → ◌≡◌ {A = Found} (Some (n, x)) (Some (i, y)) → (n ≡ i) × (x ≡ y)
same_found n i x y h = (ap (λ o. (found o).0) h, ap (λ o. (found o).1) h)

if_begun : (b : Bool) (n i : ℕ) (x y : Beginning) → ◌≡◌ {A = Found} (if◌then◌else◌ {A = Found} b None (Some (n, x))) (Some (i, y)) → (b ≡ false) × (n ≡ i) × (x ≡ y)
if_begun true n i x y h = absurd (cc)
if_begun false n i x y h = let q = same_found n i x y h in (refl, q.0, q.1)

if_no_begun : (b : Bool) (n : ℕ) (x : Beginning) → ◌≡◌ {A = Found} (if◌then◌else◌ {A = Found} b None (Some (n, x))) None → b ≡ true
if_no_begun true n x h = refl
if_no_begun false n x h = absurd (cc)

begun_at : (p : Places) (k : Kind) (ts : List Node) (i : ℕ) (x : Beginning) (e : Node) → beginning_for k ts ≡ Some (i, x) → slice_get ts i ≡ Some e
    → Tree k (slice_set (slice_set ts i Absent) i (begun p (may_begin x) e)) ≡ begin_step p (Node-F.Tree k ts)
begun_at p kind.ExprStmt (a ∷ b ∷ []) i x e h g =
    let q = same_found 1 i beginning.Statement x h in rw (← q.0, ← q.1, ← (second_is a b [] i e (ap Some q.0) g).1) refl
begun_at p kind.ExportDefaultExpr (a ∷ b ∷ []) i x e h g =
    let q = same_found 1 i beginning.Export x h in rw (← q.0, ← q.1, ← (second_is a b [] i e (ap Some q.0) g).1) refl
begun_at p kind.ArrowExpr (a ∷ b ∷ c ∷ d ∷ []) i x e h g =
    let q = if_begun (has_kind is_block c) 2 i beginning.Body x h in rw (← q.1, ← q.2, ← (third_is a b c (d ∷ []) i e (ap Some q.1) g).1, q.0) refl
begun_at p k ts i x e h g = absurd (cc)

begun_none : (p : Places) (k : Kind) (ts : List Node) → beginning_for k ts ≡ None → Tree k ts ≡ begin_step p (Node-F.Tree k ts)
begun_none p kind.ExprStmt (a ∷ b ∷ []) h = absurd (cc)
begun_none p kind.ExportDefaultExpr (a ∷ b ∷ []) h = absurd (cc)
begun_none p kind.ArrowExpr (a ∷ b ∷ c ∷ d ∷ []) h = rw (if_no_begun (has_kind is_block c) 2 beginning.Body h) refl
begun_none p k ts h = sym (rolls-Tree k ts)

-- an expression was taken out, and put back as it may begin
pub begun_back : (p : Places) (k : Kind) (ts us out back : List Node) (i : ℕ) (x : Beginning) (e new : Node) → us ≡ ts → Some (i, x) ≡ beginning_for k us → slice_get ts i ≡ Some e
    → out ≡ slice_set ts i Absent → new ≡ begun p (may_begin x) e → back ≡ slice_set out i new → Tree k back ≡ begin_step p (Node-F.Tree k ts)
begun_back p k ts us out back i x e new same there here o n b = rw (b, n, o) (begun_at p k ts i x e (ap (beginning_for k) (sym same) ∙ sym there) here)

pub begun_by_none : (p : Places) (k : Kind) (ts us : List Node) → us ≡ ts → None ≡ beginning_for k us → Tree k ts ≡ begin_step p (Node-F.Tree k ts)
begun_by_none p k ts us same none = begun_none p k ts (ap (beginning_for k) (sym same) ∙ sym none)
