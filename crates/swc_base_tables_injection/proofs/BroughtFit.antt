-- A program with helpers brought in from outside fits where it did.
use Rattle.std.proofs.Common.{◌≡◌, ℕ, Some, Result, Ok, Err, IfOk, List, map, subst, sym, ap, ◌∙◌}
use Rattle.swc_tree_node.specs.declared.kind.Kind.{Kind}
use Rattle.swc_tree_node.specs.declared.kind.Kind.TheVariants as kind
use Rattle.swc_tree_node.specs.declared.slot.Slot.{Slot}
use Rattle.swc_tree_node.specs.declared.node.Node.{Node, Tree, out-Node, roll-Node, roll-out-Node}
use Rattle.swc_tree_node.specs.declared.node.Node.TheOpen.{Node-F}
use Rattle.swc_tree_node.specs.declared.node.Node.TheVariants.{rolls-Tree}
use Rattle.swc_tree_node.specs.Fits.{Fits}
use Rattle.swc_base_tables_injection.specs.Brought.{import_of, require_of}
use Rattle.swc_base_tables_injection.specs.Bodies.{program_kind, program_kind_in, put_in}
use Rattle.swc_base_tables_injection.specs.Members.{field_seat, with_members}
use Rattle.swc_base_tables_injection.specs.declared.members.Seat.TheVariants as seat
use Rattle.swc_base_tables_injection.specs.Walk.{each_membered}
use Rattle.swc_base_tables_injection.proofs.Equations.{membered_tree}
use Rattle.swc_base_tables_injection.proofs.Fitting.{all_made, import_fits, module_fits, require_fits, script_fits}
use Rattle.swc_base_tables_injection.proofs.MembersFit.{members_fit}

program_is : (k : Kind) (t : Node) (y : Node-F Node) → t ≡ roll-Node y → program_kind_in y ≡ Some k → (ts : List Node) × (t ≡ Tree k ts)
program_is k t (Node-F.Tree kind.Module ts) e h = let same : kind.Module ≡ k = cc in (ts, e ∙ rolls-Tree kind.Module ts ∙ ap (λ k. Tree k ts) same)
program_is k t (Node-F.Tree kind.Script ts) e h = let same : kind.Script ≡ k = cc in (ts, e ∙ rolls-Tree kind.Script ts ∙ ap (λ k. Tree k ts) same)
program_is k t y e h = absurd (cc)

-- a program is a tree of its kind
pub program_tree : (k : Kind) (t : Node) → program_kind t ≡ Some k → (ts : List Node) × (t ≡ Tree k ts)
program_tree k t h = program_is k t (out-Node t) (sym (roll-out-Node t)) h

pub module_brought : (helper : ℕ) (names : List (List ℕ)) (more : List Node) (t : Node) (s : Slot) → program_kind t ≡ Some kind.Module → more ≡ map (import_of helper) names → Fits t s
    → Fits (put_in more t) s
module_brought helper names more t s k is h =
    let o = program_tree kind.Module t k in
    subst (λ t. Fits (put_in more t) s) (sym o.1)
    (subst (λ more. Fits (put_in more (Tree kind.Module o.0)) s) (sym is)
    (module_fits (map (import_of helper) names) o.0 s (all_made (import_of helper) _ (import_fits helper) names) (subst (λ t. Fits t s) o.1 h)))

pub script_brought : (helper global : ℕ) (names : List (List ℕ)) (more : List Node) (t now : Node) (s : Slot) → program_kind t ≡ Some kind.Script → more ≡ map (require_of helper global) names
    → now ≡ with_members helper t → Fits t s → Fits (put_in more now) s
script_brought helper global names more t now s k is becomes h =
    let o = program_tree kind.Script t k in
    let f : Fits (with_members helper (Tree kind.Script o.0)) s = members_fit helper kind.Script o.0 s (subst (λ t. Fits t s) o.1 h) in
    let was = membered_tree helper seat.Other kind.Script o.0 in
    subst (λ t. Fits (put_in more t) s) (sym (becomes ∙ ap (with_members helper) o.1 ∙ was))
    (subst (λ more. Fits (put_in more (Tree kind.Script (each_membered helper (field_seat kind.Script) o.0))) s) (sym is)
    (script_fits (map (require_of helper global) names) (each_membered helper (field_seat kind.Script) o.0) s (all_made (require_of helper global) _ (require_fits helper global) names)
    (subst (λ t. Fits t s) was f)))

-- ... and so a result that is such a program
pub module_done : {E : Type 0} (helper : ℕ) (names : List (List ℕ)) (more : List Node) (t : Node) (s : Slot) (r : Result Node E) → program_kind t ≡ Some kind.Module → more ≡ map (import_of helper) names
    → IfOk r (λ answer. answer ≡ put_in more t) → Fits t s → IfOk r (λ answer. Fits answer s)
module_done helper names more t s (Ok answer) k is e h = subst (λ t. Fits t s) (sym e) (module_brought helper names more t s k is h)
module_done helper names more t s (Err x) k is e h = tt

pub script_done : {E : Type 0} (helper global : ℕ) (names : List (List ℕ)) (more : List Node) (t now : Node) (s : Slot) (r : Result Node E) → program_kind t ≡ Some kind.Script
    → more ≡ map (require_of helper global) names → now ≡ with_members helper t → IfOk r (λ answer. answer ≡ put_in more now) → Fits t s → IfOk r (λ answer. Fits answer s)
script_done helper global names more t now s (Ok answer) k is becomes e h = subst (λ t. Fits t s) (sym e) (script_brought helper global names more t now s k is becomes h)
script_done helper global names more t now s (Err x) k is becomes e h = tt
