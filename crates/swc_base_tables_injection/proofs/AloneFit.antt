-- Bodies that were resolved alone, and a program with them in it.
use Rattle.std.proofs.Common.{◌≡◌, ℕ, zero, suc, Bool, true, false, IsTrue, Some, List, [], ◌∷◌, drop, refl, sym, ap, ◌∙◌, subst}
use Rattle.swc_tree_marks.specs.Globals.{Table}
use Rattle.swc_tree_node.specs.declared.kind.Kind.{Kind}
use Rattle.swc_tree_node.specs.declared.kind.Kind.TheVariants as kind
use Rattle.swc_tree_node.specs.declared.kind.Class.TheVariants as class
use Rattle.swc_tree_node.specs.declared.slot.Content.TheVariants as content
use Rattle.swc_tree_node.specs.declared.slot.Slot.{Slot}
use Rattle.swc_tree_node.specs.declared.slot.Slot.TheVariants as slot
use Rattle.swc_tree_node.specs.declared.node.Node.{Node, Absent, List as Many, Tree, Identifier, out-Node, roll-Node, roll-out-Node}
use Rattle.swc_tree_node.specs.declared.node.Node.TheVariants.{rolls-Absent, rolls-Flag, rolls-Word, rolls-Text, rolls-Span, rolls-List, rolls-Identifier, rolls-Tree, outs-List, outs-Tree}
use Rattle.swc_tree_node.specs.declared.node.Node.TheOpen.{Node-F}
use Rattle.swc_tree_node.specs.Table.{is_identifier}
use Rattle.swc_tree_node.specs.Fits.{fits, Fits, AllFit, belongs}
use Rattle.swc_tree_node.proofs.Fit.{fits-Absent, fits-Flag, fits-Word, fits-Text, fits-Span, fits-List, fits-Identifier, and_both, both, tree_opens, tree_closes}
use Rattle.swc_tree_scoping.specs.declared.places.Scope.TheVariants as scope
use Rattle.swc_tree_scoping.specs.Places.{items_in, opened, opened_in, program_place}
use Rattle.swc_tree_scoping.specs.Resolved.{Contexts, remarked}
use Rattle.swc_tree_scoping.proofs.Remarked.{each_remarked, fits-remarked, remarked-List, remarked-Tree}
use Rattle.swc_base_resolver_program.specs.Marked.{MarksOk, OnlyContexts}
use Rattle.swc_base_tables_injection.specs.Brought.{nowhere}
use Rattle.swc_base_tables_injection.specs.Bodies.{program_in, program_kind, program_kind_in, put_in}
use Rattle.swc_base_tables_injection.specs.Alone.{IsInjected, ResolvedAlone, all_bodies, alone, is_strict_program, opening, statements_in, statements_of}
use Rattle.swc_base_tables_injection.proofs.Fitting.{fields_fit, tree_close, tree_open}

-- ---- what is resolved alone

statements_again : (c : Contexts) (k : Kind) (strict : Bool) (ts : List Node) → statements_of (remarked c (alone k strict ts)) ≡ each_remarked (λ i p. c (1 ∷ suc i ∷ p)) ts
statements_again c k strict ts =
    ap statements_of (remarked-Tree c k (nowhere ∷ Many (opening strict ∷ ts) ∷ Absent ∷ []))
    ∙ ap statements_in (outs-Tree k (each_remarked (λ i p. c (i ∷ p)) (nowhere ∷ Many (opening strict ∷ ts) ∷ Absent ∷ [])))
    ∙ ap (λ t. drop 1 (items_in (out-Node t))) (remarked-List (λ p. c (1 ∷ p)) (opening strict ∷ ts))
    ∙ ap (λ y. drop 1 (items_in y)) (outs-List (each_remarked (λ i p. c (1 ∷ i ∷ p)) (opening strict ∷ ts)))

each_fits : (c : ℕ → Contexts) (s : Slot) (ts : List Node) → AllFit s ts → AllFit s (each_remarked c ts)
each_fits c s [] h = tt
each_fits c s (t ∷ ts) h = (subst IsTrue (sym (fits-remarked (c zero) t s)) h.0, each_fits (λ i. c (suc i)) s ts h.1)

pub alone_fits : (k : Kind) (strict : Bool) (ts : List Node) (program answer : Node) (s : Slot) → program ≡ alone k strict ts → OnlyContexts program answer → AllFit s ts → AllFit s (statements_of answer)
alone_fits k strict ts program answer s is h f =
    subst (AllFit s) (sym (ap statements_of (h.only_contexts ∙ ap (remarked h.contexts) is) ∙ statements_again h.contexts k strict ts))
    (each_fits (λ i p. h.contexts (1 ∷ suc i ∷ p)) s ts f)

-- ---- a program with bodies in it

opened_in_program : (k : Kind) (y : Node-F Node) (fs : List Node) → program_kind_in y ≡ Some k → opened program_place (Tree k fs) ≡ Some scope.Program
opened_in_program k (Node-F.Tree kind.Module ts) fs h = let same : kind.Module ≡ k = cc in subst (λ k. opened program_place (Tree k fs) ≡ Some scope.Program) same (ap (opened_in program_place) (outs-Tree kind.Module fs))
opened_in_program k (Node-F.Tree kind.Script ts) fs h = let same : kind.Script ≡ k = cc in subst (λ k. opened program_place (Tree k fs) ≡ Some scope.Program) same (ap (opened_in program_place) (outs-Tree kind.Script fs))
opened_in_program k y fs h = absurd (cc)

pub bodies_injected : (helper global : ℕ) (old new : Table) (bodies : List (List Node)) (program answer : Node) (statements : List Node) (k q : Kind) (strict : Bool) → program_kind program ≡ Some k → program_kind program ≡ Some q
    → strict ≡ is_strict_program program → (opened program_place (alone k strict (all_bodies bodies)) ≡ Some scope.Program → MarksOk old global helper → ResolvedAlone helper global old new k strict (all_bodies bodies) statements)
    → MarksOk old global helper → answer ≡ put_in statements program → IsInjected (ResolvedAlone helper global old new q (is_strict_program program)) bodies program answer
bodies_injected helper global old new bodies program answer statements k q strict here there is resolved ok put =
    let same : k ≡ q = cc in
    let opens = opened_in_program k (out-Node program) (nowhere ∷ Many (opening strict ∷ all_bodies bodies) ∷ Absent ∷ []) here in
    record {
      statements = statements;
      became = subst (λ b. ResolvedAlone helper global old new q b (all_bodies bodies) statements) is (subst (λ k. ResolvedAlone helper global old new k strict (all_bodies bodies) statements) same (resolved opens ok));
      put_there = put;
    }

abbrev implies : Bool → Bool → Bool
implies true b = b
implies false b = true

implied : (a b : Bool) → implies a b ≡ true → IsTrue a → IsTrue b
implied true b h g = h
implied false b h g = absurd (cc)

-- each statement may stand in a module
items_take : (k : Kind) → implies (belongs k class.Stmt) (belongs k class.ModuleItem) ≡ true
items_take kind.Module = refl
items_take k = refl

as_item : (t : Node) (y : Node-F Node) → t ≡ roll-Node y → Fits t (slot.One (content.Node class.Stmt)) → Fits t (slot.One (content.Node class.ModuleItem))
as_item t (Node-F.Tree k ts) e h =
    let is : t ≡ Tree k ts = e ∙ rolls-Tree k ts in
    let o = tree_opens k ts class.Stmt (subst (λ t. Fits t (slot.One (content.Node class.Stmt))) is h) in
    subst (λ t. Fits t (slot.One (content.Node class.ModuleItem))) (sym is) (tree_closes k ts class.ModuleItem o.0 (implied (belongs k class.Stmt) (belongs k class.ModuleItem) (items_take k) o.1) o.2)
as_item t (Node-F.Identifier k i) e h =
    let is : t ≡ Identifier k i = e ∙ rolls-Identifier k i in
    let o = both (is_identifier k) (belongs k class.Stmt) (rw (← fits-Identifier k i (slot.One (content.Node class.Stmt))) (subst (λ t. Fits t (slot.One (content.Node class.Stmt))) is h)) in
    subst (λ t. Fits t (slot.One (content.Node class.ModuleItem))) (sym is)
    (rw (fits-Identifier k i (slot.One (content.Node class.ModuleItem))) (and_both (is_identifier k) (belongs k class.ModuleItem) o.0 (implied (belongs k class.Stmt) (belongs k class.ModuleItem) (items_take k) o.1)))
as_item t Node-F.Absent e h = let never = ap (λ t. fits t (slot.One (content.Node class.Stmt))) (e ∙ rolls-Absent) ∙ fits-Absent (slot.One (content.Node class.Stmt)) in absurd (cc)
as_item t (Node-F.Flag x) e h = let never = ap (λ t. fits t (slot.One (content.Node class.Stmt))) (e ∙ rolls-Flag x) ∙ fits-Flag x (slot.One (content.Node class.Stmt)) in absurd (cc)
as_item t (Node-F.Word w) e h = let never = ap (λ t. fits t (slot.One (content.Node class.Stmt))) (e ∙ rolls-Word w) ∙ fits-Word w (slot.One (content.Node class.Stmt)) in absurd (cc)
as_item t (Node-F.Text x) e h = let never = ap (λ t. fits t (slot.One (content.Node class.Stmt))) (e ∙ rolls-Text x) ∙ fits-Text x (slot.One (content.Node class.Stmt)) in absurd (cc)
as_item t (Node-F.Span x) e h = let never = ap (λ t. fits t (slot.One (content.Node class.Stmt))) (e ∙ rolls-Span x) ∙ fits-Span x (slot.One (content.Node class.Stmt)) in absurd (cc)
as_item t (Node-F.List ts) e h = let never = ap (λ t. fits t (slot.One (content.Node class.Stmt))) (e ∙ rolls-List ts) ∙ fits-List ts (slot.One (content.Node class.Stmt)) in absurd (cc)

as_items : (ts : List Node) → AllFit (slot.One (content.Node class.Stmt)) ts → AllFit (slot.One (content.Node class.ModuleItem)) ts
as_items [] h = tt
as_items (t ∷ ts) h = (as_item t (out-Node t) (sym (roll-out-Node t)) h.0, as_items ts h.1)

put_fits : (more : List Node) (s : Slot) (t : Node) (y : Node-F Node) → t ≡ roll-Node y → AllFit (slot.One (content.Node class.Stmt)) more → Fits t s → Fits (program_in more t y) s
put_fits more s t (Node-F.Tree kind.Module ts) e m h =
    let o = tree_open kind.Module ts s (subst (λ t. Fits t s) (e ∙ rolls-Tree kind.Module ts) h) in
    tree_close kind.Module _ s o.0 o.1 o.2 o.3 (fields_fit (content.Node class.ModuleItem) more ts (as_items more m) o.4)
put_fits more s t (Node-F.Tree kind.Script ts) e m h =
    let o = tree_open kind.Script ts s (subst (λ t. Fits t s) (e ∙ rolls-Tree kind.Script ts) h) in
    tree_close kind.Script _ s o.0 o.1 o.2 o.3 (fields_fit (content.Node class.Stmt) more ts m o.4)
put_fits more s t y e m h = h

pub bodies_fit : (more : List Node) (s : Slot) (t answer : Node) → answer ≡ put_in more t → AllFit (slot.One (content.Node class.Stmt)) more → Fits t s → Fits answer s
bodies_fit more s t answer e m h = subst (λ t. Fits t s) (sym e) (put_fits more s t (out-Node t) (sym (roll-out-Node t)) m h)
