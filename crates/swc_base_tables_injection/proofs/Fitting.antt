-- What fits its place still does.
use Rattle.std.proofs.Common.{◌≡◌, ℕ, zero, suc, not, ◌&&◌, IsTrue, Some, Option, List, [], ◌∷◌, ◌++◌, map, take, drop, refl, sym, ap, ◌∙◌, subst, arith}
use Rattle.std.specs.List.{prefix_len}
use Rattle.swc_tree_marks.specs.declared.ident.Ident.{Ident}
use Rattle.swc_tree_node.specs.declared.kind.Kind.{Kind}
use Rattle.swc_tree_node.specs.declared.kind.Kind.TheVariants as kind
use Rattle.swc_tree_node.specs.declared.kind.Class.{Class}
use Rattle.swc_tree_node.specs.declared.kind.Class.TheVariants as class
use Rattle.swc_tree_node.specs.declared.slot.Content.{Content}
use Rattle.swc_tree_node.specs.declared.slot.Content.TheVariants as content
use Rattle.swc_tree_node.specs.declared.slot.Slot.{Slot}
use Rattle.swc_tree_node.specs.declared.slot.Slot.TheVariants as slot
use Rattle.swc_tree_node.specs.declared.node.Node.{Node, Tree, Identifier, out-Node, roll-Node, roll-out-Node}
use Rattle.swc_tree_node.specs.declared.node.Node.TheVariants.{rolls-List, outs-Tree}
use Rattle.swc_tree_node.specs.declared.node.Node.TheOpen.{Node-F}
use Rattle.swc_tree_node.specs.Table.{slots_of, is_identifier}
use Rattle.swc_tree_node.specs.Fits.{fits, Fits, AllFit, FieldsFit, single, belongs, each_fits, tree_fits, identifier_fits}
use Rattle.swc_tree_node.proofs.Fit.{fits-Tree, fits-Identifier, fitting, both, and_both, fields_open, fields_close, list_opens, list_closes}
use Rattle.swc_base_tables_injection.specs.Brought.{import_of, require_of}
use Rattle.swc_base_tables_injection.specs.Bodies.{behind_strings, body_in, fields_with, is_string, program_in, put_in}

-- ---- a tree and an identifier in their places

tree_at : (k : Kind) (ts : List Node) (o : Option Content) → IsTrue (tree_fits k (map fits ts) o)
    → (c : Class) × (o ≡ Some (content.Node c)) × IsTrue (not (is_identifier k)) × IsTrue (belongs k c) × FieldsFit (slots_of k) ts
tree_at k ts (Some (content.Node c)) h =
    let p = both (not (is_identifier k)) (belongs k c && each_fits (slots_of k) (map fits ts)) h in
    let q = both (belongs k c) (each_fits (slots_of k) (map fits ts)) p.1 in
    (c, refl, p.0, q.0, fields_open (slots_of k) ts q.1)
tree_at k ts o h = absurd (grind arith)

pub tree_open : (k : Kind) (ts : List Node) (s : Slot) → Fits (Tree k ts) s
    → (c : Class) × (single s ≡ Some (content.Node c)) × IsTrue (not (is_identifier k)) × IsTrue (belongs k c) × FieldsFit (slots_of k) ts
tree_open k ts s h = tree_at k ts (single s) (rw (← fits-Tree k ts s) h)

pub tree_close : (k : Kind) (ts : List Node) (s : Slot) (c : Class) → single s ≡ Some (content.Node c) → IsTrue (not (is_identifier k)) → IsTrue (belongs k c) → FieldsFit (slots_of k) ts → Fits (Tree k ts) s
tree_close k ts s c e i b f =
    rw (fits-Tree k ts s, e) (and_both (not (is_identifier k)) (belongs k c && each_fits (slots_of k) (map fits ts)) i
    (and_both (belongs k c) (each_fits (slots_of k) (map fits ts)) b (fields_close (slots_of k) ts f)))

identifier_at : (k : Kind) (o : Option Content) → IsTrue (identifier_fits k o) → (c : Class) × (o ≡ Some (content.Node c)) × IsTrue (belongs k c)
identifier_at k (Some (content.Node c)) h = (c, refl, (both (is_identifier k) (belongs k c) h).1)
identifier_at k o h = absurd (grind arith)

pub identifier_open : (k : Kind) (i : Ident) (s : Slot) → Fits (Identifier k i) s → (c : Class) × (single s ≡ Some (content.Node c)) × IsTrue (belongs k c)
identifier_open k i s h = identifier_at k (single s) (rw (← fits-Identifier k i s) h)

-- ---- what is brought in

pub import_fits : (helper : ℕ) (name : List ℕ) → Fits (import_of helper name) (slot.One (content.Node class.ModuleItem))
import_fits helper name = simp fitting

pub require_fits : (helper global : ℕ) (name : List ℕ) → Fits (require_of helper global name) (slot.One (content.Node class.Stmt))
require_fits helper global name = simp fitting

pub all_made : {A : Type 0} (f : A → Node) (s : Slot) → ((x : A) → Fits (f x) s) → (xs : List A) → AllFit s (map f xs)
all_made f s h [] = tt
all_made f s h (x ∷ xs) = (h x, all_made f s h xs)

-- ---- a program with more statements

all_append : (s : Slot) (ts us : List Node) → AllFit s ts → AllFit s us → AllFit s (ts ++ us)
all_append s [] us h g = g
all_append s (t ∷ ts) us h g = (h.0, all_append s ts us h.1 g)

all_take : (s : Slot) (n : ℕ) (ts : List Node) → AllFit s ts → AllFit s (take n ts)
all_take s zero ts h = tt
all_take s (suc n) [] h = tt
all_take s (suc n) (t ∷ ts) h = (h.0, all_take s n ts h.1)

all_drop : (s : Slot) (n : ℕ) (ts : List Node) → AllFit s ts → AllFit s (drop n ts)
all_drop s zero ts h = h
all_drop s (suc n) [] h = tt
all_drop s (suc n) (t ∷ ts) h = all_drop s n ts h.1

behind_fit : (s : Slot) (more body : List Node) → AllFit s more → AllFit s body → AllFit s (behind_strings more body)
behind_fit s more body m b =
    let count = prefix_len is_string body in
    all_append s (take count body ++ more) (drop count body) (all_append s (take count body) more (all_take s count body b) m) (all_drop s count body b)

body_fits : (c : Content) (more : List Node) (t : Node) (y : Node-F Node) → t ≡ roll-Node y → AllFit (slot.One c) more → Fits t (slot.List c) → Fits (body_in more t y) (slot.List c)
body_fits c more t (Node-F.List body) e m h =
    list_closes (behind_strings more body) c (behind_fit (slot.One c) more body m (list_opens body c (subst (λ t. Fits t (slot.List c)) (e ∙ rolls-List body) h)))
body_fits c more t y e m h = h

abbrev program_slots : Content → List Slot
program_slots c = slot.One content.Span ∷ slot.List c ∷ slot.Optional content.Text ∷ []

pub fields_fit : (c : Content) (more ts : List Node) → AllFit (slot.One c) more → FieldsFit (program_slots c) ts → FieldsFit (program_slots c) (fields_with more ts)
fields_fit c more [] m h = h
fields_fit c more (span ∷ []) m h = h
fields_fit c more (span ∷ body ∷ rest) m h = (h.0, (body_fits c more body (out-Node body) (sym (roll-out-Node body)) m h.1.0, h.1.1))

pub module_fits : (more ts : List Node) (s : Slot) → AllFit (slot.One (content.Node class.ModuleItem)) more → Fits (Tree kind.Module ts) s → Fits (put_in more (Tree kind.Module ts)) s
module_fits more ts s m h =
    let o = tree_open kind.Module ts s h in
    rw (ap (program_in more (Tree kind.Module ts)) (outs-Tree kind.Module ts))
    (tree_close kind.Module (fields_with more ts) s o.0 o.1 o.2 o.3 (fields_fit (content.Node class.ModuleItem) more ts m o.4))

pub script_fits : (more ts : List Node) (s : Slot) → AllFit (slot.One (content.Node class.Stmt)) more → Fits (Tree kind.Script ts) s → Fits (put_in more (Tree kind.Script ts)) s
script_fits more ts s m h =
    let o = tree_open kind.Script ts s h in
    rw (ap (program_in more (Tree kind.Script ts)) (outs-Tree kind.Script ts))
    (tree_close kind.Script (fields_with more ts) s o.0 o.1 o.2 o.3 (fields_fit (content.Node class.Stmt) more ts m o.4))
