-- What is read off a node, and stays where the node gets some more pairs of parentheses.
use Rattle.std.proofs.Common.{◌≡◌, ℕ, zero, suc, Bool, true, false, not, ◌&&◌, ◌||◌, ◌==◌, IsTrue, ◌⊎◌, inl, inr, Option, Some, None, List, [], ◌∷◌, refl, sym, ap, ◌∙◌, subst, cond}
use Rattle.std.specs.List.{list_any, slice_get}
use Rattle.std.specs.Option.{is_some}
use Rattle.swc_tree_marks.specs.declared.ident.Ident.{Ident}
use Rattle.swc_tree_node.specs.declared.fields.statements.fn_decl.TheConstants as fn_decl
use Rattle.swc_tree_node.specs.declared.fields.functions.function.TheConstants as function
use Rattle.swc_tree_node.specs.declared.fields.functions.param.TheConstants as param
use Rattle.swc_tree_node.specs.declared.kind.Kind.{Kind}
use Rattle.swc_tree_node.specs.declared.kind.Kind.TheVariants as kind
use Rattle.swc_tree_node.specs.declared.kind.Class.{Class}
use Rattle.swc_tree_node.specs.declared.kind.Class.TheVariants as class
use Rattle.swc_tree_node.specs.declared.slot.Content.{Content}
use Rattle.swc_tree_node.specs.declared.slot.Content.TheVariants as content
use Rattle.swc_tree_node.specs.declared.slot.Slot.{Slot}
use Rattle.swc_tree_node.specs.declared.slot.Slot.TheVariants as slot
use Rattle.swc_tree_node.specs.declared.node.Node.{Node, Span, Identifier, Tree, out-Node}
use Rattle.swc_tree_node.specs.declared.node.Node.TheOpen.{Node-F}
use Rattle.swc_tree_node.specs.declared.node.Node.TheVariants.{outs-Identifier, outs-List, outs-Tree}
use Rattle.swc_tree_node.specs.Table.{slots_of}
use Rattle.swc_tree_scoping.specs.Places.{absent_in, by_keyword, given, is_expression_in, is_identifier_expression, is_there, items_in, items_of, keyword_in}
use Rattle.swc_tree_scoping.specs.BoundNames.{name_in, name_of}
use Rattle.swc_tree_grammar.specs.Places.{content_of}
use Rattle.swc_base_fixer_laws.specs.Sets.{AllSet, FieldsSet, Sets, can_pair, item, pairable, pairable_in}
use Rattle.swc_base_fixer_laws.specs.Sets.Sets.{same, after, around, named, items, tree}
use Rattle.swc_base_fixer_laws.specs.Sets.AllSet.{none, more}
use Rattle.swc_base_fixer_laws.specs.Sets.FieldsSet.{nil, field}
use Rattle.swc_base_rename_analysis.specs.Analysis.{function_has_rest_or_default, has_identifier, is_rest_or_default, parameter_is_rest_or_default, uses_own_name}
use Rattle.swc_base_rename_analysis.specs.Walk.{own_name_below}

-- the first part of the head of a `for`, where the name `async` may get a pair
abbrev is_head_class : Class → Bool
is_head_class class.ForHead = true
is_head_class _ = false

abbrev is_head_content : Option Content → Bool
is_head_content (Some (content.Node c)) = is_head_class c
is_head_content _ = false

abbrev pub is_head : Slot → Bool
is_head s = is_head_content (content_of s)

abbrev FirmSlot : Slot → Type 0
FirmSlot s = is_head s ≡ false

abbrev AnySlot : Slot → Type 0
AnySlot s = Unit {0}

-- what is one thing of a pair and of all that may get one
module _ {A : Type 0} (g : Node-F Node → A) (d : A) (pair : (ts : List Node) → g (Node-F.Tree kind.ParenExpr ts) ≡ d) (plain : (k : Kind) (ts : List Node) → IsTrue (can_pair k) → g (Node-F.Tree k ts) ≡ d)
    (lists : (s : Slot) (ts us : List Node) → AllSet s ts us → g (Node-F.List us) ≡ g (Node-F.List ts)) (trees : (k : Kind) (ts us : List Node) → FieldsSet (slots_of k) ts us → g (Node-F.Tree k us) ≡ g (Node-F.Tree k ts)) where
  of_pairable : (t : Node) (y : Node-F Node) → out-Node t ≡ y → IsTrue (pairable t) → g (out-Node t) ≡ d
  of_pairable t (Node-F.Tree k ts) o h = ap g o ∙ plain k ts (subst (λ y. IsTrue (pairable_in y)) o h)
  of_pairable t Node-F.Absent o h = let z = subst (λ y. IsTrue (pairable_in y)) o h in absurd (cc)
  of_pairable t (Node-F.Flag x) o h = let z = subst (λ y. IsTrue (pairable_in y)) o h in absurd (cc)
  of_pairable t (Node-F.Word x) o h = let z = subst (λ y. IsTrue (pairable_in y)) o h in absurd (cc)
  of_pairable t (Node-F.Text x) o h = let z = subst (λ y. IsTrue (pairable_in y)) o h in absurd (cc)
  of_pairable t (Node-F.Span x) o h = let z = subst (λ y. IsTrue (pairable_in y)) o h in absurd (cc)
  of_pairable t (Node-F.List x) o h = let z = subst (λ y. IsTrue (pairable_in y)) o h in absurd (cc)
  of_pairable t (Node-F.Identifier k x) o h = let z = subst (λ y. IsTrue (pairable_in y)) o h in absurd (cc)

  module _ (N : Slot → Type 0) (name : N (slot.One (content.Node class.ForHead)) → (k : Kind) (i : Ident) → d ≡ g (Node-F.Identifier k i)) where
    reads_so : {s : Slot} {t u : Node} → Sets s t u → N s → g (out-Node u) ≡ g (out-Node t)
    reads_so (same t) n = refl
    reads_so (after x y) n = reads_so y n ∙ reads_so x n
    reads_so (around r t u p q x) n = ap g (outs-Tree kind.ParenExpr (Span r ∷ u ∷ [])) ∙ pair (Span r ∷ u ∷ []) ∙ sym (of_pairable t (out-Node t) refl q)
    reads_so (named r k i h) n = ap g (outs-Tree kind.ParenExpr (Span r ∷ Identifier kind.Ident i ∷ [])) ∙ pair (Span r ∷ Identifier kind.Ident i ∷ []) ∙ name n k i ∙ sym (ap g (outs-Identifier k i))
    reads_so {s = s} (items ts us x) n = ap g (outs-List us) ∙ lists (item s) ts us x ∙ sym (ap g (outs-List ts))
    reads_so (tree k ts us e x) n = ap g (outs-Tree k us) ∙ trees k ts us x ∙ sym (ap g (outs-Tree k ts))

  -- and of any identifier
  reads : ((k : Kind) (i : Ident) → g (Node-F.Identifier k i) ≡ d) → {s : Slot} {t u : Node} → Sets s t u → g (out-Node u) ≡ g (out-Node t)
  reads names x = reads_so AnySlot (λ n k i. sym (names k i)) x tt

  -- or where no name gets a pair
  firm : {s : Slot} {t u : Node} → Sets s t u → is_head s ≡ false → g (out-Node u) ≡ g (out-Node t)
  firm x h = reads_so FirmSlot (λ n k i. absurd (cc)) x h

-- ---- the fields of two trees, one with some more pairs

abbrev pub Both : List Slot → List Node → List Node → ℕ → Type 0
Both ss ts us i = ((slice_get ts i ≡ None) × (slice_get us i ≡ None)) ⊎ ((s : Slot) × (c d : Node) × (slice_get ss i ≡ Some s) × (slice_get ts i ≡ Some c) × (slice_get us i ≡ Some d) × Sets s c d)

pub both_at : {ss : List Slot} {ts us : List Node} → FieldsSet ss ts us → (i : ℕ) → Both ss ts us i
both_at nil i = inl (refl, refl)
both_at (field {s = s} {t = t} {u = u} x d) zero = inr (s, t, u, refl, refl, refl, x)
both_at (field x d) (suc i) = both_at d i

-- what is there, and the keyword
absent_set : {s : Slot} {t u : Node} → Sets s t u → absent_in (out-Node u) ≡ absent_in (out-Node t)
absent_set x = reads absent_in false (λ ts. refl) (λ k ts h. refl) (λ s ts us x. refl) (λ k ts us x. refl) (λ k i. refl) x

pub there_set : {ss : List Slot} {ts us : List Node} → FieldsSet ss ts us → (i : ℕ) → is_there (slice_get us i) ≡ is_there (slice_get ts i)
there_set {ss = ss} {ts = ts} {us = us} d i = at (both_at d i)
  where
    at : Both ss ts us i → is_there (slice_get us i) ≡ is_there (slice_get ts i)
    at (inl (e, f)) = ap is_there f ∙ sym (ap is_there e)
    at (inr (s, c, d, z, e, f, x)) = ap is_there f ∙ ap not (absent_set x) ∙ sym (ap is_there e)

pub keyword_set : {ss : List Slot} {ts us : List Node} → FieldsSet ss ts us → by_keyword us ≡ by_keyword ts
keyword_set nil = refl
keyword_set (field {t = t} {u = u} {ts = ts} {us = us} x d) =
    ap (keyword_in (out-Node u)) (keyword_set d) ∙ reads (λ y. keyword_in y (by_keyword ts)) (by_keyword ts) (λ ts. refl) (λ k ts h. refl) (λ s ts us x. refl) (λ k ts us x. refl) (λ k i. refl) x

-- whether it is an identifier expression, but for such a name
pub expression_set : {s : Slot} {t u : Node} → Sets s t u → is_head s ≡ false → is_identifier_expression (Some u) ≡ is_identifier_expression (Some t)
expression_set x h = firm is_expression_in false (λ ts. refl) (λ k ts h. refl) (λ s ts us x. refl) (λ k ts us x. refl) x h

-- ---- the name that stands first

abbrev first_is_head : List Slot → Bool
first_is_head [] = false
first_is_head (s ∷ ss) = is_head s

no_first_head : (k : Kind) → first_is_head (slots_of k) ≡ false
no_first_head kind.Module = refl
no_first_head _ = refl

first_slot : (ss : List Slot) (s : Slot) → first_is_head ss ≡ false → slice_get ss 0 ≡ Some s → is_head s ≡ false
first_slot [] s h e = absurd (cc)
first_slot (x ∷ ss) s h e = let same : x ≡ s = cc in ap is_head (sym same) ∙ h

name_set : {s : Slot} {t u : Node} → Sets s t u → is_head s ≡ false → name_in (out-Node u) ≡ name_in (out-Node t)
name_set x h = firm name_in None (λ ts. refl) (λ k ts h. refl) (λ s ts us x. refl) (λ k ts us x. refl) x h

pub name_first : (k : Kind) (ts us : List Node) → FieldsSet (slots_of k) ts us → name_of (slice_get us 0) ≡ name_of (slice_get ts 0)
name_first k ts us x = at (both_at x 0)
  where
    at : Both (slots_of k) ts us 0 → name_of (slice_get us 0) ≡ name_of (slice_get ts 0)
    at (inl (e, f)) = ap name_of f ∙ sym (ap name_of e)
    at (inr (s, c, d, z, e, f, y)) = ap name_of f ∙ name_set y (first_slot (slots_of k) s (no_first_head k) z) ∙ sym (ap name_of e)

pub identifier_first : (k : Kind) (ts us : List Node) → FieldsSet (slots_of k) ts us → has_identifier us ≡ has_identifier ts
identifier_first k ts us x = ap is_some (name_first k ts us x)

-- ---- functions that count as using their names

given_set : (g : Node-F Node → Bool) → ((s : Slot) (t u : Node) → Sets s t u → g (out-Node u) ≡ g (out-Node t)) → {ss : List Slot} {ts us : List Node} → FieldsSet ss ts us → (i : ℕ)
    → given (slice_get us i) false (λ c. g (out-Node c)) ≡ given (slice_get ts i) false (λ c. g (out-Node c))
given_set g h {ss = ss} {ts = ts} {us = us} x i = at (both_at x i)
  where
    at : Both ss ts us i → given (slice_get us i) false (λ c. g (out-Node c)) ≡ given (slice_get ts i) false (λ c. g (out-Node c))
    at (inl (e, f)) = ap (λ o. given o false (λ c. g (out-Node c))) f ∙ sym (ap (λ o. given o false (λ c. g (out-Node c))) e)
    at (inr (s, c, d, z, e, f, y)) = ap (λ o. given o false (λ c. g (out-Node c))) f ∙ h s c d y ∙ sym (ap (λ o. given o false (λ c. g (out-Node c))) e)

rest_plain : (k : Kind) (ts : List Node) → IsTrue (can_pair k) → is_rest_or_default (Node-F.Tree k ts) ≡ false
rest_plain kind.RestPat ts h = absurd (cc)
rest_plain kind.AssignPat ts h = absurd (cc)
rest_plain _ ts h = refl

rest_trees : (k : Kind) (ts us : List Node) → FieldsSet (slots_of k) ts us → is_rest_or_default (Node-F.Tree k us) ≡ is_rest_or_default (Node-F.Tree k ts)
rest_trees kind.RestPat ts us x = refl
rest_trees kind.AssignPat ts us x = refl
rest_trees _ ts us x = refl

rest_set : {s : Slot} {t u : Node} → Sets s t u → is_rest_or_default (out-Node u) ≡ is_rest_or_default (out-Node t)
rest_set x = reads is_rest_or_default false (λ ts. refl) rest_plain (λ s ts us x. refl) rest_trees (λ k i. refl) x

parameter_plain : (k : Kind) (ts : List Node) → IsTrue (can_pair k) → parameter_is_rest_or_default (Node-F.Tree k ts) ≡ false
parameter_plain kind.Param ts h = absurd (cc)
parameter_plain _ ts h = refl

parameter_trees : (k : Kind) (ts us : List Node) → FieldsSet (slots_of k) ts us → parameter_is_rest_or_default (Node-F.Tree k us) ≡ parameter_is_rest_or_default (Node-F.Tree k ts)
parameter_trees kind.Param ts us x = given_set is_rest_or_default (λ s t u x. rest_set x) x param.PAT
parameter_trees _ ts us x = refl

parameter_set : {s : Slot} {t u : Node} → Sets s t u → parameter_is_rest_or_default (out-Node u) ≡ parameter_is_rest_or_default (out-Node t)
parameter_set x = reads parameter_is_rest_or_default false (λ ts. refl) parameter_plain (λ s ts us x. refl) parameter_trees (λ k i. refl) x

abbrev is_such : Node → Bool
is_such c = parameter_is_rest_or_default (out-Node c)

any_set : {s : Slot} {ts us : List Node} → AllSet s ts us → list_any is_such us ≡ list_any is_such ts
any_set none = refl
any_set (more {t = t} {u = u} {ts = ts} {us = us} x d) = ap (λ b. b || list_any is_such us) (parameter_set x) ∙ ap (λ b. is_such t || b) (any_set d)

items_set : {s : Slot} {t u : Node} → Sets s t u → list_any is_such (items_in (out-Node u)) ≡ list_any is_such (items_in (out-Node t))
items_set x = reads (λ y. list_any is_such (items_in y)) false (λ ts. refl) (λ k ts h. refl) (λ s ts us x. any_set x) (λ k ts us x. refl) (λ k i. refl) x

items_at : {ss : List Slot} {ts us : List Node} → FieldsSet ss ts us → (i : ℕ) → list_any is_such (items_of (slice_get us i)) ≡ list_any is_such (items_of (slice_get ts i))
items_at {ss = ss} {ts = ts} {us = us} x i = at (both_at x i)
  where
    at : Both ss ts us i → list_any is_such (items_of (slice_get us i)) ≡ list_any is_such (items_of (slice_get ts i))
    at (inl (e, f)) = ap (λ o. list_any is_such (items_of o)) f ∙ sym (ap (λ o. list_any is_such (items_of o)) e)
    at (inr (s, c, d, z, e, f, y)) = ap (λ o. list_any is_such (items_of o)) f ∙ items_set y ∙ sym (ap (λ o. list_any is_such (items_of o)) e)

function_plain : (k : Kind) (ts : List Node) → IsTrue (can_pair k) → function_has_rest_or_default (Node-F.Tree k ts) ≡ false
function_plain kind.Function ts h = absurd (cc)
function_plain _ ts h = refl

function_trees : (k : Kind) (ts us : List Node) → FieldsSet (slots_of k) ts us → function_has_rest_or_default (Node-F.Tree k us) ≡ function_has_rest_or_default (Node-F.Tree k ts)
function_trees kind.Function ts us x = items_at x function.PARAMS
function_trees _ ts us x = refl

function_set : {s : Slot} {t u : Node} → Sets s t u → function_has_rest_or_default (out-Node u) ≡ function_has_rest_or_default (out-Node t)
function_set x = reads function_has_rest_or_default false (λ ts. refl) function_plain (λ s ts us x. refl) function_trees (λ k i. refl) x

uses_set : (k : Kind) (ts us : List Node) → FieldsSet (slots_of k) ts us → uses_own_name (Node-F.Tree k us) ≡ uses_own_name (Node-F.Tree k ts)
uses_set kind.FnDecl ts us x = given_set function_has_rest_or_default (λ s t u x. function_set x) x fn_decl.FUNCTION
uses_set kind.FnExpr ts us x = given_set function_has_rest_or_default (λ s t u x. function_set x) x fn_decl.FUNCTION
uses_set _ ts us x = refl

pub own_set : (k : Kind) (ts us : List Node) → FieldsSet (slots_of k) ts us → (i : ℕ) → own_name_below k us i ≡ own_name_below k ts i
own_set k ts us x i =
    ap (λ b. cond (i == fn_decl.FUNCTION && b) (name_of (slice_get us 0)) None) (uses_set k ts us x) ∙ ap (λ o. cond (i == fn_decl.FUNCTION && uses_own_name (Node-F.Tree k ts)) o None) (name_first k ts us x)
