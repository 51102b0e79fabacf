-- Where pairs of parentheses and sequences may stand, no scope opens and no name counts as used.
use Rattle.std.proofs.Common.{◌≡◌, ℕ, Bool, true, false, not, ◌&&◌, ◌==◌, Option, Some, None, List, refl, sym, ap, ◌∙◌, cond}
use Rattle.std.specs.List.{slice_get}
use Rattle.std.proofs.lemmas.Bool.{eqb-true}
use Rattle.std.proofs.lemmas.List.{append-nil}
use Rattle.swc_tree_marks.specs.declared.ident.Ident.{Ident}
use Rattle.swc_tree_marks.specs.declared.span.Span.{Span as Range}
use Rattle.swc_tree_node.specs.declared.fields.statements.fn_decl.TheConstants as fn_decl
use Rattle.swc_tree_node.specs.declared.fields.statements.for_in_stmt.TheConstants as for_in_stmt
use Rattle.swc_tree_node.specs.declared.fields.statements.for_of_stmt.TheConstants as for_of_stmt
use Rattle.swc_tree_node.specs.declared.fields.statements.for_stmt.TheConstants as for_stmt
use Rattle.swc_tree_node.specs.declared.kind.Kind.{Kind}
use Rattle.swc_tree_node.specs.declared.kind.Kind.TheVariants as kind
use Rattle.swc_tree_node.specs.declared.slot.Slot.{Slot}
use Rattle.swc_tree_node.specs.declared.node.Node.{Node, Span}
use Rattle.swc_tree_node.specs.declared.node.Node.TheOpen.{Node-F}
use Rattle.swc_tree_node.specs.declared.node.Node.TheVariants.{outs-Span}
use Rattle.swc_tree_node.specs.Table.{slots_of}
use Rattle.swc_tree_scoping.specs.declared.places.Place.{Place}
use Rattle.swc_tree_scoping.specs.Places.{is_at}
use Rattle.swc_tree_scoping.specs.BoundNames.{name_of}
use Rattle.swc_tree_sites_laws.proofs.Parts.{has_pairs}
use Rattle.swc_base_rename_analysis.specs.Analysis.{body_field, uses_own_name}
use Rattle.swc_base_rename_analysis.specs.Walk.{own_name_below}
use Rattle.swc_base_renaming_laws.specs.Meetings.{Meeting, Met, both, nothing}
use Rattle.swc_base_renaming_laws.proofs.Meets.{M, out_is}

abbrev pub Kept : Bool → Option Ident → Slot → Type 0
Kept f own s = has_pairs s ≡ true → (f ≡ false) × (own ≡ None)

abbrev is_closed : Option Slot → Bool
is_closed None = true
is_closed (Some s) = not (has_pairs s)

number_differs : (n i : ℕ) (ss : List Slot) (s : Slot) → is_closed (slice_get ss n) ≡ true → slice_get ss i ≡ Some s → has_pairs s ≡ true → n ≡ i → ⊥
number_differs n i ss s c e h same =
    let z : not (has_pairs s) ≡ true = sym (ap is_closed (ap (slice_get ss) same ∙ e)) ∙ c in
    absurd (cc (sym z ∙ ap not h))

not_at : (n i : ℕ) (ss : List Slot) (s : Slot) → is_closed (slice_get ss n) ≡ true → slice_get ss i ≡ Some s → has_pairs s ≡ true → (n == i) ≡ false
not_at n i ss s c e h = by (n == i) refl
  where
    by : (b : Bool) → (n == i) ≡ b → (n == i) ≡ false
    by false g = g
    by true g = absurd (number_differs n i ss s c e h (eqb-true n i g))

at_not : (n i : ℕ) (ss : List Slot) (s : Slot) → is_closed (slice_get ss n) ≡ true → slice_get ss i ≡ Some s → has_pairs s ≡ true → (i == n) ≡ false
at_not n i ss s c e h = by (i == n) refl
  where
    by : (b : Bool) → (i == n) ≡ b → (i == n) ≡ false
    by false g = g
    by true g = absurd (number_differs n i ss s c e h (sym (eqb-true i n g)))

pub no_body : (k : Kind) (i : ℕ) (s : Slot) → slice_get (slots_of k) i ≡ Some s → has_pairs s ≡ true → is_at (body_field k) i ≡ false
no_body kind.ForStmt i s e h = not_at for_stmt.BODY i (slots_of kind.ForStmt) s refl e h
no_body kind.ForInStmt i s e h = not_at for_in_stmt.BODY i (slots_of kind.ForInStmt) s refl e h
no_body kind.ForOfStmt i s e h = not_at for_of_stmt.BODY i (slots_of kind.ForOfStmt) s refl e h
no_body _ i s e h = refl

and_false : (b : Bool) → (b && false) ≡ false
and_false true = refl
and_false false = refl

pub no_own : (k : Kind) (ts : List Node) (i : ℕ) (s : Slot) → slice_get (slots_of k) i ≡ Some s → has_pairs s ≡ true → own_name_below k ts i ≡ None
no_own kind.FnDecl ts i s e h = ap (λ b. cond (b && uses_own_name (Node-F.Tree kind.FnDecl ts)) (name_of (slice_get ts fn_decl.IDENT)) None) (at_not fn_decl.FUNCTION i (slots_of kind.FnDecl) s refl e h)
no_own kind.FnExpr ts i s e h = ap (λ b. cond (b && uses_own_name (Node-F.Tree kind.FnExpr ts)) (name_of (slice_get ts fn_decl.IDENT)) None) (at_not fn_decl.FUNCTION i (slots_of kind.FnExpr) s refl e h)
no_own _ ts i s e h = ap (λ b. cond b (name_of (slice_get ts fn_decl.IDENT)) None) (and_false (i == fn_decl.FUNCTION))

-- so what meets there is what meets with neither
pub plainly : (a b : Meeting) (f : Bool) (own : Option Ident) → (f ≡ false) × (own ≡ None) → a false None ≡ b false None → a f own ≡ b f own
plainly a b f own h e = ap (λ f. a f own) h.0 ∙ ap (a false) h.1 ∙ e ∙ sym (ap (λ f. b f own) h.0 ∙ ap (b false) h.1)

-- ---- parts that meet nothing

pub both_nothing : (m : Met) → both m nothing ≡ m
both_nothing m = λ i. record { pending = append-nil m.pending i; names = append-nil m.names i; pairs = append-nil m.pairs i }

pub span_nothing : (w : Place) (r : Range) (f : Bool) (own : Option Ident) → M w (Span r) f own ≡ nothing
span_nothing w r f own = out_is w (Span r) (Node-F.Span r) f own (outs-Span r)

-- each field with what is round it
abbrev pub with_own : (ℕ → Bool) → (ℕ → Option Ident) → ℕ → Meeting → Met
with_own b o i m = m (b i) (o i)
