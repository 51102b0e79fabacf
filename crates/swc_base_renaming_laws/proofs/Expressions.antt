-- In an expression the same ids meet wherever it stands, but for a default export.
use Rattle.std.proofs.Common.{◌≡◌, ℕ, zero, suc, Bool, true, false, not, ◌&&◌, ◌||◌, ◌==◌, IsTrue, Option, Some, List, [], ◌∷◌, refl, sym, ap, ◌∙◌, cond}
use Rattle.std.specs.List.{list_all, slice_get}
use Rattle.std.specs.Option.{option_and_then}
use Rattle.std.specs.Prelude.{unwrap_or, option_map}
use Rattle.swc_tree_marks.specs.declared.ident.Ident.{Ident}
use Rattle.swc_tree_node.specs.declared.kind.Kind.{Kind}
use Rattle.swc_tree_node.specs.declared.kind.Kind.TheVariants as kind
use Rattle.swc_tree_node.specs.declared.kind.Class.TheVariants as class
use Rattle.swc_tree_node.specs.declared.slot.Role.{Role}
use Rattle.swc_tree_node.specs.declared.slot.Role.TheVariants as role
use Rattle.swc_tree_node.specs.declared.slot.Slot.{Slot}
use Rattle.swc_tree_node.specs.declared.node.Node.{Node, Identifier, Tree}
use Rattle.swc_tree_node.specs.declared.node.Node.TheOpen.{Node-F}
use Rattle.swc_tree_node.specs.declared.node.Node.TheVariants.{outs-Identifier, outs-Tree}
use Rattle.swc_tree_node.specs.Table.{fields_of, is_identifier}
use Rattle.swc_tree_node.specs.Fits.{Fits, belongs}
use Rattle.swc_tree_node.proofs.Fit.{fits-Absent, fits-Flag, fits-Word, fits-Text, fits-Span, fits-List, fits-Identifier, both as both_are, tree_opens}
use Rattle.swc_tree_scoping.specs.declared.places.Standing.{Standing}
use Rattle.swc_tree_scoping.specs.declared.places.Standing.TheVariants as standing
use Rattle.swc_tree_scoping.specs.declared.places.Place.{Place}
use Rattle.swc_tree_scoping.specs.declared.places.Scope.{Scope}
use Rattle.swc_tree_scoping.specs.declared.places.Scope.TheVariants as scope
use Rattle.swc_tree_scoping.specs.Places.{binds_patterns, field_role, has_own_name, is_expression_in, is_identifier_expression, name_scope, own_name, part_standing, place_in, standing_below}
use Rattle.swc_tree_scoping.specs.Folds.{each_in}
use Rattle.swc_tree_grammar.proofs.Induction.{by_children}
use Rattle.swc_tree_grammar.proofs.Places.{one}
use Rattle.swc_tree_sites_laws.proofs.Expressions.{P, is_part}
use Rattle.swc_base_rename_analysis.specs.Analysis.{body_kind, has_identifier, is_default_export, is_outside, kind_of, own_kind}
use Rattle.swc_base_renaming_laws.specs.Meetings.{Meeting, both, field_met, fields_where, in_scope, name_met}
use Rattle.swc_base_renaming_laws.proofs.Meets.{M, out_is}
use Rattle.swc_base_renaming_laws.proofs.Placed.{placed, sort}

-- a place of which only the standing matters
abbrev pub T : Standing → Place
T p = P p false

pub each_placed : (ps qs : ℕ → Place) (ts : List Node) → ((i : ℕ) → sort (ps i).standing ≡ sort (qs i).standing) → each_in M ps ts ≡ each_in M qs ts
each_placed ps qs [] e = refl
each_placed ps qs (t ∷ ts) e =
    ap (λ (m : Meeting). m ∷ each_in M (λ i. ps (suc i)) ts) (placed t (ps zero) (qs zero) (e zero)) ∙ ap (λ l. M (qs zero) t ∷ l) (each_placed (λ i. ps (suc i)) (λ i. qs (suc i)) ts (λ i. e (suc i)))

-- ---- a tree

-- a node in whose fields the standing of the whole does not show
abbrev is_free_role : Role → Bool
is_free_role role.Inherited = false
is_free_role role.Function = false
is_free_role _ = true

expression_roles : (k : Kind) → (not (belongs k class.Expr) || list_all (λ f. is_free_role f.2) (fields_of k)) ≡ true
expression_roles kind.Module = refl
expression_roles _ = refl

second : (a b : Bool) → (not a || b) ≡ true → a ≡ true → b ≡ true
second true b h e = h
second false b h e = absurd (cc)

free_at : (fs : List (List ℕ × Slot × Role)) (i : ℕ) → list_all (λ f. is_free_role f.2) fs ≡ true → is_free_role (unwrap_or (option_map (λ f. f.2) (slice_get fs i)) role.Plain) ≡ true
free_at [] i h = refl
free_at (f ∷ fs) zero h = (both_are (is_free_role f.2) (list_all (λ f. is_free_role f.2) fs) h).0
free_at (f ∷ fs) (suc i) h = free_at fs i (both_are (is_free_role f.2) (list_all (λ f. is_free_role f.2) fs) h).1

free_role : (k : Kind) (i : ℕ) → IsTrue (belongs k class.Expr) → is_free_role (field_role k i) ≡ true
free_role k i b = free_at (fields_of k) i (second (belongs k class.Expr) (list_all (λ f. is_free_role f.2) (fields_of k)) (expression_roles k) b)

scope_alike : (p q : Standing) (b : Bool) (s : Scope) → is_default_export p ≡ false → is_default_export q ≡ false → name_scope p b s ≡ name_scope q b s
scope_alike standing.DefaultExport q b s d e = absurd (cc)
scope_alike standing.Plain standing.DefaultExport b s d e = absurd (cc)
scope_alike _ standing.DefaultExport b s d e = absurd (cc)
scope_alike standing.Plain _ b s d e = refl
scope_alike _ _ b s d e = refl

name_alike : (p q : Standing) (k : Kind) → is_default_export p ≡ false → is_default_export q ≡ false → own_name p k ≡ own_name q k
name_alike standing.DefaultExport q k d e = absurd (cc)
name_alike standing.Plain standing.DefaultExport k d e = absurd (cc)
name_alike _ standing.DefaultExport k d e = absurd (cc)
name_alike standing.Plain _ k d e = refl
name_alike _ _ k d e = refl

module _ (p q : Standing) (d : is_default_export p ≡ false) (e : is_default_export q ≡ false) where
  standing_alike : (k : Kind) (ts : List Node) (i : ℕ) (x : Role) → is_free_role x ≡ true → standing_below (T p) k ts i x ≡ standing_below (T q) k ts i x
  standing_alike k ts i role.Inherited h = absurd (cc)
  standing_alike k ts i role.Function h = absurd (cc)
  standing_alike k ts i role.OwnName h = name_alike p q k d e
  standing_alike k ts i role.Plain h = refl
  standing_alike k ts i _ h = refl

  outside_alike : (k : Kind) (n : Bool) (i : ℕ) → is_outside (T p) k n i ≡ is_outside (T q) k n i
  outside_alike kind.ClassExpr n i = ap (λ b. b && (n && i == 0)) (d ∙ sym e)
  outside_alike k n i = refl

  kind_alike : (k : Kind) (b : Bool) → IsTrue (belongs k class.Expr) → own_kind (T p) k b ≡ own_kind (T q) k b
  kind_alike kind.ClassExpr b h = refl
  kind_alike kind.FnDecl b h = refl
  kind_alike kind.FnExpr b h = ap (option_and_then kind_of) (scope_alike p q b scope.FunctionName d e)
  kind_alike kind.BlockStmt b h = absurd (cc)
  kind_alike k b h = refl

  kids_alike : (k : Kind) (ts : List Node) → IsTrue (belongs k class.Expr) → each_in M (place_in (T p) (Node-F.Tree k ts)) ts ≡ each_in M (place_in (T q) (Node-F.Tree k ts)) ts
  kids_alike k ts h = each_placed (place_in (T p) (Node-F.Tree k ts)) (place_in (T q) (Node-F.Tree k ts)) ts (λ i. ap sort (standing_alike k ts i (field_role k i) (free_role k i h)))

  -- an expression that is no identifier
  pub tree_alike : (k : Kind) (ts : List Node) → IsTrue (belongs k class.Expr) → M (T p) (Tree k ts) ≡ M (T q) (Tree k ts)
  tree_alike k ts h = λ j f own. (
      out_is (T p) (Tree k ts) (Node-F.Tree k ts) f own (outs-Tree k ts)
      ∙ (λ j. both (fields_where (λ i. outside_alike k (has_identifier ts) i j) (field_met k ts) (kids_alike k ts h j))
      (in_scope (body_kind f (kind_alike k (has_own_name ts) h j)) own (fields_where (λ i. not (outside_alike k (has_identifier ts) i j)) (field_met k ts) (kids_alike k ts h j))))
      ∙ sym (out_is (T q) (Tree k ts) (Node-F.Tree k ts) f own (outs-Tree k ts))) j

-- ---- an expression

pub of_identifier : (w : Place) (k : Kind) (i : Ident) (f : Bool) (own : Option Ident) → M w (Identifier k i) f own ≡ name_met w.standing i
of_identifier w k i f own = out_is w (Identifier k i) (Node-F.Identifier k i) f own (outs-Identifier k i)

named_alike : (p : Standing) (b : Bool) (i : Ident) → b ≡ true → is_part p ≡ true → name_met (cond (binds_patterns p && b) standing.Reference p) i ≡ name_met standing.Reference i
named_alike standing.Reference b i e h = refl
named_alike standing.Body b i e h = refl
named_alike standing.Variable b i e h = ap (λ b. name_met (cond b standing.Reference standing.Variable) i) e
named_alike standing.Lexical b i e h = ap (λ b. name_met (cond b standing.Reference standing.Lexical) i) e
named_alike standing.Parameter b i e h = ap (λ b. name_met (cond b standing.Reference standing.Parameter) i) e
named_alike standing.CatchParameter b i e h = ap (λ b. name_met (cond b standing.Reference standing.CatchParameter) i) e
named_alike _ b i e h = absurd (cc)

expression_identifier : (k : Kind) (i : Ident) → Fits (Identifier k i) (one class.Expr) → is_identifier_expression (Some (Identifier k i)) ≡ true
expression_identifier k i f = ap is_expression_in (outs-Identifier k i) ∙ at k i (both_are (is_identifier k) (belongs k class.Expr) (sym (fits-Identifier k i (one class.Expr)) ∙ f)).0 (both_are (is_identifier k) (belongs k class.Expr) (sym (fits-Identifier k i (one class.Expr)) ∙ f)).1
  where
    at : (k : Kind) (i : Ident) → IsTrue (is_identifier k) → IsTrue (belongs k class.Expr) → is_expression_in (Node-F.Identifier k i) ≡ true
    at kind.Ident i a b = refl
    at kind.BindingIdent i a b = absurd (cc)
    at _ i a b = absurd (cc)

pub part_no_default : (p : Standing) (b : Bool) → is_part p ≡ true → is_default_export (cond b standing.Reference p) ≡ false
part_no_default p true h = refl
part_no_default standing.DefaultExport false h = absurd (cc)
part_no_default standing.Plain false h = refl
part_no_default _ false h = refl

abbrev Alike : Node → Type 0
Alike t = (p : Standing) → Fits t (one class.Expr) → is_part p ≡ true → M (T (part_standing p (Some t))) t ≡ M (T standing.Reference) t

-- an expression, as a part of a pattern or anywhere else, meets what it meets as an expression
pub alike : (t : Node) → Alike t
alike t = by_children Alike (
  λ p f h. absurd (cc (sym (fits-Absent (one class.Expr)) ∙ f)),
  λ x p f h. absurd (cc (sym (fits-Flag x (one class.Expr)) ∙ f)),
  λ w p f h. absurd (cc (sym (fits-Word w (one class.Expr)) ∙ f)),
  λ x p f h. absurd (cc (sym (fits-Text x (one class.Expr)) ∙ f)),
  λ r p f h. absurd (cc (sym (fits-Span r (one class.Expr)) ∙ f)),
  λ k i p f h. λ j b own. (of_identifier (T (part_standing p (Some (Identifier k i)))) k i b own ∙ named_alike p (is_identifier_expression (Some (Identifier k i))) i (expression_identifier k i f) h ∙ sym (of_identifier (T standing.Reference) k i b own)) j,
)
    (λ ts b p f h. absurd (cc (sym (fits-List ts (one class.Expr)) ∙ f)))
    (λ k ts b p f h. tree_alike (part_standing p (Some (Tree k ts))) standing.Reference (part_no_default p (binds_patterns p && is_identifier_expression (Some (Tree k ts))) h) refl k ts (tree_opens k ts class.Expr f).1) t
