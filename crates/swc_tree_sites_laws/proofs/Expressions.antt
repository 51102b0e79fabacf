-- An expression has the same names wherever it stands, but for a default export.
use Rattle.std.proofs.Common.{◌≡◌, ℕ, zero, suc, Bool, true, false, not, ◌&&◌, ◌||◌, IsTrue, Option, Some, List, [], ◌∷◌, refl, sym, ap, ◌∙◌, cond, true≢false}
use Rattle.std.specs.List.{list_all, slice_get}
use Rattle.std.specs.Prelude.{unwrap_or, option_map}
use Rattle.swc_tree_marks.specs.declared.ident.Ident.{Ident}
use Rattle.swc_tree_node.specs.declared.kind.Kind.{Kind}
use Rattle.swc_tree_node.specs.declared.kind.Kind.TheVariants as kind
use Rattle.swc_tree_node.specs.declared.kind.Class.TheVariants as class
use Rattle.swc_tree_node.specs.declared.slot.Role.{Role}
use Rattle.swc_tree_node.specs.declared.slot.Role.TheVariants as role
use Rattle.swc_tree_node.specs.declared.slot.Slot.{Slot}
use Rattle.swc_tree_node.specs.declared.node.Node.{Node, Identifier, Tree}
use Rattle.swc_tree_node.specs.declared.node.Node.TheOpen.{Node-F}
use Rattle.swc_tree_node.specs.declared.node.Node.TheVariants.{outs-Identifier, outs-Tree}
use Rattle.swc_tree_node.specs.Table.{fields_of, is_identifier}
use Rattle.swc_tree_node.specs.Fits.{Fits, belongs}
use Rattle.swc_tree_node.proofs.Fit.{fits-Absent, fits-Flag, fits-Word, fits-Text, fits-Span, fits-List, fits-Identifier, both, tree_opens}
use Rattle.swc_tree_scoping.specs.declared.places.Standing.{Standing}
use Rattle.swc_tree_scoping.specs.declared.places.Standing.TheVariants as standing
use Rattle.swc_tree_scoping.specs.declared.places.Place.{Place}
use Rattle.swc_tree_scoping.specs.declared.places.Scope.{Scope}
use Rattle.swc_tree_scoping.specs.declared.places.Scope.TheVariants as scope
use Rattle.swc_tree_scoping.specs.Places.{binds_patterns, field_role, has_own_name, is_expression_in, is_identifier_expression, name_scope, nested_below, opened_as, own_name, part_standing, place_in, standing_below, view_from}
use Rattle.swc_tree_scoping.specs.Scopes.{view_in}
use Rattle.swc_tree_scoping.specs.Folds.{each_in}
use Rattle.swc_tree_grammar.proofs.Induction.{by_children}
use Rattle.swc_tree_grammar.proofs.Places.{one}
use Rattle.swc_tree_sites.specs.Sites.{in_scope, name_sites}
use Rattle.swc_tree_sites.proofs.Kept.{E, S, out_step}

-- a place in strict code
abbrev pub P : Standing → Bool → Place
P r n = record { standing = r; strict = true; nested = n }

abbrev pub is_default : Standing → Bool
is_default standing.DefaultExport = true
is_default _ = false

-- where an expression may stand, and what patterns are made of
abbrev pub is_part : Standing → Bool
is_part standing.Reference = true
is_part standing.Body = true
is_part standing.Variable = true
is_part standing.Lexical = true
is_part standing.Parameter = true
is_part standing.CatchParameter = true
is_part _ = false

-- a node in whose fields the standing of the whole does not show
abbrev is_free_role : Role → Bool
is_free_role role.Inherited = false
is_free_role role.Function = false
is_free_role _ = true

expression_roles : (k : Kind) → (not (belongs k class.Expr) || list_all (λ f. is_free_role f.2) (fields_of k)) ≡ true
expression_roles kind.Module = refl
expression_roles _ = refl

second : (a b : Bool) → (not a || b) ≡ true → a ≡ true → b ≡ true
second true b h e = h
second false b h e = absurd (cc)

role_is : Option (List ℕ × Slot × Role) → Role
role_is o = unwrap_or (option_map (λ f. f.2) o) role.Plain

free_at : (fs : List (List ℕ × Slot × Role)) (i : ℕ) → list_all (λ f. is_free_role f.2) fs ≡ true → is_free_role (unwrap_or (option_map (λ f. f.2) (slice_get fs i)) role.Plain) ≡ true
free_at [] i h = refl
free_at (f ∷ fs) zero h = (both (is_free_role f.2) (list_all (λ f. is_free_role f.2) fs) h).0
free_at (f ∷ fs) (suc i) h = free_at fs i (both (is_free_role f.2) (list_all (λ f. is_free_role f.2) fs) h).1

free_role : (k : Kind) (i : ℕ) → IsTrue (belongs k class.Expr) → is_free_role (field_role k i) ≡ true
free_role k i b = free_at (fields_of k) i (second (belongs k class.Expr) (list_all (λ f. is_free_role f.2) (fields_of k)) (expression_roles k) b)

scope_alike : (p q : Standing) (b : Bool) (s : Scope) → is_default p ≡ false → is_default q ≡ false → name_scope p b s ≡ name_scope q b s
scope_alike standing.DefaultExport q b s d e = absurd (cc)
scope_alike standing.Plain standing.DefaultExport b s d e = absurd (cc)
scope_alike _ standing.DefaultExport b s d e = absurd (cc)
scope_alike standing.Plain _ b s d e = refl
scope_alike _ _ b s d e = refl

name_alike : (p q : Standing) (k : Kind) → is_default p ≡ false → is_default q ≡ false → own_name p k ≡ own_name q k
name_alike standing.DefaultExport q k d e = absurd (cc)
name_alike standing.Plain standing.DefaultExport k d e = absurd (cc)
name_alike _ standing.DefaultExport k d e = absurd (cc)
name_alike standing.Plain _ k d e = refl
name_alike _ _ k d e = refl

opened_alike : (k : Kind) (p q : Standing) (n b : Bool) → is_default p ≡ false → is_default q ≡ false → IsTrue (belongs k class.Expr) → opened_as (P p n) k b ≡ opened_as (P q n) k b
opened_alike kind.FnExpr p q n b d e h = scope_alike p q b scope.FunctionName d e
opened_alike kind.ClassExpr p q n b d e h = scope_alike p q b scope.ClassName d e
opened_alike kind.BlockStmt p q n b d e h = absurd (true≢false (sym h))
opened_alike kind.FnDecl p q n b d e h = absurd (true≢false (sym h))
opened_alike _ p q n b d e h = refl

standing_alike : (k : Kind) (ts : List Node) (i : ℕ) (x : Role) (p q : Standing) (n : Bool) → is_default p ≡ false → is_default q ≡ false → is_free_role x ≡ true → standing_below (P p n) k ts i x ≡ standing_below (P q n) k ts i x
standing_alike k ts i role.Inherited p q n d e h = absurd (cc)
standing_alike k ts i role.Function p q n d e h = absurd (cc)
standing_alike k ts i role.OwnName p q n d e h = name_alike p q k d e
standing_alike k ts i role.Plain p q n d e h = refl
standing_alike k ts i _ p q n d e h = refl

-- two places of what stands in the fields
below_alike : (k : Kind) (ts : List Node) (i : ℕ) (p q : Standing) (n : Bool) → is_default p ≡ false → is_default q ≡ false → IsTrue (belongs k class.Expr) → place_in (P p n) (Node-F.Tree k ts) i ≡ place_in (P q n) (Node-F.Tree k ts) i
below_alike k ts i p q n d e h = λ j. record {
  standing = standing_alike k ts i (field_role k i) p q n d e (free_role k i h) j;
  strict = true;
  nested = nested_below n (opened_alike k p q n (has_own_name ts) d e h j) (view_from k i);
}

-- an expression that is no identifier
pub tree_alike : (k : Kind) (ts : List Node) (p q : Standing) (n : Bool) → is_default p ≡ false → is_default q ≡ false → IsTrue (belongs k class.Expr) → S (P p n) (Tree k ts) ≡ S (P q n) (Tree k ts)
tree_alike k ts p q n d e h =
    out_step (P p n) (Tree k ts) (Node-F.Tree k ts) (outs-Tree k ts)
    ∙ (λ j. in_scope (opened_alike k p q n (has_own_name ts) d e h j) (view_in (Node-F.Tree k ts)) (each_in S (λ i. below_alike k ts i p q n d e h j) ts))
    ∙ sym (out_step (P q n) (Tree k ts) (Node-F.Tree k ts) (outs-Tree k ts))

pub of_identifier : (w : Place) (k : Kind) (i : Ident) → S w (Identifier k i) ≡ name_sites w.standing i
of_identifier w k i = out_step w (Identifier k i) (Node-F.Identifier k i) (outs-Identifier k i)

abbrev Alike : Node → Type 0
Alike t = (p : Standing) (n : Bool) → Fits t (one class.Expr) → is_part p ≡ true → S (P (part_standing p (Some t)) n) t ≡ S (E n) t

expression_identifier : (k : Kind) (i : Ident) → Fits (Identifier k i) (one class.Expr) → is_identifier_expression (Some (Identifier k i)) ≡ true
expression_identifier k i f = ap is_expression_in (outs-Identifier k i) ∙ at k i (both (is_identifier k) (belongs k class.Expr) (sym (fits-Identifier k i (one class.Expr)) ∙ f)).0 (both (is_identifier k) (belongs k class.Expr) (sym (fits-Identifier k i (one class.Expr)) ∙ f)).1
  where
    at : (k : Kind) (i : Ident) → IsTrue (is_identifier k) → IsTrue (belongs k class.Expr) → is_expression_in (Node-F.Identifier k i) ≡ true
    at kind.Ident i a b = refl
    at kind.BindingIdent i a b = absurd (cc)
    at _ i a b = absurd (cc)

named_alike : (p : Standing) (b : Bool) (i : Ident) → b ≡ true → is_part p ≡ true → name_sites (cond (binds_patterns p && b) standing.Reference p) i ≡ name_sites standing.Reference i
named_alike standing.Reference b i e h = refl
named_alike standing.Body b i e h = refl
named_alike standing.Variable b i e h = ap (λ b. name_sites (cond b standing.Reference standing.Variable) i) e
named_alike standing.Lexical b i e h = ap (λ b. name_sites (cond b standing.Reference standing.Lexical) i) e
named_alike standing.Parameter b i e h = ap (λ b. name_sites (cond b standing.Reference standing.Parameter) i) e
named_alike standing.CatchParameter b i e h = ap (λ b. name_sites (cond b standing.Reference standing.CatchParameter) i) e
named_alike _ b i e h = absurd (cc)

part_no_default : (p : Standing) (b : Bool) → is_part p ≡ true → is_default (cond b standing.Reference p) ≡ false
part_no_default p true h = refl
part_no_default standing.DefaultExport false h = absurd (cc)
part_no_default standing.Plain false h = refl
part_no_default _ false h = refl

-- an expression, as a part of a pattern or anywhere else, has the names that it has as an expression
pub alike : (t : Node) → Alike t
alike t = by_children Alike (
  λ p n f h. absurd (cc (sym (fits-Absent (one class.Expr)) ∙ f)),
  λ x p n f h. absurd (cc (sym (fits-Flag x (one class.Expr)) ∙ f)),
  λ w p n f h. absurd (cc (sym (fits-Word w (one class.Expr)) ∙ f)),
  λ x p n f h. absurd (cc (sym (fits-Text x (one class.Expr)) ∙ f)),
  λ r p n f h. absurd (cc (sym (fits-Span r (one class.Expr)) ∙ f)),
  λ k i p n f h. of_identifier (P (part_standing p (Some (Identifier k i))) n) k i ∙ named_alike p (is_identifier_expression (Some (Identifier k i))) i (expression_identifier k i f) h ∙ sym (of_identifier (E n) k i),
)
    (λ ts b p n f h. absurd (cc (sym (fits-List ts (one class.Expr)) ∙ f)))
    (λ k ts b p n f h. tree_alike k ts (part_standing p (Some (Tree k ts))) standing.Reference n (part_no_default p (binds_patterns p && is_identifier_expression (Some (Tree k ts))) h) refl (tree_opens k ts class.Expr f).1) t
