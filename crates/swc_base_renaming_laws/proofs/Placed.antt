-- What meets in a node goes by as what the node stands, and there a branch is as any statement and one function's name as another's.
use Rattle.std.proofs.Common.{◌≡◌, ℕ, zero, suc, Bool, true, false, not, ◌&&◌, ◌==◌, Option, Some, None, List, [], ◌∷◌, refl, sym, ap, ◌∙◌, cond}
use Rattle.std.specs.List.{slice_get}
use Rattle.std.specs.Option.{option_and_then}
use Rattle.swc_tree_marks.specs.declared.ident.Ident.{Ident}
use Rattle.swc_tree_node.specs.declared.kind.Kind.{Kind}
use Rattle.swc_tree_node.specs.declared.kind.Kind.TheVariants as kind
use Rattle.swc_tree_node.specs.declared.slot.Role.{Role}
use Rattle.swc_tree_node.specs.declared.slot.Role.TheVariants as role
use Rattle.swc_tree_node.specs.declared.node.Node.{Node, out-Node}
use Rattle.swc_tree_node.specs.declared.node.Node.TheOpen.{Node-F}
use Rattle.swc_tree_scoping.specs.declared.places.Standing.{Standing}
use Rattle.swc_tree_scoping.specs.declared.places.Standing.TheVariants as standing
use Rattle.swc_tree_scoping.specs.declared.places.Place.{Place}
use Rattle.swc_tree_scoping.specs.declared.places.Scope.{Scope}
use Rattle.swc_tree_scoping.specs.declared.places.Scope.TheVariants as scope
use Rattle.swc_tree_scoping.specs.Folds.{each_in}
use Rattle.swc_tree_scoping.specs.Places.{binds_patterns, block_scope, child, children_in, default_name, expression_name, field_role, function_standing, has_own_name, is_identifier_expression, name_scope, own_block, own_name, part_standing, place_below, place_in, standing_below}
use Rattle.swc_tree_scoping.proofs.Under.{by_children, fold_in_place_out}
use Rattle.swc_base_rename_analysis.specs.declared.scopes.ScopeKind.{ScopeKind}
use Rattle.swc_base_rename_analysis.specs.Analysis.{body_kind, has_identifier, is_default_export, is_outside, kind_of, own_kind}
use Rattle.swc_base_renaming_laws.specs.Meetings.{Meeting, Met, both, field_met, fields_where, in_scope, met_in, met_step, name_met, tree_met}
use Rattle.swc_base_renaming_laws.proofs.Meets.{M}

-- as what a node stands, as far as it matters
abbrev pub sort : Standing → Standing
sort standing.Branch = standing.Plain
sort standing.BlockFunction = standing.Function
sort standing.SloppyFunction = standing.Function
sort r = r

name_sort : (r : Standing) (i : Ident) → name_met r i ≡ name_met (sort r) i
name_sort standing.Branch i = refl
name_sort standing.BlockFunction i = refl
name_sort standing.SloppyFunction i = refl
name_sort r i = refl

default_sort : (r : Standing) → is_default_export r ≡ is_default_export (sort r)
default_sort standing.Branch = refl
default_sort standing.BlockFunction = refl
default_sort standing.SloppyFunction = refl
default_sort r = refl

block_sort : (r : Standing) → block_scope r ≡ block_scope (sort r)
block_sort standing.Branch = refl
block_sort standing.BlockFunction = refl
block_sort standing.SloppyFunction = refl
block_sort r = refl

named_sort : (r : Standing) (b : Bool) (s : Scope) → name_scope r b s ≡ name_scope (sort r) b s
named_sort standing.Branch b s = refl
named_sort standing.BlockFunction b s = refl
named_sort standing.SloppyFunction b s = refl
named_sort r b s = refl

own_sort : (r : Standing) (k : Kind) → own_name r k ≡ own_name (sort r) k
own_sort standing.Branch k = refl
own_sort standing.BlockFunction k = refl
own_sort standing.SloppyFunction k = refl
own_sort r k = refl

reference_or : (b : Bool) (r : Standing) → sort r ≡ r → sort (cond b standing.Reference r) ≡ cond b standing.Reference r
reference_or true r e = refl
reference_or false r e = e

part_sort : (r : Standing) (o : Option Node) → sort (part_standing r o) ≡ part_standing (sort r) o
part_sort standing.Branch o = refl
part_sort standing.BlockFunction o = refl
part_sort standing.SloppyFunction o = refl
part_sort standing.Variable o = reference_or (is_identifier_expression o) standing.Variable refl
part_sort standing.Lexical o = reference_or (is_identifier_expression o) standing.Lexical refl
part_sort standing.Parameter o = reference_or (is_identifier_expression o) standing.Parameter refl
part_sort standing.CatchParameter o = reference_or (is_identifier_expression o) standing.CatchParameter refl
part_sort r o = refl

function_chosen : (a b : Bool) → sort (cond a standing.Function (cond b standing.SloppyFunction standing.BlockFunction)) ≡ standing.Function
function_chosen true b = refl
function_chosen false true = refl
function_chosen false false = refl

-- the place of a field goes by that of the node
pub role_sort : (w v : Place) (k : Kind) (ts : List Node) (i : ℕ) (r : Role) → sort w.standing ≡ sort v.standing → sort (standing_below w k ts i r) ≡ sort (standing_below v k ts i r)
role_sort w v k ts i role.Inherited e = part_sort w.standing (slice_get ts i) ∙ ap (λ r. part_standing r (slice_get ts i)) e ∙ sym (part_sort v.standing (slice_get ts i))
role_sort w v k ts i role.OwnName e = ap sort (own_sort w.standing k ∙ ap (λ r. own_name r k) e ∙ sym (own_sort v.standing k))
role_sort w v k ts i role.Function e = function_chosen _ _ ∙ sym (function_chosen _ _)
role_sort w v k ts i role.Plain e = refl
role_sort w v k ts i r e = refl

child_sort : (w v : Place) (y : Node-F Node) (i : ℕ) → sort w.standing ≡ sort v.standing → sort (place_in w y i).standing ≡ sort (place_in v y i).standing
child_sort w v (Node-F.Tree k ts) i e = role_sort w v k ts i (field_role k i) e
child_sort w v (Node-F.List ts) i e = part_sort w.standing (slice_get ts i) ∙ ap (λ r. part_standing r (slice_get ts i)) e ∙ sym (part_sort v.standing (slice_get ts i))
child_sort w v y i e = refl

outside_same : (w v : Place) (k : Kind) (n : Bool) (i : ℕ) → sort w.standing ≡ sort v.standing → is_outside w k n i ≡ is_outside v k n i
outside_same w v kind.ClassExpr n i e = ap (λ d. d && (n && i == 0)) (default_sort w.standing ∙ ap is_default_export e ∙ sym (default_sort v.standing))
outside_same w v k n i e = refl

kind_same : (w v : Place) (k : Kind) (b : Bool) → sort w.standing ≡ sort v.standing → own_kind w k b ≡ own_kind v k b
kind_same w v kind.ClassExpr b e = refl
kind_same w v kind.FnDecl b e = refl
kind_same w v kind.FnExpr b e = ap (option_and_then kind_of) (named_sort w.standing b scope.FunctionName ∙ ap (λ r. name_scope r b scope.FunctionName) e ∙ sym (named_sort v.standing b scope.FunctionName))
kind_same w v kind.BlockStmt b e = ap (option_and_then kind_of) (block_sort w.standing ∙ ap block_scope e ∙ sym (block_sort v.standing))
kind_same w v k b e = refl

layer_same : (w v : Place) (y : Node-F Node) (ms : List Meeting) → sort w.standing ≡ sort v.standing → met_in w y ms ≡ met_in v y ms
layer_same w v (Node-F.Identifier k i) ms e = λ j f own. (name_sort w.standing i ∙ ap (λ r. name_met r i) e ∙ sym (name_sort v.standing i)) j
layer_same w v (Node-F.Tree k ts) ms e = λ j f own.
    both (fields_where (λ i. outside_same w v k (has_identifier ts) i e j) (field_met k ts) ms)
    (in_scope (body_kind f (kind_same w v k (has_own_name ts) e j)) own (fields_where (λ i. not (outside_same w v k (has_identifier ts) i e j)) (field_met k ts) ms))
layer_same w v (Node-F.List ts) ms e = refl
layer_same w v Node-F.Absent ms e = refl
layer_same w v (Node-F.Flag x) ms e = refl
layer_same w v (Node-F.Word x) ms e = refl
layer_same w v (Node-F.Text x) ms e = refl
layer_same w v (Node-F.Span x) ms e = refl

abbrev Same : Node → Type 0
Same t = (w v : Place) → sort w.standing ≡ sort v.standing → M w t ≡ M v t

each_same : (ps qs : ℕ → Place) (ts : List Node) → ((i : ℕ) → sort (ps i).standing ≡ sort (qs i).standing) → ((i : ℕ) (c : Node) → slice_get ts i ≡ Some c → Same c) → each_in M ps ts ≡ each_in M qs ts
each_same ps qs [] e h = refl
each_same ps qs (t ∷ ts) e h = λ j. h zero t refl (ps zero) (qs zero) (e zero) j ∷ each_same (λ i. ps (suc i)) (λ i. qs (suc i)) ts (λ i. e (suc i)) (λ i c g. h (suc i) c g) j

pub placed : (t : Node) → Same t
placed = by_children Same (λ t below w v e.
    fold_in_place_out met_step w t
    ∙ layer_same w v (out-Node t) (each_in M (place_below w t) (children_in (out-Node t))) e
    ∙ ap (met_in v (out-Node t)) (each_same (place_below w t) (place_below v t) (children_in (out-Node t)) (λ i. child_sort w v (out-Node t) i e) below)
    ∙ sym (fold_in_place_out met_step v t))
