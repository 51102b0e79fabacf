-- Places that are alike to the analysis: functions in blocks stand as others do, and it is nothing to it whether code is strict.
use Rattle.std.proofs.Common.{◌≡◌, ℕ, Bool, true, false, not, ◌&&◌, ◌==◌, Option, Some, None, List, [], ◌∷◌, ◌++◌, map, refl, sym, ap, ◌∙◌, cond, option_and_then}
use Rattle.std.specs.Prelude.{if◌then◌else◌}
use Rattle.std.specs.List.{slice_get}
use Rattle.swc_tree_node.specs.declared.kind.Kind.{Kind}
use Rattle.swc_tree_node.specs.declared.kind.Kind.TheVariants as kind
use Rattle.swc_tree_node.specs.declared.slot.Role.{Role}
use Rattle.swc_tree_node.specs.declared.slot.Role.TheVariants as role
use Rattle.swc_tree_node.specs.declared.node.Node.{Node, out-Node}
use Rattle.swc_tree_node.specs.declared.node.Node.TheOpen.{Node-F}
use Rattle.swc_tree_node.specs.declared.fields.statements.fn_decl.TheConstants as fn_decl
use Rattle.swc_tree_node.specs.declared.fields.functions.class_expr.TheConstants as class_expr
use Rattle.swc_tree_scoping.specs.declared.places.Standing.{Standing}
use Rattle.swc_tree_scoping.specs.declared.places.Standing.TheVariants as standing
use Rattle.swc_tree_scoping.specs.declared.places.Place.{Place}
use Rattle.swc_tree_scoping.specs.declared.places.Scope.{Scope}
use Rattle.swc_tree_scoping.specs.declared.places.Scope.TheVariants as scope
use Rattle.swc_tree_scoping.specs.Places.{Path, block_scope, child, field_role, function_standing, given, has_own_name, is_plain_function, name_scope, own_name, part_standing, place_at, place_below, place_in, standing_below}
use Rattle.swc_tree_scoping.specs.Scopes.{is_binding, is_name}
use Rattle.swc_tree_scoping.proofs.Under.{no_place_under, place_under}
use Rattle.swc_base_rename_analysis.specs.declared.scopes.ScopeKind.{ScopeKind}
use Rattle.swc_base_rename_analysis.specs.declared.scopes.ScopeKind.TheVariants.{Block, Fn}
use Rattle.swc_base_rename_analysis.specs.Analysis.{body_kind, has_identifier, is_default_export, is_for_body, is_outside, kind_of, opened_here, opened_round, own_kind, scopes_below, takes}
use Rattle.swc_base_rename_analysis.proofs.Kept.{lower}
use Rattle.swc_base_rename_analysis_laws.proofs.Items.{some_same}

-- as what a node stands to the analysis
abbrev pub core : Standing → Standing
core standing.SloppyFunction = standing.Function
core standing.BlockFunction = standing.Function
core r = r

pub takes_core : (k : ScopeKind) (r : Standing) → takes k r ≡ takes k (core r)
takes_core Fn r = refl
takes_core Block standing.SloppyFunction = refl
takes_core Block standing.BlockFunction = refl
takes_core Block _ = refl

pub binding_core : (r : Standing) → is_binding r ≡ is_binding (core r)
binding_core standing.SloppyFunction = refl
binding_core standing.BlockFunction = refl
binding_core _ = refl

pub name_core : (r : Standing) → is_name r ≡ is_name (core r)
name_core standing.SloppyFunction = refl
name_core standing.BlockFunction = refl
name_core _ = refl

default_core : (r : Standing) → is_default_export r ≡ is_default_export (core r)
default_core standing.SloppyFunction = refl
default_core standing.BlockFunction = refl
default_core _ = refl

-- the place without what is nothing to the analysis
abbrev calm : Standing → Place
calm r = record { standing = r; strict = false; nested = false }

-- what a node opens
name_scope_core : (r : Standing) (n : Bool) (s : Scope) → name_scope r n s ≡ name_scope (core r) n s
name_scope_core standing.SloppyFunction n s = refl
name_scope_core standing.BlockFunction n s = refl
name_scope_core _ n s = refl

block_scope_core : (r : Standing) → block_scope r ≡ block_scope (core r)
block_scope_core standing.SloppyFunction = refl
block_scope_core standing.BlockFunction = refl
block_scope_core _ = refl

own_core : (w : Place) (k : Kind) (n : Bool) → own_kind w k n ≡ own_kind (calm (core w.standing)) k n
own_core w kind.FnExpr n = ap (option_and_then kind_of) (name_scope_core w.standing n scope.FunctionName)
own_core w kind.ClassExpr n = refl
own_core w kind.FnDecl n = refl
own_core w kind.BlockStmt n = ap (option_and_then kind_of) (block_scope_core w.standing)
own_core w _ n = refl

outside_core : (w : Place) (k : Kind) (n : Bool) (i : ℕ) → is_outside w k n i ≡ is_outside (calm (core w.standing)) k n i
outside_core w kind.ClassExpr n i = ap (λ b. b && (n && i == class_expr.IDENT)) (default_core w.standing)
outside_core w _ n i = refl

opened_core : (f : Bool) (w : Place) (y : Node-F Node) (i : ℕ) → opened_round f w y i ≡ opened_round f (calm (core w.standing)) y i
opened_core f w (Node-F.Tree k ts) i =
    ap (λ b. if b then [] else opened_here (body_kind f (own_kind w k (has_own_name ts)))) (outside_core w k (has_identifier ts) i)
    ∙ ap (λ o. if is_outside (calm (core w.standing)) k (has_identifier ts) i then [] else opened_here (body_kind f o)) (own_core w k (has_own_name ts))
opened_core f w Node-F.Absent i = refl
opened_core f w _ i = refl

opened_alike : (f : Bool) (w x : Place) (y : Node-F Node) (i : ℕ) → core w.standing ≡ core x.standing → opened_round f w y i ≡ opened_round f x y i
opened_alike f w x y i e = opened_core f w y i ∙ ap (λ r. opened_round f (calm r) y i) e ∙ sym (opened_core f x y i)

-- as what a child stands
part_core : (r : Standing) (o : Option Node) → core (part_standing r o) ≡ core (part_standing (core r) o)
part_core standing.SloppyFunction o = refl
part_core standing.BlockFunction o = refl
part_core _ o = refl

own_name_core : (r : Standing) (k : Kind) → core (own_name r k) ≡ core (own_name (core r) k)
own_name_core standing.SloppyFunction k = refl
own_name_core standing.BlockFunction k = refl
own_name_core _ k = refl

pub function_is : (a b : Bool) → core (cond a standing.Function (cond b standing.SloppyFunction standing.BlockFunction)) ≡ standing.Function
function_is true b = refl
function_is false true = refl
function_is false false = refl

pub functions_alike : (w x : Place) (plain : Bool) → core (function_standing w plain) ≡ core (function_standing x plain)
functions_alike w x plain = function_is _ (not w.strict && plain) ∙ sym (function_is _ (not x.strict && plain))

below_core : (w : Place) (k : Kind) (ts : List Node) (i : ℕ) (a : Role) → core (standing_below w k ts i a) ≡ core (standing_below (calm (core w.standing)) k ts i a)
below_core w k ts i role.Inherited = part_core w.standing (slice_get ts i)
below_core w k ts i role.Function = functions_alike w (calm (core w.standing)) (is_plain_function (slice_get ts fn_decl.FUNCTION))
below_core w k ts i role.OwnName = own_name_core w.standing k
below_core w k ts i _ = refl

place_core : (w : Place) (y : Node-F Node) (i : ℕ) → core (place_in w y i).standing ≡ core (place_in (calm (core w.standing)) y i).standing
place_core w (Node-F.Tree k ts) i = below_core w k ts i (field_role k i)
place_core w (Node-F.List ts) i = part_core w.standing (slice_get ts i)
place_core w Node-F.Absent i = refl
place_core w _ i = refl

pub below_alike : (w x : Place) (t : Node) (i : ℕ) → core w.standing ≡ core x.standing → core (place_below w t i).standing ≡ core (place_below x t i).standing
below_alike w x t i e = place_core w (out-Node t) i ∙ ap (λ r. core (place_in (calm r) (out-Node t) i).standing) e ∙ sym (place_core x (out-Node t) i)

-- the scopes round a path
given_same : {B : Type 0} (o : Option Node) (b : B) (f g : Node → B) → ((c : Node) → f c ≡ g c) → given o b f ≡ given o b g
given_same None b f g h = refl
given_same (Some c) b f g h = h c

pub scopes_alike : (q : Path) (f : Bool) (w x : Place) (t : Node) → core w.standing ≡ core x.standing → scopes_below f w t q ≡ scopes_below f x t q
scopes_alike [] f w x t e = refl
scopes_alike (i ∷ q) f w x t e =
    ap (λ l. map (lower i) l ++ opened_round f w (out-Node t) i)
    (given_same (child t i) [] (λ c. scopes_below (is_for_body (out-Node t) i) (place_below w t i) c q) (λ c. scopes_below (is_for_body (out-Node t) i) (place_below x t i) c q)
    (λ c. scopes_alike q (is_for_body (out-Node t) i) (place_below w t i) (place_below x t i) c (below_alike w x t i e)))
    ∙ ap (λ l. map (lower i) (given (child t i) [] (λ c. scopes_below (is_for_body (out-Node t) i) (place_below x t i) c q)) ++ l) (opened_alike f w x (out-Node t) i e)

-- what stands at a path
abbrev pub IsAlikeAt : Place → Node → Path → Place → Node → Type 0
IsAlikeAt x t q v n = (u : Place) × (place_at x t q ≡ Some (u, n)) × (core v.standing ≡ core u.standing)

no_place : (z : Place × Node) → Some z ≡ None → ⊥
no_place z e = absurd (cc)

pub place_alike : (q : Path) (w x v : Place) (t n : Node) → core w.standing ≡ core x.standing → place_at w t q ≡ Some (v, n) → IsAlikeAt x t q v n
place_alike [] w x v t n e h = (x, ap (λ (z : Place × Node). Some (x, z.1)) (some_same h), sym (ap (λ (z : Place × Node). core z.0.standing) (some_same h)) ∙ e)
place_alike (i ∷ q) w x v t n e h = at (child t i) refl (λ c. place_alike q (place_below w t i) (place_below x t i) v c n (below_alike w x t i e))
  where
    at : (o : Option Node) → child t i ≡ o → ((c : Node) → place_at (place_below w t i) c q ≡ Some (v, n) → IsAlikeAt (place_below x t i) c q v n) → IsAlikeAt x t (i ∷ q) v n
    at None z more = absurd (no_place (v, n) (sym h ∙ no_place_under w t i q z))
    at (Some c) z more = let (u, there, same) = more c (sym (place_under w t c i q z) ∙ h) in (u, place_under x t c i q z ∙ there, same)
