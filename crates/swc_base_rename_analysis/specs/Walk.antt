-- The scopes and the names of a tree, laid out by one walk: scopes by numbers, in the order in which they are entered, and
-- names by positions.
use Rattle.std.specs.Prelude.{ℕ, zero, suc, ◌+◌, Bool, true, false, ◌&&◌, ◌||◌, ◌==◌, Option, Some, None, option_and_then, option_map, List, [], ◌∷◌, ◌++◌, length, map, slice_get, slice_set, if◌then◌else◌}
use Rattle.std.specs.Option.{option_copied, option_or}
use Rattle.swc_tree_marks.specs.declared.ident.Ident.{Ident}
use Rattle.swc_tree_node.specs.declared.fields.functions.class_expr.TheConstants as class_expr
use Rattle.swc_tree_node.specs.declared.fields.statements.fn_decl.TheConstants as fn_decl
use Rattle.swc_tree_node.specs.declared.kind.Kind.{Kind}
use Rattle.swc_tree_node.specs.declared.kind.Kind.TheVariants as kind
use Rattle.swc_tree_node.specs.declared.slot.Role.{Role}
use Rattle.swc_tree_node.specs.declared.slot.Role.TheVariants as role
use Rattle.swc_tree_node.specs.declared.node.Node.{Node, out-Node}
use Rattle.swc_tree_node.specs.declared.node.Node.TheOpen.{Node-F}
use Rattle.swc_tree_scoping.specs.declared.places.Standing.{Standing}
use Rattle.swc_tree_scoping.specs.declared.places.Standing.TheVariants as standing
use Rattle.swc_tree_scoping.specs.declared.places.Place.{Place}
use Rattle.swc_tree_scoping.specs.declared.places.Scope.{Scope}
use Rattle.swc_tree_scoping.specs.Below.{places_of}
use Rattle.swc_tree_scoping.specs.Folds.{fold_in_place}
use Rattle.swc_tree_scoping.specs.Places.{field_role, has_own_name, is_at, opened_as, program_place}
use Rattle.swc_tree_scoping.specs.BoundNames.{name_of}
use Rattle.swc_base_rename_analysis.specs.declared.scopes.ScopeKind.{ScopeKind}
use Rattle.swc_base_rename_analysis.specs.declared.scopes.ScopeKind.TheVariants.{Block, Fn}
use Rattle.swc_base_rename_analysis.specs.declared.layout.Region.{Region}
use Rattle.swc_base_rename_analysis.specs.declared.layout.Name.{Name}
use Rattle.swc_base_rename_analysis.specs.declared.layout.Layout.{Layout}
use Rattle.swc_base_rename_analysis.specs.declared.walk.Around.{Around}
use Rattle.swc_base_rename_analysis.specs.declared.walk.Head.{Head}
use Rattle.swc_base_rename_analysis.specs.Analysis.{body_field, body_kind, has_identifier, is_default_export, key_field, kind_of, uses_own_name}
use Rattle.swc_base_rename_analysis.specs.Order.{body_first}
use Rattle.swc_base_rename_analysis.specs.Preserved.{is_name_or_label}

-- the scope that a tree of a kind opens, by the scope of the language that it does
abbrev pub kind_opened : Kind → Option Scope → Option ScopeKind
kind_opened kind.ClassExpr s = Some Fn
kind_opened kind.FnDecl s = None
kind_opened k s = option_and_then kind_of s

-- the field of the identifier that names a class that is the default export
abbrev pub name_outside : Place → Kind → Bool → Option ℕ
name_outside w kind.ClassExpr named = if is_default_export w.standing && named then Some class_expr.IDENT else None
name_outside w k named = None

-- the name of the function in a field, where it counts as using it
abbrev pub own_name_below : Kind → List Node → ℕ → Option Ident
own_name_below k ts i = if i == fn_decl.FUNCTION && uses_own_name (Node-F.Tree k ts) then name_of (slice_get ts fn_decl.IDENT) else None

-- an identifier that stands as a name or a label, with the number of the innermost scope round it
pub record Met : Type 0 where
  pub ident : Ident
  pub standing : Standing
  pub scope : Option ℕ
  pub exported : Bool

-- the scopes that were entered, and the names that were met
pub record Laid : Type 0 where
  pub regions : List Region
  pub names : List Met

abbrev pub met_of : Name → Met
met_of n = record { ident = n.ident.now; standing = n.standing; scope = n.scope; exported = n.exported }

-- as the code keeps them
abbrev pub laid_of : Layout → Laid
laid_of l = record { regions = l.regions.items; names = map met_of l.names.items }

-- what is round a node beside its place: the number of the innermost scope, whether it stands in an export list, whether it
-- is the body of a `for` statement, and the name of a function that counts as using it
pub record Outside : Type 0 where
  pub scope : Option ℕ
  pub exported : Bool
  pub for_body : Bool
  pub own_name : Option Ident

abbrev pub outside_all : Outside
outside_all = record { scope = None; exported = false; for_body = false; own_name = None }

-- how a walk over a node goes on
abbrev pub Walk : Type 0
Walk = Outside → Laid → Laid

abbrev pub meet : Met → Laid → Laid
meet m l = record l { names = l.names ++ m ∷ [] }

abbrev function_in : Option Region → Option ℕ
function_in None = None
function_in (Some r) = r.function

-- the number of the first scope that takes all names, of one that is to be entered and those round it
abbrev pub function_at : List Region → ScopeKind → Option ℕ → Option ℕ
function_at rs Fn parent = Some (length rs)
function_at rs Block None = None
function_at rs Block (Some n) = function_in (slice_get rs n)

abbrev pub enter : ScopeKind → Option ℕ → Laid → Laid
enter k parent l = record l {
  regions = l.regions ++ record { kind = k; function = function_at l.regions k parent; start = length l.names; end = length l.names } ∷ [];
}

abbrev changed : (Region → Region) → List Region → ℕ → Option Region → List Region
changed f rs n None = rs
changed f rs n (Some r) = slice_set rs n (f r)

abbrev pub at_number : (Region → Region) → ℕ → Laid → Laid
at_number f n l = record l { regions = changed f l.regions n (slice_get l.regions n) }

-- the names of a scope begin here, and end here
abbrev pub begin : ℕ → Laid → Laid
begin n l = at_number (λ r. record r { start = length l.names }) n l

abbrev pub end : ℕ → Laid → Laid
end n l = at_number (λ r. record r { end = length l.names }) n l

-- one after the other
abbrev pub in_turn : (ℕ → Laid → Laid) → ℕ → Laid → Laid
in_turn f zero l = l
in_turn f (suc n) l = f n (in_turn f n l)

abbrev pub goes : Option Walk → Walk
goes None o l = l
goes (Some f) o l = f o l

abbrev pub is_export_list : Role → Bool
is_export_list role.ExportLocal = true
is_export_list _ = false

abbrev pub round_field : Kind → List Node → Outside → ℕ → Outside
round_field k ts o i = record {
  scope = o.scope;
  exported = o.exported || is_export_list (field_role k i);
  for_body = is_at (body_field k) i;
  own_name = own_name_below k ts i;
}

abbrev pub round_item : Outside → Outside
round_item o = record { scope = o.scope; exported = o.exported; for_body = false; own_name = None }

abbrev pub walk_field : Kind → List Node → (ℕ → Option Walk) → ℕ → Walk
walk_field k ts walks i o = goes (walks i) (round_field k ts o i)

abbrev pub walk_optional : Kind → List Node → (ℕ → Option Walk) → Option ℕ → Walk
walk_optional k ts walks None o l = l
walk_optional k ts walks (Some i) o l = walk_field k ts walks i o l

-- the child whose turn it is: the body of a catch clause comes before its parameter
abbrev pub child_at : Kind → ℕ → ℕ
child_at kind.CatchClause i = body_first i
child_at k i = i

-- how many turns so many fields take: where the parameter of a catch clause is the last field, its turn comes one past it
abbrev pub turns_of : Kind → ℕ → ℕ
turns_of kind.CatchClause n = n + 1
turns_of k n = n

abbrev pub walk_but : Kind → List Node → (ℕ → Option Walk) → Option ℕ → ℕ → Walk
walk_but k ts walks but i o l = if is_at but i then l else walk_field k ts walks i o l

-- all fields but one
abbrev pub walk_fields : Kind → List Node → (ℕ → Option Walk) → Option ℕ → Walk
walk_fields k ts walks but o = in_turn (λ i. walk_but k ts walks but (child_at k i) o) (length ts + 1)

-- the name of a function that counts as using it
abbrev pub own_use : ℕ → Outside → Option Ident → Laid → Laid
own_use n o None l = l
own_use n o (Some x) l = meet (record { ident = x; standing = standing.Reference; scope = Some n; exported = o.exported }) l

-- what stands in a scope of that number
abbrev pub walk_inside : Kind → List Node → (ℕ → Option Walk) → Option ℕ → ℕ → Walk
walk_inside k ts walks but n o l = end n (walk_fields k ts walks but (record o { scope = Some n }) (own_use n o o.own_name (begin n l)))

abbrev pub walk_entered : Place → Kind → List Node → (ℕ → Option Walk) → ℕ → Walk
walk_entered w k ts walks n o l = walk_inside k ts walks (option_or (key_field k) (name_outside w k (has_identifier ts))) n o (walk_optional k ts walks (name_outside w k (has_identifier ts)) o l)

-- a key comes before the scope that its node opens, and the identifier of a class that is the default export before the
-- names in it
abbrev pub walk_scope : ScopeKind → Place → Kind → List Node → (ℕ → Option Walk) → Walk
walk_scope s w k ts walks o l =
    walk_entered w k ts walks (length (walk_optional k ts walks (key_field k) o l).regions) o (enter s o.scope (walk_optional k ts walks (key_field k) o l))

abbrev pub walk_opening : Option ScopeKind → Place → Kind → List Node → (ℕ → Option Walk) → Walk
walk_opening None w k ts walks = walk_fields k ts walks None
walk_opening (Some s) w k ts walks = walk_scope s w k ts walks

abbrev pub walk_items : (ℕ → Option Walk) → ℕ → Walk
walk_items walks n o = in_turn (λ i. goes (walks i) (round_item o)) n

abbrev pub walk_name : Place → Ident → Walk
walk_name w i o l = if is_name_or_label w.standing then meet (record { ident = i; standing = w.standing; scope = o.scope; exported = o.exported }) l else l

abbrev pub walk_layer : Place → Node-F Node → (ℕ → Option Walk) → Walk
walk_layer w (Node-F.Identifier k i) walks o l = walk_name w i o l
walk_layer w (Node-F.List ts) walks o l = walk_items walks (length ts) o l
walk_layer w (Node-F.Tree k ts) walks o l = walk_opening (body_kind o.for_body (kind_opened k (opened_as w k (has_own_name ts)))) w k ts walks o l
walk_layer w _ walks o l = l

-- a node in its place
abbrev pub walk_in : Place → Node → Walk
walk_in = fold_in_place (λ w t walks. walk_layer w (out-Node t) (slice_get walks))

-- the walks over some nodes, each in its place
abbrev pub walks_at : (ℕ → Place) → List Node → ℕ → Option Walk
walks_at places ts i = option_map (walk_in (places i)) (slice_get ts i)

-- those over the fields of a tree
abbrev pub walks_of : Head → List Node → ℕ → Option Walk
walks_of h ts = walks_at (places_of h.places ts) ts

-- the scopes and the names of a tree
abbrev pub laid_out : Node → Laid
laid_out t = walk_in program_place t outside_all (record { regions = []; names = [] })

-- as the code keeps it
abbrev pub outside_of : Around → Outside
outside_of a = record { scope = a.scope; exported = a.exported; for_body = a.for_body; own_name = option_copied a.own_name }
