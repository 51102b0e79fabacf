-- The walk once more, with the path of each scope that is entered and of each name that is met.
use Rattle.std.specs.Prelude.{ℕ, zero, suc, ◌+◌, Option, Some, None, option_map, List, [], ◌∷◌, ◌++◌, length, map, slice_get, slice_set, if◌then◌else◌}
use Rattle.std.specs.Option.{option_or}
use Rattle.swc_tree_marks.specs.declared.ident.Ident.{Ident}
use Rattle.swc_tree_node.specs.declared.fields.statements.fn_decl.TheConstants as fn_decl
use Rattle.swc_tree_node.specs.declared.kind.Kind.{Kind}
use Rattle.swc_tree_node.specs.declared.node.Node.{Node, out-Node}
use Rattle.swc_tree_node.specs.declared.node.Node.TheOpen.{Node-F}
use Rattle.swc_tree_scoping.specs.declared.places.Standing.TheVariants as standing
use Rattle.swc_tree_scoping.specs.declared.places.Place.{Place}
use Rattle.swc_tree_scoping.specs.Folds.{fold_in_place}
use Rattle.swc_tree_scoping.specs.Places.{Path, has_own_name, is_at, opened_as, program_place}
use Rattle.swc_base_rename_analysis.specs.declared.scopes.ScopeKind.{ScopeKind}
use Rattle.swc_base_rename_analysis.specs.declared.layout.Region.{Region}
use Rattle.swc_base_rename_analysis.specs.Analysis.{body_kind, has_identifier, key_field}
use Rattle.swc_base_rename_analysis.specs.Preserved.{is_name_or_label}
use Rattle.swc_base_rename_analysis.specs.Walk.{Laid, Met, Outside, child_at, function_at, kind_opened, name_outside, outside_all, round_field, round_item}
use Rattle.swc_base_rename_analysis_laws.specs.Placed.{Use, at_path, own_at}

pub record MarkedScope : Type 0 where
  pub path : Path
  pub region : Region

pub record MarkedName : Type 0 where
  pub use_ : Use
  pub met : Met

pub record Marked : Type 0 where
  pub scopes : List MarkedScope
  pub names : List MarkedName

abbrev pub regions_of : Marked → List Region
regions_of m = map (λ s. s.region) m.scopes

-- without the paths
abbrev pub erased : Marked → Laid
erased m = record { regions = regions_of m; names = map (λ n. n.met) m.names }

-- how a walk over a node at a path goes on
abbrev pub MarkedWalk : Type 0
MarkedWalk = Path → Outside → Marked → Marked

abbrev pub marked_meet : Use → Met → Marked → Marked
marked_meet u x m = record m { names = m.names ++ record { use_ = u; met = x } ∷ [] }

abbrev pub marked_enter : Path → ScopeKind → Option ℕ → Marked → Marked
marked_enter h k parent m = record m {
  scopes = m.scopes ++ record { path = h; region = record { kind = k; function = function_at (regions_of m) k parent; start = length m.names; end = length m.names } } ∷ [];
}

abbrev pub marked_changed : (Region → Region) → List MarkedScope → ℕ → Option MarkedScope → List MarkedScope
marked_changed f ss n None = ss
marked_changed f ss n (Some s) = slice_set ss n (record s { region = f s.region })

abbrev pub marked_at_number : (Region → Region) → ℕ → Marked → Marked
marked_at_number f n m = record m { scopes = marked_changed f m.scopes n (slice_get m.scopes n) }

abbrev pub marked_begin : ℕ → Marked → Marked
marked_begin n m = marked_at_number (λ r. record r { start = length m.names }) n m

abbrev pub marked_end : ℕ → Marked → Marked
marked_end n m = marked_at_number (λ r. record r { end = length m.names }) n m

abbrev pub marked_in_turn : (ℕ → Marked → Marked) → ℕ → Marked → Marked
marked_in_turn f zero m = m
marked_in_turn f (suc n) m = f n (marked_in_turn f n m)

abbrev pub marked_goes : Option MarkedWalk → MarkedWalk
marked_goes None h o m = m
marked_goes (Some f) h o m = f h o m

abbrev pub below : Path → ℕ → Path
below h i = h ++ i ∷ []

abbrev pub marked_field : Kind → List Node → (ℕ → Option MarkedWalk) → ℕ → MarkedWalk
marked_field k ts walks i h o m = marked_goes (walks i) (below h i) (round_field k ts o i) m

abbrev pub marked_optional : Kind → List Node → (ℕ → Option MarkedWalk) → Option ℕ → MarkedWalk
marked_optional k ts walks None h o m = m
marked_optional k ts walks (Some i) h o m = marked_field k ts walks i h o m

abbrev pub marked_but : Kind → List Node → (ℕ → Option MarkedWalk) → Option ℕ → ℕ → MarkedWalk
marked_but k ts walks but i h o m = if is_at but i then m else marked_field k ts walks i h o m

abbrev pub marked_fields : Kind → List Node → (ℕ → Option MarkedWalk) → Option ℕ → MarkedWalk
marked_fields k ts walks but h o = marked_in_turn (λ i. marked_but k ts walks but (child_at k i) h o) (length ts + 1)

-- the path of the name of the function at a path, which is its field
abbrev pub name_beside : Path → Path
name_beside [] = []
name_beside (i ∷ []) = fn_decl.IDENT ∷ []
name_beside (i ∷ j ∷ h) = i ∷ name_beside (j ∷ h)

abbrev pub marked_own_use : ℕ → Path → Outside → Option Ident → Marked → Marked
marked_own_use n h o None m = m
marked_own_use n h o (Some x) m = marked_meet (own_at (name_beside h)) (record { ident = x; standing = standing.Reference; scope = Some n; exported = o.exported }) m

abbrev pub marked_inside : Kind → List Node → (ℕ → Option MarkedWalk) → Option ℕ → ℕ → MarkedWalk
marked_inside k ts walks but n h o m = marked_end n (marked_fields k ts walks but h (record o { scope = Some n }) (marked_own_use n h o o.own_name (marked_begin n m)))

abbrev pub marked_entered : Place → Kind → List Node → (ℕ → Option MarkedWalk) → ℕ → MarkedWalk
marked_entered w k ts walks n h o m = marked_inside k ts walks (option_or (key_field k) (name_outside w k (has_identifier ts))) n h o (marked_optional k ts walks (name_outside w k (has_identifier ts)) h o m)

abbrev pub marked_scope : ScopeKind → Place → Kind → List Node → (ℕ → Option MarkedWalk) → MarkedWalk
marked_scope s w k ts walks h o m =
    marked_entered w k ts walks (length (marked_optional k ts walks (key_field k) h o m).scopes) h o (marked_enter h s o.scope (marked_optional k ts walks (key_field k) h o m))

abbrev pub marked_opening : Option ScopeKind → Place → Kind → List Node → (ℕ → Option MarkedWalk) → MarkedWalk
marked_opening None w k ts walks h o m = marked_fields k ts walks None h o m
marked_opening (Some s) w k ts walks h o m = marked_scope s w k ts walks h o m

abbrev pub marked_items : (ℕ → Option MarkedWalk) → ℕ → MarkedWalk
marked_items walks n h o = marked_in_turn (λ i. marked_goes (walks i) (below h i) (round_item o)) n

abbrev pub marked_name : Place → Ident → MarkedWalk
marked_name w i h o m = if is_name_or_label w.standing then marked_meet (at_path h) (record { ident = i; standing = w.standing; scope = o.scope; exported = o.exported }) m else m

abbrev pub marked_layer : Place → Node-F Node → (ℕ → Option MarkedWalk) → MarkedWalk
marked_layer w (Node-F.Identifier k i) walks h o m = marked_name w i h o m
marked_layer w (Node-F.List ts) walks h o m = marked_items walks (length ts) h o m
marked_layer w (Node-F.Tree k ts) walks h o m = marked_opening (body_kind o.for_body (kind_opened k (opened_as w k (has_own_name ts)))) w k ts walks h o m
marked_layer w _ walks h o m = m

-- a node in its place and at its path
abbrev pub marked_in : Place → Node → MarkedWalk
marked_in = fold_in_place (λ w t walks. marked_layer w (out-Node t) (slice_get walks))

abbrev pub marked_walks_at : (ℕ → Place) → List Node → ℕ → Option MarkedWalk
marked_walks_at places ts i = option_map (marked_in (places i)) (slice_get ts i)

abbrev pub marked_out : Node → Marked
marked_out t = marked_in program_place t [] outside_all (record { scopes = []; names = [] })
