-- A walk only adds: names stay where they are, and of a scope the path, the kind and the number of its function.
use Rattle.std.proofs.Common.{◌≡◌, ℕ, zero, suc, ◌+◌, Bool, true, false, Option, Some, None, List, [], ◌∷◌, ◌++◌, length, refl, sym, ap, ◌∙◌, append_assoc, append-nil}
use Rattle.std.specs.Prelude.{slice_set, if◌then◌else◌}
use Rattle.std.specs.List.{slice_get}
use Rattle.std.specs.Option.{option_or, option_map}
use Rattle.swc_tree_marks.specs.declared.ident.Ident.{Ident}
use Rattle.swc_tree_node.specs.declared.kind.Kind.{Kind}
use Rattle.swc_tree_node.specs.declared.node.Node.{Node, out-Node}
use Rattle.swc_tree_node.specs.declared.node.Node.TheOpen.{Node-F}
use Rattle.swc_tree_scoping.specs.declared.places.Place.{Place}
use Rattle.swc_tree_scoping.specs.Places.{Path, children_in, has_own_name, is_at, opened_as, place_below}
use Rattle.swc_tree_scoping.proofs.Under.{by_children}
use Rattle.swc_base_rename_analysis.specs.declared.scopes.ScopeKind.{ScopeKind}
use Rattle.swc_base_rename_analysis.specs.declared.layout.Region.{Region}
use Rattle.swc_base_rename_analysis.specs.Analysis.{body_kind, has_identifier, key_field}
use Rattle.swc_base_rename_analysis.specs.Preserved.{is_name_or_label}
use Rattle.swc_base_rename_analysis.specs.Walk.{Met, Outside, child_at, kind_opened, name_outside, round_field, round_item}
use Rattle.swc_base_rename_analysis_laws.specs.Placed.{Use}
use Rattle.swc_base_rename_analysis_laws.proofs.Marked.{Marked, MarkedName, MarkedScope, MarkedWalk, below, marked_at_number, marked_begin, marked_but, marked_changed, marked_end, marked_enter, marked_field, marked_fields, marked_goes, marked_in, marked_in_turn, marked_inside, marked_layer, marked_meet, marked_opening, marked_optional, marked_own_use, marked_scope, marked_walks_at}
use Rattle.swc_base_rename_analysis_laws.proofs.Steps.{marked_at}

-- what stays of a scope
abbrev pub Alike : MarkedScope → MarkedScope → Type 0
Alike u s = (u.path ≡ s.path) × (u.region.kind ≡ s.region.kind) × (u.region.function ≡ s.region.function)

abbrev pub KeptAs : MarkedScope → Option MarkedScope → Type 0
KeptAs s o = (u : MarkedScope) × (o ≡ Some u) × (u.path ≡ s.path) × (u.region.kind ≡ s.region.kind) × (u.region.function ≡ s.region.function)

pub record Grows (m n : Marked) : Type 0 where
  pub names : (rest : List MarkedName) × (n.names ≡ m.names ++ rest)
  pub scopes : (k : ℕ) (s : MarkedScope) → slice_get m.scopes k ≡ Some s → KeptAs s (slice_get n.scopes k)

pub grows_not : (m : Marked) → Grows m m
grows_not m = record { names = ([], sym (append-nil m.names)); scopes = λ k s h. (s, h, refl, refl, refl) }

pub grows_on : {m n o : Marked} → Grows m n → Grows n o → Grows m o
grows_on {m} {n} {o} g h = record {
  names = let (xs, e) = g.names in let (ys, f) = h.names in (xs ++ ys, f ∙ ap (λ l. l ++ ys) e ∙ append_assoc m.names xs ys);
  scopes = λ k s e. let (u, f, p, q, r) = g.scopes k s e in let (v, i, x, y, z) = h.scopes k u f in (v, i, x ∙ p, y ∙ q, z ∙ r);
}

pub meets : (u : Use) (x : Met) (m : Marked) → Grows m (marked_meet u x m)
meets u x m = record { names = (record { use_ = u; met = x } ∷ [], refl); scopes = λ k s h. (s, h, refl, refl, refl) }

pub got_left : {X : Type 0} (xs ys : List X) (k : ℕ) (x : X) → slice_get xs k ≡ Some x → slice_get (xs ++ ys) k ≡ Some x
got_left [] ys k x h = absurd (cc)
got_left (y ∷ xs) ys zero x h = h
got_left (y ∷ xs) ys (suc k) x h = got_left xs ys k x h

pub enters : (h : Path) (k : ScopeKind) (parent : Option ℕ) (m : Marked) → Grows m (marked_enter h k parent m)
enters h k parent m = record { names = ([], sym (append-nil m.names)); scopes = λ n s e. (s, got_left m.scopes _ n s e, refl, refl, refl) }

set_keeps : (ss : List MarkedScope) (n : ℕ) (x new : MarkedScope) → slice_get ss n ≡ Some x → Alike new x → (k : ℕ) (s : MarkedScope) → slice_get ss k ≡ Some s → KeptAs s (slice_get (slice_set ss n new) k)
set_keeps [] n x new e a k s h = absurd (cc)
set_keeps (y ∷ ys) zero x new e (p, q, r) zero s h =
    let same : x ≡ s = cc in (new, refl, p ∙ ap (λ x. x.path) same, q ∙ ap (λ x. x.region.kind) same, r ∙ ap (λ x. x.region.function) same)
set_keeps (y ∷ ys) zero x new e a (suc k) s h = (s, h, refl, refl, refl)
set_keeps (y ∷ ys) (suc n) x new e a zero s h = (s, h, refl, refl, refl)
set_keeps (y ∷ ys) (suc n) x new e a (suc k) s h = set_keeps ys n x new e a k s h

-- a change of where the names of a scope begin or end
abbrev Mild : (Region → Region) → Type 0
Mild f = (r : Region) → ((f r).kind ≡ r.kind) × ((f r).function ≡ r.function)

changed_keeps : (f : Region → Region) → Mild f → (ss : List MarkedScope) (n : ℕ) (o : Option MarkedScope) → slice_get ss n ≡ o
    → (k : ℕ) (s : MarkedScope) → slice_get ss k ≡ Some s → KeptAs s (slice_get (marked_changed f ss n o) k)
changed_keeps f mild ss n None e k s h = (s, h, refl, refl, refl)
changed_keeps f mild ss n (Some x) e k s h = set_keeps ss n x (record x { region = f x.region }) e (refl, (mild x.region).0, (mild x.region).1) k s h

changes : (f : Region → Region) → Mild f → (n : ℕ) (m : Marked) → Grows m (marked_at_number f n m)
changes f mild n m = record { names = ([], sym (append-nil m.names)); scopes = changed_keeps f mild m.scopes n (slice_get m.scopes n) refl }

pub begins : (n : ℕ) (m : Marked) → Grows m (marked_begin n m)
begins n m = changes (λ r. record r { start = length m.names }) (λ r. (refl, refl)) n m

pub ends : (n : ℕ) (m : Marked) → Grows m (marked_end n m)
ends n m = changes (λ r. record r { end = length m.names }) (λ r. (refl, refl)) n m

pub uses_own : (n : ℕ) (h : Path) (o : Outside) (x : Option Ident) (m : Marked) → Grows m (marked_own_use n h o x m)
uses_own n h o None m = grows_not m
uses_own n h o (Some x) m = meets _ _ m

pub turns_grow : (f : ℕ → Marked → Marked) → ((i : ℕ) (m : Marked) → Grows m (f i m)) → (n : ℕ) (m : Marked) → Grows m (marked_in_turn f n m)
turns_grow f grows zero m = grows_not m
turns_grow f grows (suc n) m = grows_on (turns_grow f grows n m) (grows n (marked_in_turn f n m))

-- a walk
abbrev pub Adds : Option MarkedWalk → Type 0
Adds f = (h : Path) (o : Outside) (m : Marked) → Grows m (marked_goes f h o m)

module _ (k : Kind) (ts : List Node) (walks : ℕ → Option MarkedWalk) (adds : (i : ℕ) → Adds (walks i)) where
  pub field_grows : (i : ℕ) (h : Path) (o : Outside) (m : Marked) → Grows m (marked_field k ts walks i h o m)
  field_grows i h o m = adds i (below h i) (round_field k ts o i) m

  pub optional_grows : (i : Option ℕ) (h : Path) (o : Outside) (m : Marked) → Grows m (marked_optional k ts walks i h o m)
  optional_grows None h o m = grows_not m
  optional_grows (Some i) h o m = field_grows i h o m

  unless_grows : (b : Bool) (i : ℕ) (h : Path) (o : Outside) (m : Marked) → Grows m (if b then m else marked_field k ts walks i h o m)
  unless_grows true i h o m = grows_not m
  unless_grows false i h o m = field_grows i h o m

  pub but_grows : (but : Option ℕ) (i : ℕ) (h : Path) (o : Outside) (m : Marked) → Grows m (marked_but k ts walks but i h o m)
  but_grows but i h o m = unless_grows (is_at but i) i h o m

  pub fields_grow : (but : Option ℕ) (h : Path) (o : Outside) (m : Marked) → Grows m (marked_fields k ts walks but h o m)
  fields_grow but h o m = turns_grow (λ i. marked_but k ts walks but (child_at k i) h o) (λ i m. but_grows but (child_at k i) h o m) (length ts + 1) m

  pub inside_grows : (but : Option ℕ) (n : ℕ) (h : Path) (o : Outside) (m : Marked) → Grows m (marked_inside k ts walks but n h o m)
  inside_grows but n h o m = grows_on (begins n m) (grows_on (uses_own n h o o.own_name (marked_begin n m)) (grows_on (fields_grow but h (record o { scope = Some n }) _) (ends n _)))

  pub scope_grows : (s : ScopeKind) (w : Place) (h : Path) (o : Outside) (m : Marked) → Grows m (marked_scope s w k ts walks h o m)
  scope_grows s w h o m =
      grows_on (optional_grows (key_field k) h o m) (grows_on (enters h s o.scope _) (grows_on (optional_grows (name_outside w k (has_identifier ts)) h o _) (inside_grows (option_or (key_field k) (name_outside w k (has_identifier ts))) _ h o _)))

  pub opening_grows : (s : Option ScopeKind) (w : Place) (h : Path) (o : Outside) (m : Marked) → Grows m (marked_opening s w k ts walks h o m)
  opening_grows None w h o m = fields_grow None h o m
  opening_grows (Some s) w h o m = scope_grows s w h o m

if_grows : (b : Bool) (m n : Marked) → Grows m n → Grows m (if b then n else m)
if_grows true m n g = g
if_grows false m n g = grows_not m

layer_grows : (w : Place) (y : Node-F Node) (walks : ℕ → Option MarkedWalk) → ((i : ℕ) → Adds (walks i)) → (h : Path) (o : Outside) (m : Marked) → Grows m (marked_layer w y walks h o m)
layer_grows w (Node-F.Identifier k i) walks adds h o m = if_grows (is_name_or_label w.standing) m _ (meets _ _ m)
layer_grows w (Node-F.List ts) walks adds h o m = turns_grow (λ i. marked_goes (walks i) (below h i) (round_item o)) (λ i m. adds i (below h i) (round_item o) m) (length ts) m
layer_grows w (Node-F.Tree k ts) walks adds h o m = opening_grows k ts walks adds (body_kind o.for_body (kind_opened k (opened_as w k (has_own_name ts)))) w h o m
layer_grows w Node-F.Absent walks adds h o m = grows_not m
layer_grows w (Node-F.Flag x) walks adds h o m = grows_not m
layer_grows w (Node-F.Word x) walks adds h o m = grows_not m
layer_grows w (Node-F.Text x) walks adds h o m = grows_not m
layer_grows w (Node-F.Span x) walks adds h o m = grows_not m

abbrev pub Grown : Node → Type 0
Grown t = (w : Place) (h : Path) (o : Outside) (m : Marked) → Grows m (marked_in w t h o m)

each_adds : (places : ℕ → Place) (ts : List Node) → ((i : ℕ) (c : Node) → slice_get ts i ≡ Some c → Grown c) → (i : ℕ) → Adds (marked_walks_at places ts i)
each_adds places ts grown i = at (slice_get ts i) (grown i)
  where
    at : (c : Option Node) → ((d : Node) → c ≡ Some d → Grown d) → Adds (option_map (marked_in (places i)) c)
    at None below h o m = grows_not m
    at (Some c) below h o m = below c refl (places i) h o m

pub grown : (t : Node) → Grown t
grown = by_children Grown (λ t below w h o m.
    let e : marked_in w t h o m ≡ marked_layer w (out-Node t) (marked_walks_at (place_below w t) (children_in (out-Node t))) h o m = ap (λ f. f h o m) (marked_at w t) in
    rw e (layer_grows w (out-Node t) _ (each_adds (place_below w t) (children_in (out-Node t)) below) h o m))

pub all_add : (places : ℕ → Place) (ts : List Node) (i : ℕ) → Adds (marked_walks_at places ts i)
all_add places ts = each_adds places ts (λ i c e. grown c)
