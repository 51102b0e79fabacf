-- Without its paths the walk that has them is the walk.
use Rattle.std.proofs.Common.{◌≡◌, ℕ, zero, suc, ◌+◌, Bool, true, false, Option, Some, None, List, [], ◌∷◌, ◌++◌, map, length, refl, sym, ap, ◌∙◌}
use Rattle.std.specs.Prelude.{slice_set, if◌then◌else◌}
use Rattle.std.specs.List.{slice_get}
use Rattle.std.specs.Option.{option_or, option_map}
use Rattle.std.proofs.lemmas.Option.{slice_get-map}
use Rattle.std.proofs.lemmas.List.{length-map, map-append}
use Rattle.swc_tree_marks.specs.declared.ident.Ident.{Ident}
use Rattle.swc_tree_node.specs.declared.kind.Kind.{Kind}
use Rattle.swc_tree_node.specs.declared.node.Node.{Node, out-Node}
use Rattle.swc_tree_node.specs.declared.node.Node.TheOpen.{Node-F}
use Rattle.swc_tree_scoping.specs.declared.places.Place.{Place}
use Rattle.swc_tree_scoping.specs.Places.{Path, children_in, has_own_name, is_at, opened_as, place_below, program_place}
use Rattle.swc_tree_scoping.proofs.Under.{by_children}
use Rattle.swc_base_rename_analysis.specs.declared.scopes.ScopeKind.{ScopeKind}
use Rattle.swc_base_rename_analysis.specs.declared.layout.Region.{Region}
use Rattle.swc_base_rename_analysis.specs.Analysis.{body_kind, has_identifier, key_field}
use Rattle.swc_base_rename_analysis.specs.Preserved.{is_name_or_label}
use Rattle.swc_base_rename_analysis.specs.Walk.{Laid, Met, Outside, Walk, begin, child_at, end, enter, function_at, goes, in_turn, kind_opened, laid_out, meet, name_outside, outside_all, own_use, round_field, round_item, walk_but, walk_entered, walk_field, walk_fields, walk_in, walk_inside, walk_layer, walk_opening, walk_optional, walk_scope, walks_at}
use Rattle.swc_base_rename_analysis_laws.specs.Placed.{Use}
use Rattle.swc_base_rename_analysis_laws.proofs.Marked.{Marked, MarkedScope, MarkedWalk, below, erased, marked_at_number, marked_begin, marked_but, marked_changed, marked_end, marked_enter, marked_field, marked_fields, marked_goes, marked_in, marked_in_turn, marked_inside, marked_layer, marked_meet, marked_opening, marked_optional, marked_out, marked_own_use, marked_scope, marked_walks_at, regions_of}
use Rattle.swc_base_rename_analysis_laws.proofs.Steps.{marked_at, walk_at}

-- one region changed
abbrev changed : (Region → Region) → List Region → ℕ → Option Region → List Region
changed f rs n None = rs
changed f rs n (Some r) = slice_set rs n (f r)

abbrev at_number : (Region → Region) → ℕ → Laid → Laid
at_number f n l = record l { regions = changed f l.regions n (slice_get l.regions n) }

-- the single steps
met_too : (u : Use) (x : Met) (m : Marked) → meet x (erased m) ≡ erased (marked_meet u x m)
met_too u x m = λ j. record { regions = regions_of m; names = sym (map-append (λ n. n.met) m.names (record { use_ = u; met = x } ∷ [])) j }

entered_too : (h : Path) (k : ScopeKind) (parent : Option ℕ) (m : Marked) → enter k parent (erased m) ≡ erased (marked_enter h k parent m)
entered_too h k parent m =
    ap (λ n. record { regions = regions_of m ++ record { kind = k; function = function_at (regions_of m) k parent; start = n; end = n } ∷ []; names = map (λ n. n.met) m.names }) (length-map m.names (λ n. n.met))
    ∙ (λ j. record { regions = sym (map-append (λ s. s.region) m.scopes (new ∷ [])) j; names = map (λ n. n.met) m.names })
  where
    new : MarkedScope
    new = record { path = h; region = record { kind = k; function = function_at (regions_of m) k parent; start = length m.names; end = length m.names } }

set_too : (ss : List MarkedScope) (n : ℕ) (s : MarkedScope) → slice_set (map (λ s. s.region) ss) n s.region ≡ map (λ s. s.region) (slice_set ss n s)
set_too [] n s = refl
set_too (x ∷ xs) zero s = refl
set_too (x ∷ xs) (suc n) s = ap (λ l. x.region ∷ l) (set_too xs n s)

changed_at : (f : Region → Region) (ss : List MarkedScope) (n : ℕ) (o : Option MarkedScope) → changed f (map (λ s. s.region) ss) n (option_map (λ s. s.region) o) ≡ map (λ s. s.region) (marked_changed f ss n o)
changed_at f ss n None = refl
changed_at f ss n (Some s) = set_too ss n (record s { region = f s.region })

changed_too : (f : Region → Region) (n : ℕ) (m : Marked) → at_number f n (erased m) ≡ erased (marked_at_number f n m)
changed_too f n m = λ j. record { regions = same j; names = map (λ n. n.met) m.names }
  where
    same : changed f (regions_of m) n (slice_get (regions_of m) n) ≡ map (λ s. s.region) (marked_changed f m.scopes n (slice_get m.scopes n))
    same = ap (changed f (regions_of m) n) (slice_get-map (λ s. s.region) m.scopes n) ∙ changed_at f m.scopes n (slice_get m.scopes n)

begun_too : (n : ℕ) (m : Marked) → begin n (erased m) ≡ erased (marked_begin n m)
begun_too n m = ap (λ k. at_number (λ r. record r { start = k }) n (erased m)) (length-map m.names (λ n. n.met)) ∙ changed_too (λ r. record r { start = length m.names }) n m

ended_too : (n : ℕ) (m : Marked) → end n (erased m) ≡ erased (marked_end n m)
ended_too n m = ap (λ k. at_number (λ r. record r { end = k }) n (erased m)) (length-map m.names (λ n. n.met)) ∙ changed_too (λ r. record r { end = length m.names }) n m

used_too : (n : ℕ) (h : Path) (o : Outside) (x : Option Ident) (m : Marked) → own_use n o x (erased m) ≡ erased (marked_own_use n h o x m)
used_too n h o None m = refl
used_too n h o (Some x) m = met_too _ _ m

in_turn_too : (f : ℕ → Laid → Laid) (g : ℕ → Marked → Marked) → ((i : ℕ) (m : Marked) → f i (erased m) ≡ erased (g i m)) → (n : ℕ) (m : Marked) → in_turn f n (erased m) ≡ erased (marked_in_turn g n m)
in_turn_too f g same zero m = refl
in_turn_too f g same (suc n) m = ap (f n) (in_turn_too f g same n m) ∙ same n (marked_in_turn g n m)

-- walks that agree
abbrev Agree : Option Walk → Option MarkedWalk → Type 0
Agree f g = (h : Path) (o : Outside) (m : Marked) → goes f o (erased m) ≡ erased (marked_goes g h o m)

module _ (k : Kind) (ts : List Node) (walks : ℕ → Option Walk) (marks : ℕ → Option MarkedWalk) (agree : (i : ℕ) → Agree (walks i) (marks i)) where
  field_too : (i : ℕ) (h : Path) (o : Outside) (m : Marked) → walk_field k ts walks i o (erased m) ≡ erased (marked_field k ts marks i h o m)
  field_too i h o m = agree i (below h i) (round_field k ts o i) m

  optional_too : (i : Option ℕ) (h : Path) (o : Outside) (m : Marked) → walk_optional k ts walks i o (erased m) ≡ erased (marked_optional k ts marks i h o m)
  optional_too None h o m = refl
  optional_too (Some i) h o m = field_too i h o m

  unless : (b : Bool) (i : ℕ) (h : Path) (o : Outside) (m : Marked) → (if b then erased m else walk_field k ts walks i o (erased m)) ≡ erased (if b then m else marked_field k ts marks i h o m)
  unless true i h o m = refl
  unless false i h o m = field_too i h o m

  fields_too : (but : Option ℕ) (h : Path) (o : Outside) (m : Marked) → walk_fields k ts walks but o (erased m) ≡ erased (marked_fields k ts marks but h o m)
  fields_too but h o m = in_turn_too (λ i. walk_but k ts walks but (child_at k i) o) (λ i. marked_but k ts marks but (child_at k i) h o) (λ i m. unless (is_at but (child_at k i)) (child_at k i) h o m) (length ts + 1) m

  inside_too : (but : Option ℕ) (n : ℕ) (h : Path) (o : Outside) (m : Marked) → walk_inside k ts walks but n o (erased m) ≡ erased (marked_inside k ts marks but n h o m)
  inside_too but n h o m =
      ap (λ l. end n (walk_fields k ts walks but (record o { scope = Some n }) l)) (ap (own_use n o o.own_name) (begun_too n m) ∙ used_too n h o o.own_name (marked_begin n m))
      ∙ ap (end n) (fields_too but h (record o { scope = Some n }) (marked_own_use n h o o.own_name (marked_begin n m)))
      ∙ ended_too n _

  scope_too : (s : ScopeKind) (w : Place) (h : Path) (o : Outside) (m : Marked) → walk_scope s w k ts walks o (erased m) ≡ erased (marked_scope s w k ts marks h o m)
  scope_too s w h o m =
      (λ j. walk_entered w k ts walks (length (keyed j).regions) o (enter s o.scope (keyed j)))
      ∙ ap (λ n. walk_entered w k ts walks n o (enter s o.scope (erased key))) (length-map key.scopes (λ s. s.region))
      ∙ ap (λ l. walk_entered w k ts walks (length key.scopes) o l) (entered_too h s o.scope key)
      ∙ ap (λ l. walk_inside k ts walks (option_or (key_field k) (name_outside w k (has_identifier ts))) (length key.scopes) o l) (optional_too (name_outside w k (has_identifier ts)) h o (marked_enter h s o.scope key))
      ∙ inside_too (option_or (key_field k) (name_outside w k (has_identifier ts))) (length key.scopes) h o _
    where
      key : Marked
      key = marked_optional k ts marks (key_field k) h o m

      keyed : walk_optional k ts walks (key_field k) o (erased m) ≡ erased key
      keyed = optional_too (key_field k) h o m

  opening_too : (s : Option ScopeKind) (w : Place) (h : Path) (o : Outside) (m : Marked) → walk_opening s w k ts walks o (erased m) ≡ erased (marked_opening s w k ts marks h o m)
  opening_too None w h o m = fields_too None h o m
  opening_too (Some s) w h o m = scope_too s w h o m

if_too : (b : Bool) (l : Laid) (m n : Marked) → l ≡ erased m → (if b then l else erased n) ≡ erased (if b then m else n)
if_too true l m n e = e
if_too false l m n e = refl

layer_too : (w : Place) (y : Node-F Node) (walks : ℕ → Option Walk) (marks : ℕ → Option MarkedWalk) → ((i : ℕ) → Agree (walks i) (marks i))
    → (h : Path) (o : Outside) (m : Marked) → walk_layer w y walks o (erased m) ≡ erased (marked_layer w y marks h o m)
layer_too w (Node-F.Identifier k i) walks marks agree h o m = if_too (is_name_or_label w.standing) _ _ m (met_too _ _ m)
layer_too w (Node-F.List ts) walks marks agree h o m = in_turn_too (λ i. goes (walks i) (round_item o)) (λ i. marked_goes (marks i) (below h i) (round_item o)) (λ i m. agree i (below h i) (round_item o) m) (length ts) m
layer_too w (Node-F.Tree k ts) walks marks agree h o m = opening_too k ts walks marks agree (body_kind o.for_body (kind_opened k (opened_as w k (has_own_name ts)))) w h o m
layer_too w Node-F.Absent walks marks agree h o m = refl
layer_too w (Node-F.Flag x) walks marks agree h o m = refl
layer_too w (Node-F.Word x) walks marks agree h o m = refl
layer_too w (Node-F.Text x) walks marks agree h o m = refl
layer_too w (Node-F.Span x) walks marks agree h o m = refl

abbrev Same : Node → Type 0
Same t = (w : Place) (h : Path) (o : Outside) (m : Marked) → walk_in w t o (erased m) ≡ erased (marked_in w t h o m)

each_same : (places : ℕ → Place) (ts : List Node) → ((i : ℕ) (c : Node) → slice_get ts i ≡ Some c → Same c) → (i : ℕ) → Agree (walks_at places ts i) (marked_walks_at places ts i)
each_same places ts same i = at (slice_get ts i) (same i)
  where
    at : (c : Option Node) → ((d : Node) → c ≡ Some d → Same d) → Agree (option_map (walk_in (places i)) c) (option_map (marked_in (places i)) c)
    at None below h o m = refl
    at (Some c) below h o m = below c refl (places i) h o m

same_in : (t : Node) → Same t
same_in = by_children Same (λ t below w h o m.
    ap (λ f. f o (erased m)) (walk_at w t)
    ∙ layer_too w (out-Node t) _ _ (each_same (place_below w t) (children_in (out-Node t)) below) h o m
    ∙ ap (λ f. erased (f h o m)) (sym (marked_at w t)))

pub marked_erased : (t : Node) → laid_out t ≡ erased (marked_out t)
marked_erased t = same_in t program_place [] outside_all (record { scopes = []; names = [] })
