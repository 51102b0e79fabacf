-- Each node of a tree is walked over, in its place: so each name is met, and each function that uses its own name is met too.
use Rattle.std.proofs.Common.{◌≡◌, ℕ, zero, suc, ◌+◌, ◌<◌, ◌==◌, ⊎_elim, Bool, true, false, Option, Some, None, List, [], ◌∷◌, ◌++◌, length, refl, sym, ap, ◌∙◌, subst, arith, append-nil, append_assoc}
use Rattle.std.specs.Prelude.{if◌then◌else◌}
use Rattle.std.specs.List.{slice_get}
use Rattle.std.specs.Cmp.{unsigned_Decides}
use Rattle.std.proofs.lemmas.Option.{slice_get_within}
use Rattle.swc_tree_node.specs.declared.fields.statements.catch_clause.TheConstants as catch_clause
use Rattle.swc_base_rename_analysis.proofs.Level.{body_first_twice}
use Rattle.swc_base_rename_analysis.specs.Order.{body_first}
use Rattle.swc_base_rename_analysis_laws.proofs.Known.{before_or_last}
use Rattle.swc_base_rename_analysis_laws.proofs.Items.{some_same}
use Rattle.std.specs.Option.{option_map, option_or}
use Rattle.swc_tree_node.specs.declared.kind.Kind.{Kind}
use Rattle.swc_tree_node.specs.declared.kind.Kind.TheVariants as kind
use Rattle.swc_tree_node.specs.declared.node.Node.{Node, out-Node}
use Rattle.swc_tree_node.specs.declared.node.Node.TheOpen.{Node-F}
use Rattle.swc_tree_scoping.specs.declared.places.Place.{Place}
use Rattle.swc_tree_scoping.specs.Places.{Path, child, children_in, has_own_name, is_at, opened_as, place_at, place_below, program_place, given}
use Rattle.swc_base_rename_analysis.specs.declared.scopes.ScopeKind.{ScopeKind}
use Rattle.swc_base_rename_analysis.specs.Analysis.{Around, body_kind, has_identifier, key_field, scopes_round}
use Rattle.swc_base_rename_analysis.specs.Laws.{is_body_at}
use Rattle.swc_base_rename_analysis.specs.Walk.{Outside, child_at, kind_opened, name_outside, outside_all, round_field, round_item}
use Rattle.swc_base_rename_analysis_laws.proofs.Contexts.{Context, field_context, item_context, moved, opens_inside, opens_none, opens_outside, outside_is, root_context, round_inside, round_outside}
use Rattle.swc_base_rename_analysis_laws.proofs.Grown.{Adds, Grows, all_add, begins, but_grows, ends, enters, fields_grow, grows_not, grows_on, optional_grows, turns_grow, uses_own}
use Rattle.swc_base_rename_analysis_laws.proofs.Marked.{Marked, MarkedWalk, below, marked_begin, marked_but, marked_end, marked_enter, marked_field, marked_fields, marked_goes, marked_in, marked_in_turn, marked_items, marked_layer, marked_opening, marked_optional, marked_out, marked_own_use, marked_walks_at}
use Rattle.swc_base_rename_analysis_laws.proofs.Outsides.{outside_field}
use Rattle.swc_base_rename_analysis_laws.proofs.Paths.{IsAt}
use Rattle.swc_base_rename_analysis_laws.proofs.Scoped.{Scoped, scoped_in, scoped_stays}
use Rattle.swc_base_rename_analysis_laws.proofs.Steps.{marked_at}

-- a walk over the node at a path, on the way to a state
pub record Visit (t : Node) (p : Path) (w : Place) (n : Node) (last : Marked) : Type 0 where
  pub outside : Outside
  pub from : Marked
  pub context : Context t p w n outside from
  pub kept : Grows (marked_in w n p outside from) last

later : {t : Node} {p : Path} {w : Place} {n : Node} {l k : Marked} → Visit t p w n l → Grows l k → Visit t p w n k
later {t} {p} {w} {n} {l} {k} v g = record { outside = v.outside; from = v.from; context = v.context; kept = grows_on v.kept g }

-- each number has its turn
turn_reached : (f : ℕ → Marked → Marked) → ((i : ℕ) (m : Marked) → Grows m (f i m)) → (j n : ℕ) (m : Marked) → j < n → Grows (f j (marked_in_turn f j m)) (marked_in_turn f n m)
turn_reached f grows j zero m less = absurd (omega (arith, less))
turn_reached f grows j (suc n) m less = ⊎_elim
    (λ (before : j < n). grows_on (turn_reached f grows j n m before) (grows n (marked_in_turn f n m)))
    (λ (same : j ≡ n). subst (λ j. Grows (f j (marked_in_turn f j m)) (f n (marked_in_turn f n m))) (sym same) (grows_not (f n (marked_in_turn f n m))))
    (before_or_last j n less)

child_twice : (k : Kind) (i : ℕ) → child_at k (child_at k i) ≡ i
child_twice kind.CatchClause i = body_first_twice i
child_twice k i = refl

near : (i : ℕ) → body_first i < i + 2
near i = by (i == catch_clause.PARAM) (i == catch_clause.BODY) refl refl
  where
    by : (a b : Bool) → (i == catch_clause.PARAM) ≡ a → (i == catch_clause.BODY) ≡ b → (if a then catch_clause.BODY else (if b then catch_clause.PARAM else i)) < i + 2
    by true b e f = omega (arith, (unsigned_Decides i catch_clause.PARAM).0 e)
    by false true e f = omega (arith, (unsigned_Decides i catch_clause.BODY).0 f)
    by false false e f = omega arith

child_within : (k : Kind) (i n : ℕ) → i < n → child_at k i < n + 1
child_within kind.CatchClause i n less = omega (arith, less, near i)
child_within k i n less = omega (arith, less)

module _ (t : Node) (h : Path) (w : Place) (n : Node) (o : Outside) (m : Marked) (at : Context t h w n o m) (i : ℕ) (c : Node) (child_there : child n i ≡ Some c) where
  abbrev walks : ℕ → Option MarkedWalk
  walks = marked_walks_at (place_below w n) (children_in (out-Node n))

  grow : (i : ℕ) → Adds (walks i)
  grow = all_add (place_below w n) (children_in (out-Node n))

  abbrev ChildVisit : Marked → Type 0
  ChildVisit l = Visit t (below h i) (place_below w n i) c l

  -- the walk over the child
  walked_there : (p : Outside) (l : Marked) → Context t (below h i) (place_below w n i) c p l → ChildVisit (marked_goes (walks i) (below h i) p l)
  walked_there p l x = record { outside = p; from = l; context = x; kept = subst (λ (z : Option Node). Grows (marked_in (place_below w n i) c (below h i) p l) (marked_goes (option_map (marked_in (place_below w n i)) z) (below h i) p l)) (sym child_there) (grows_not (marked_in (place_below w n i) c (below h i) p l)) }

  item_visited : (ts : List Node) → out-Node n ≡ Node-F.List ts → ChildVisit (marked_items walks (length ts) h o m)
  item_visited ts layer =
      let step : ℕ → Marked → Marked = λ i. marked_goes (walks i) (below h i) (round_item o) in
      let each : (i : ℕ) (m : Marked) → Grows m (marked_goes (walks i) (below h i) (round_item o) m) = λ i m. grow i (below h i) (round_item o) m in
      let here : slice_get ts i ≡ Some c = sym (ap (λ y. slice_get (children_in y) i) layer) ∙ child_there in
      later
      (walked_there (round_item o) (marked_in_turn step i m) (item_context t h w n ts o (marked_in_turn step i m) layer (moved (turns_grow step each i m) at) i c here))
      (turn_reached step each i (length ts) m (slice_get_within ts i c here))

  module _ (k : Kind) (ts : List Node) (layer : out-Node n ≡ Node-F.Tree k ts) where
    in_fields : slice_get ts i ≡ Some c
    in_fields = sym (ap (λ y. slice_get (children_in y) i) layer) ∙ child_there

    field_visited : (s : Option ℕ) (l : Marked) → Scoped l s (scopes_round t (below h i)) → ChildVisit (marked_field k ts walks i h (record o { scope = s }) l)
    field_visited s l scoped = walked_there (round_field k ts (record o { scope = s }) i) l (field_context t h w n k ts at.there layer o m l at s i c in_fields scoped)

    -- one of the fields but one
    fields_visited : (but : Option ℕ) (s : Option ℕ) (around : List Around) → is_at but i ≡ false → scopes_round t (below h i) ≡ around → (from : Marked) → Scoped from s around → ChildVisit (marked_fields k ts walks but h (record o { scope = s }) from)
    fields_visited but s around kept so from scoped = later visit (turn_reached step each turn_ (length ts + 1) from (child_within k i (length ts) (slice_get_within ts i c in_fields)))
      where
        turn_ : ℕ
        turn_ = child_at k i

        step : ℕ → Marked → Marked
        step i = marked_but k ts walks but (child_at k i) h (record o { scope = s })

        each : (i : ℕ) (m : Marked) → Grows m (step i m)
        each i m = but_grows k ts walks grow but (child_at k i) h (record o { scope = s }) m

        before : Marked
        before = marked_in_turn step turn_ from

        here : marked_but k ts walks but (child_at k turn_) h (record o { scope = s }) before ≡ marked_field k ts walks i h (record o { scope = s }) before
        here = ap (λ j. marked_but k ts walks but j h (record o { scope = s }) before) (child_twice k i) ∙ ap (λ (b : Bool). if b then before else marked_field k ts walks i h (record o { scope = s }) before) kept

        visit : ChildVisit (step turn_ before)
        visit = subst ChildVisit (sym here) (field_visited s before (subst (Scoped before s) (sym so) (scoped_stays from before (turns_grow step each turn_ from) s around scoped)))

    optional_visited : (z : Option ℕ) (l : Marked) → z ≡ Some i → Scoped l o.scope (scopes_round t h) → scopes_round t (below h i) ≡ scopes_round t h → ChildVisit (marked_optional k ts walks z h o l)
    optional_visited z l e scoped so = subst (λ z. ChildVisit (marked_optional k ts walks z h o l)) (sym e) (field_visited o.scope l (subst (Scoped l o.scope) (sym so) scoped))

    -- a tree that opens a scope
    module _ (s : ScopeKind) (opens : body_kind (is_body_at false t h) (kind_opened k (opened_as w k (has_own_name ts))) ≡ Some s) where
      abbrev but : Option ℕ
      but = outside_field w k (has_identifier ts)

      abbrev key : Marked
      key = marked_optional k ts walks (key_field k) h o m

      abbrev number : ℕ
      number = length key.scopes

      abbrev entered : Marked
      entered = marked_enter h s o.scope key

      abbrev named : Marked
      named = marked_optional k ts walks (name_outside w k (has_identifier ts)) h o entered

      abbrev begun : Marked
      begun = marked_begin number named

      abbrev used : Marked
      used = marked_own_use number h o o.own_name begun

      abbrev walked : Marked
      walked = marked_fields k ts walks but h (record o { scope = Some number }) used

      to_entered : Grows m entered
      to_entered = grows_on (optional_grows k ts walks grow (key_field k) h o m) (enters h s o.scope key)

      to_used : Grows entered used
      to_used = grows_on (optional_grows k ts walks grow (name_outside w k (has_identifier ts)) h o entered) (grows_on (begins number named) (uses_own number h o o.own_name begun))

      to_end : Grows used (marked_end number walked)
      to_end = grows_on (fields_grow k ts walks grow but h (record o { scope = Some number }) used) (ends number walked)

      -- in the scope
      visited_inside : is_at but i ≡ false → ChildVisit (marked_end number walked)
      visited_inside e = later
          (fields_visited but (Some number) ((h, s) ∷ scopes_round t h) e
          (round_inside t h w n k ts at.there layer i s (opens_inside (is_body_at false t h) w k ts i s (outside_is w k (has_identifier ts) i ∙ e) opens)) used
          (scoped_stays entered used to_used (Some number) ((h, s) ∷ scopes_round t h) (scoped_in key h o.scope (scopes_round t h) (scoped_stays m key (optional_grows k ts walks grow (key_field k) h o m) o.scope (scopes_round t h) at.scoped) s)))
          (ends number walked)

      -- outside of it
      visited_outside : is_at but i ≡ true → ChildVisit (marked_end number walked)
      visited_outside e = by (key_field k) refl
        where
          so : scopes_round t (below h i) ≡ scopes_round t h
          so = round_outside t h w n k ts at.there layer i (opens_outside (is_body_at false t h) w k ts i (outside_is w k (has_identifier ts) i ∙ e))

          number_of : (z : Option ℕ) → is_at z i ≡ true → z ≡ Some i
          number_of None f = absurd (cc)
          number_of (Some j) f = ap (λ n. Some n) ((unsigned_Decides j i).0 f)

          by : (z : Option ℕ) → key_field k ≡ z → ChildVisit (marked_end number walked)
          by (Some f) keyed = later
              (optional_visited (key_field k) m (keyed ∙ number_of (Some f) (sym (ap (λ (z : Option ℕ). is_at (option_or z (name_outside w k (has_identifier ts))) i) keyed) ∙ e)) at.scoped so)
              (grows_on (enters h s o.scope key) (grows_on to_used to_end))
          by None unkeyed = later
              (optional_visited (name_outside w k (has_identifier ts)) entered (number_of (name_outside w k (has_identifier ts)) (sym (ap (λ (z : Option ℕ). is_at (option_or z (name_outside w k (has_identifier ts))) i) unkeyed) ∙ e)) (scoped_stays m entered to_entered o.scope (scopes_round t h) at.scoped) so)
              (grows_on (grows_on (begins number named) (uses_own number h o o.own_name begun)) to_end)

      scope_visited : ChildVisit (marked_end number walked)
      scope_visited = by (is_at but i) refl
        where
          by : (b : Bool) → is_at but i ≡ b → ChildVisit (marked_end number walked)
          by true e = visited_outside e
          by false e = visited_inside e

    opening_visited : (s : Option ScopeKind) → body_kind (is_body_at false t h) (kind_opened k (opened_as w k (has_own_name ts))) ≡ s → ChildVisit (marked_opening s w k ts walks h o m)
    opening_visited None e = fields_visited None o.scope (scopes_round t h) refl (round_outside t h w n k ts at.there layer i (opens_none (is_body_at false t h) w k ts i e)) m at.scoped
    opening_visited (Some s) e = scope_visited s e

  no_item : {A : Type 0} → (y : Node-F Node) → out-Node n ≡ y → children_in y ≡ [] → A
  no_item y layer none = let both : None ≡ Some c = sym (ap (λ ts. slice_get ts i) (ap children_in layer ∙ none)) ∙ child_there in absurd (cc)

  layer_visited : (y : Node-F Node) → out-Node n ≡ y → ChildVisit (marked_layer w y walks h o m)
  layer_visited (Node-F.List ts) layer = item_visited ts layer
  layer_visited (Node-F.Tree k ts) layer = opening_visited k ts layer (body_kind o.for_body (kind_opened k (opened_as w k (has_own_name ts)))) (ap (λ b. body_kind b (kind_opened k (opened_as w k (has_own_name ts)))) (sym at.for_body))
  layer_visited (Node-F.Identifier k x) layer = no_item (Node-F.Identifier k x) layer refl
  layer_visited Node-F.Absent layer = no_item Node-F.Absent layer refl
  layer_visited (Node-F.Flag x) layer = no_item (Node-F.Flag x) layer refl
  layer_visited (Node-F.Word x) layer = no_item (Node-F.Word x) layer refl
  layer_visited (Node-F.Text x) layer = no_item (Node-F.Text x) layer refl
  layer_visited (Node-F.Span x) layer = no_item (Node-F.Span x) layer refl

  pub child_visited : ChildVisit (marked_in w n h o m)
  child_visited = subst (λ g. ChildVisit (g h o m)) (sym (marked_at w n)) (layer_visited (out-Node n) refl)

-- each node
pub visited : (q : Path) (t : Node) (h : Path) (w : Place) (n : Node) (o : Outside) (m : Marked) → Context t h w n o m → (v : Place) (c : Node) → place_at w n q ≡ Some (v, c) → Visit t (h ++ q) v c (marked_in w n h o m)
visited [] t h w n o m at v c e = subst (λ p. Visit t p v c (marked_in w n h o m)) (sym (append-nil h))
    (subst (λ (z : Place × Node). Visit t h z.0 z.1 (marked_in w n h o m)) (some_same {a = (w, n)} {b = (v, c)} e) (record { outside = o; from = m; context = at; kept = grows_not (marked_in w n h o m) }))
visited (i ∷ q) t h w n o m at v c e = by (child n i) refl e (λ d p l x f. visited q t (below h i) (place_below w n i) d p l x v c f)
  where
    by : (z : Option Node) → child n i ≡ z → given z None (λ d. place_at (place_below w n i) d q) ≡ Some (v, c)
        → ((d : Node) (p : Outside) (l : Marked) → Context t (below h i) (place_below w n i) d p l → place_at (place_below w n i) d q ≡ Some (v, c) → Visit t (below h i ++ q) v c (marked_in (place_below w n i) d (below h i) p l))
        → Visit t (h ++ (i ∷ q)) v c (marked_in w n h o m)
    by None there f more = absurd (cc)
    by (Some d) there f more =
        let child_ = child_visited t h w n o m at i d there in
        subst (λ p. Visit t p v c (marked_in w n h o m)) (append_assoc h (i ∷ []) q) (later (more d child_.outside child_.from child_.context f) child_.kept)

-- in the whole tree
pub visit_at : (t : Node) (p : Path) (w : Place) (n : Node) → IsAt program_place t p w n → Visit t p w n (marked_out t)
visit_at t p w n there = visited p t [] program_place t outside_all (record { scopes = []; names = [] }) (root_context t) w n there
