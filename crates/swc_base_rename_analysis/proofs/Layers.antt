-- The walk at each form of a node.
use Rattle.std.proofs.Common.{◌≡◌, ℕ, zero, suc, ◌+◌, add-one, Bool, true, false, cond, ◌⊎◌, inl, inr, Option, Some, None, List, [], ◌∷◌, length, refl, sym, ap, ◌∙◌}
use Rattle.std.specs.List.{slice_get}
use Rattle.std.specs.Option.{option_map, option_or}
use Rattle.swc_tree_marks.specs.declared.ident.Ident.{Ident}
use Rattle.swc_tree_node.specs.declared.kind.Kind.{Kind}
use Rattle.swc_tree_node.specs.declared.kind.Kind.TheVariants as kind
use Rattle.swc_tree_node.specs.declared.node.Node.{Node, List as Many, Identifier, Tree, out-Node}
use Rattle.swc_tree_node.specs.declared.node.Node.TheVariants.{outs-List, outs-Identifier, outs-Tree}
use Rattle.swc_tree_node.specs.declared.node.Node.TheOpen.{Node-F}
use Rattle.swc_tree_node.specs.Parts.{may_hold_names, may_hold_names_in}
use Rattle.swc_tree_scoping.specs.declared.places.Place.{Place}
use Rattle.swc_tree_scoping.specs.declared.places.Scope.{Scope}
use Rattle.swc_tree_scoping.specs.declared.below.PlacesBelow.{PlacesBelow}
use Rattle.swc_tree_scoping.specs.declared.below.PlacesBelow.TheVariants as below
use Rattle.swc_tree_scoping.specs.Folds.{each_in}
use Rattle.swc_tree_scoping.specs.Places.{children_in, is_at, place_below}
use Rattle.swc_tree_scoping.specs.Below.{fields_are, place_of, places_of, scope_of_fields}
use Rattle.swc_tree_scoping.proofs.Under.{fold_in_place_out}
use Rattle.swc_tree_scoping.proofs.Children.{fields_below, items_below}
use Rattle.swc_base_rename_analysis.specs.declared.scopes.ScopeKind.{ScopeKind}
use Rattle.swc_base_rename_analysis.specs.Analysis.{body_kind, has_identifier, key_field}
use Rattle.swc_base_rename_analysis.specs.Walk.{Laid, Outside, Walk, begin, child_at, end, enter, goes, in_turn, kind_opened, name_outside, own_use, round_field, turns_of, walk_but, walk_field, walk_fields, walk_in, walk_inside, walk_items, walk_layer, walk_name, walk_opening, walk_optional, walk_scope, walks_at}

each_at : (places : ℕ → Place) (ts : List Node) (i : ℕ) → slice_get (each_in walk_in places ts) i ≡ walks_at places ts i
each_at places [] i = refl
each_at places (t ∷ ts) zero = refl
each_at places (t ∷ ts) (suc i) = each_at (λ i. places (suc i)) ts i

walk_out : (w : Place) (t : Node) → walk_in w t ≡ walk_layer w (out-Node t) (walks_at (place_below w t) (children_in (out-Node t)))
walk_out w t =
    fold_in_place_out (λ w t walks. walk_layer w (out-Node t) (slice_get walks)) w t
    ∙ ap (walk_layer w (out-Node t)) (λ j i. each_at (place_below w t) (children_in (out-Node t)) i j)

at_layer : (w : Place) (t : Node) (y : Node-F Node) → out-Node t ≡ y → walk_in w t ≡ walk_layer w y (walks_at (place_below w t) (children_in y))
at_layer w t y e = walk_out w t ∙ ap (λ y. walk_layer w y (walks_at (place_below w t) (children_in y))) e

pub walk_Identifier : (w : Place) (k : Kind) (i : Ident) → walk_in w (Identifier k i) ≡ walk_layer w (Node-F.Identifier k i) (λ i. None)
walk_Identifier w k i = at_layer w (Identifier k i) (Node-F.Identifier k i) (outs-Identifier k i)

pub walk_List : (w : Place) (ts : List Node) → walk_in w (Many ts) ≡ walk_layer w (Node-F.List ts) (walks_at (places_of (below.Items w) ts) ts)
walk_List w ts = at_layer w (Many ts) (Node-F.List ts) (outs-List ts) ∙ ap (λ places. walk_layer w (Node-F.List ts) (walks_at places ts)) (sym (items_below w ts))

pub walk_Tree : (w : Place) (k : Kind) (ts : List Node) → walk_in w (Tree k ts) ≡ walk_layer w (Node-F.Tree k ts) (walks_at (places_of (below.Fields (fields_are w k ts)) ts) ts)
walk_Tree w k ts = at_layer w (Tree k ts) (Node-F.Tree k ts) (outs-Tree k ts) ∙ ap (λ places. walk_layer w (Node-F.Tree k ts) (walks_at places ts)) (sym (fields_below w k ts))

-- at an identifier, at a list, and at a tree, as the code has them
pub name_walked : (w : Place) (t : Node) (k : Kind) (i j : Ident) → t ≡ Identifier k i → j ≡ i → (o : Outside) (l : Laid) → walk_name w j o l ≡ walk_in w t o l
name_walked w t k i j e same o l =
    ap (λ i. walk_name w i o l) same
    ∙ sym (ap (λ f. f o l) (walk_Identifier w k i))
    ∙ sym (ap (λ t. walk_in w t o l) e)

pub list_walked : (w : Place) (t : Node) (ts : List Node) (p : PlacesBelow) → t ≡ Many ts → p ≡ below.Items w → (o : Outside) (l : Laid)
    → walk_items (walks_at (places_of p ts) ts) (length ts) o l ≡ walk_in w t o l
list_walked w t ts p e q o l =
    ap (λ p. walk_items (walks_at (places_of p ts) ts) (length ts) o l) q
    ∙ sym (ap (λ f. f o l) (walk_List w ts))
    ∙ sym (ap (λ t. walk_in w t o l) e)

pub tree_walked : (w : Place) (t : Node) (k : Kind) (ts : List Node) (p : PlacesBelow) → t ≡ Tree k ts → p ≡ below.Fields (fields_are w k ts)
    → (o : Outside) (l : Laid) (opened : Option Scope) → opened ≡ scope_of_fields p → (s : Option ScopeKind) → s ≡ body_kind o.for_body (kind_opened k opened)
    → walk_opening s w k ts (walks_at (places_of p ts) ts) o l ≡ walk_in w t o l
tree_walked w t k ts p e q o l opened is_opened s is_kind =
    ap (λ s. walk_opening s w k ts (walks_at (places_of p ts) ts) o l) (is_kind ∙ ap (λ c. body_kind o.for_body (kind_opened k c)) (is_opened ∙ ap scope_of_fields q))
    ∙ ap (λ p. walk_opening (body_kind o.for_body (kind_opened k (scope_of_fields (below.Fields (fields_are w k ts))))) w k ts (walks_at (places_of p ts) ts) o l) q
    ∙ sym (ap (λ f. f o l) (walk_Tree w k ts))
    ∙ sym (ap (λ t. walk_in w t o l) e)

-- where no name stands
pub nameless_walked : (w : Place) (t : Node) → may_hold_names t ≡ false → (o : Outside) (l : Laid) → walk_in w t o l ≡ l
nameless_walked w t h o l = ap (λ f. f o l) (walk_out w t) ∙ by (out-Node t) h
  where
    by : (y : Node-F Node) → may_hold_names_in y ≡ false → walk_layer w y (walks_at (place_below w t) (children_in (out-Node t))) o l ≡ l
    by (Node-F.List ts) h = absurd (cc)
    by (Node-F.Identifier k i) h = absurd (cc)
    by (Node-F.Tree k ts) h = absurd (cc)
    by y h = refl

-- a field in which no name stands, another, and one that is not there
walked_there : (k : Kind) (ts : List Node) (places : ℕ → Place) (i : ℕ) (c : Node) → slice_get ts i ≡ Some c → (o : Outside) (l : Laid)
    → walk_in (places i) c (round_field k ts o i) l ≡ walk_field k ts (walks_at places ts) i o l
walked_there k ts places i c there o l = ap (λ t. goes (option_map (walk_in (places i)) t) (round_field k ts o i) l) (sym there)

pub nameless_field_walked : (k : Kind) (ts : List Node) (places : ℕ → Place) (i : ℕ) (c : Node) → slice_get ts i ≡ Some c → may_hold_names c ≡ false
    → (o : Outside) (l : Laid) → l ≡ walk_field k ts (walks_at places ts) i o l
nameless_field_walked k ts places i c there nameless o l = sym (nameless_walked (places i) c nameless (round_field k ts o i) l) ∙ walked_there k ts places i c there o l

pub field_walked : (k : Kind) (ts : List Node) (p : PlacesBelow) (i : ℕ) (c : Node) → slice_get ts i ≡ Some c → (w : Place) → w ≡ place_of p i (Some c)
    → (o below : Outside) → below ≡ round_field k ts o i → (l : Laid) → walk_in w c below l ≡ walk_field k ts (walks_at (places_of p ts) ts) i o l
field_walked k ts p i c there w is_place o below is_below l =
    ap (λ below. walk_in w c below l) is_below
    ∙ ap (λ w. walk_in w c (round_field k ts o i) l) (is_place ∙ ap (place_of p i) (sym there))
    ∙ walked_there k ts (places_of p ts) i c there o l

pub no_field_walked : (k : Kind) (ts : List Node) (places : ℕ → Place) (i : ℕ) → slice_get ts i ≡ None → (o : Outside) (l : Laid) → walk_field k ts (walks_at places ts) i o l ≡ l
no_field_walked k ts places i none o l = ap (λ t. goes (option_map (walk_in (places i)) t) (round_field k ts o i) l) none

pub nameless_but_walked : (k : Kind) (ts : List Node) (places : ℕ → Place) (but : Option ℕ) (i : ℕ) (c : Node) → slice_get ts i ≡ Some c → may_hold_names c ≡ false
    → (o : Outside) (l : Laid) → l ≡ walk_but k ts (walks_at places ts) but i o l
nameless_but_walked k ts places but i c there nameless o l = skipped (is_at but i)
  where
    skipped : (b : Bool) → l ≡ cond b l (walk_field k ts (walks_at places ts) i o l)
    skipped true = refl
    skipped false = nameless_field_walked k ts places i c there nameless o l

-- there is a turn past the last field, or it would be that of no field
past_turns : (k : Kind) (n : ℕ) → (turns_of k n ≡ n + 1) ⊎ ((turns_of k n ≡ n) × (child_at k n ≡ n))
past_turns kind.CatchClause n = inl refl
past_turns k n = inr (refl, refl)

none_at_end : (ts : List Node) → slice_get ts (length ts) ≡ None
none_at_end [] = refl
none_at_end (t ∷ ts) = none_at_end ts

pub turns_walked : (k : Kind) (ts : List Node) (places : ℕ → Place) (but : Option ℕ) (o : Outside) (l : Laid)
    → in_turn (λ i. walk_but k ts (walks_at places ts) but (child_at k i) o) (turns_of k (length ts)) l ≡ walk_fields k ts (walks_at places ts) but o l
turns_walked k ts places but o l = by (past_turns k (length ts))
  where
    walked : ℕ → Laid → Laid
    walked i = walk_but k ts (walks_at places ts) but i o

    f : ℕ → Laid → Laid
    f i = walked (child_at k i)

    skipped : (b : Bool) (m : Laid) → cond b m (walk_field k ts (walks_at places ts) (length ts) o m) ≡ m
    skipped true m = refl
    skipped false m = no_field_walked k ts places (length ts) (none_at_end ts) o m

    next : f (length ts) (in_turn f (length ts) l) ≡ in_turn f (length ts + 1) l
    next = rw add-one refl

    by : (turns_of k (length ts) ≡ length ts + 1) ⊎ ((turns_of k (length ts) ≡ length ts) × (child_at k (length ts) ≡ length ts)) → in_turn f (turns_of k (length ts)) l ≡ in_turn f (length ts + 1) l
    by (inl more) = ap (λ n. in_turn f n l) more
    by (inr (all, own)) =
        let m = in_turn f (length ts) l in
        ap (λ n. in_turn f n l) all ∙ sym (ap (λ i. walked i m) own ∙ skipped (is_at but (length ts)) m) ∙ next

-- one turn more
pub one_turn_more : (f : ℕ → Laid → Laid) (i : ℕ) (a l b : Laid) → l ≡ in_turn f i a → b ≡ f i l → b ≡ in_turn f (i + 1) a
one_turn_more f i a l b was new = new ∙ ap (f i) was ∙ next
  where
    next : f i (in_turn f i a) ≡ in_turn f (i + 1) a
    next = rw add-one refl

-- the steps of the walk at a node that opens a scope
pub scope_walked : (s : ScopeKind) (w : Place) (k : Kind) (ts : List Node) (walks : ℕ → Option Walk) (o : Outside) (l : Laid)
    → (key : Option ℕ) → key ≡ key_field k → (keyed : Laid) → keyed ≡ walk_optional k ts walks key o l
    → (n : ℕ) → n ≡ length keyed.regions → (entered : Laid) → entered ≡ enter s o.scope keyed
    → (name : Option ℕ) → name ≡ name_outside w k (has_identifier ts) → (named : Laid) → named ≡ walk_optional k ts walks name o entered
    → (begun : Laid) → begun ≡ begin n named → (used : Laid) → used ≡ own_use n o o.own_name begun
    → (but : Option ℕ) → but ≡ option_or key name → (walked : Laid) → walked ≡ walk_fields k ts walks but (record o { scope = Some n }) used
    → (ended : Laid) → ended ≡ end n walked → ended ≡ walk_scope s w k ts walks o l
scope_walked s w k ts walks o l key is_key keyed is_keyed n is_n entered is_entered name is_name named is_named begun is_begun used is_used but is_but walked is_walked ended is_ended =
    is_ended
    ∙ ap (end n) is_walked
    ∙ ap (λ m. end n (walk_fields k ts walks but (record o { scope = Some n }) m)) (is_used ∙ ap (own_use n o o.own_name) (is_begun ∙ ap (begin n) all_named))
    ∙ (λ j. inside (number j) (left_out j))
  where
    all_keyed : keyed ≡ walk_optional k ts walks (key_field k) o l
    all_keyed = is_keyed ∙ ap (λ f. walk_optional k ts walks f o l) is_key

    number : n ≡ length (walk_optional k ts walks (key_field k) o l).regions
    number = is_n ∙ ap (λ m. length m.regions) all_keyed

    all_named : named ≡ walk_optional k ts walks (name_outside w k (has_identifier ts)) o (enter s o.scope (walk_optional k ts walks (key_field k) o l))
    all_named = is_named ∙ (λ j. walk_optional k ts walks (is_name j) o ((is_entered ∙ ap (enter s o.scope) all_keyed) j))

    left_out : but ≡ option_or (key_field k) (name_outside w k (has_identifier ts))
    left_out = is_but ∙ (λ j. option_or (is_key j) (is_name j))

    inside : ℕ → Option ℕ → Laid
    inside n but = walk_inside k ts walks but n o (walk_optional k ts walks (name_outside w k (has_identifier ts)) o (enter s o.scope (walk_optional k ts walks (key_field k) o l)))
