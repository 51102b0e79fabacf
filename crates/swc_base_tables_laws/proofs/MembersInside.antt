-- A script stands in the one with members in place of the identifiers that name helpers, and all of that stands in it.
use Rattle.std.proofs.Common.{◌≡◌, ℕ, zero, suc, Bool, true, false, not, inl, inr, ⊎_elim, IsTrue, Option, Some, None, List, [], ◌∷◌, ◌++◌, Contains, map, option_map, unwrap_or, refl, sym, ap, ◌∙◌, subst}
use Rattle.std.specs.List.{list_all, slice_get}
use Rattle.std.specs.Option.{is_some, option_and_then}
use Rattle.swc_tree_marks.specs.declared.ident.Ident.{Ident}
use Rattle.swc_tree_node.specs.declared.kind.Kind.{Kind}
use Rattle.swc_tree_node.specs.declared.kind.Kind.TheVariants as kind
use Rattle.swc_tree_node.specs.declared.kind.Class.TheVariants as class
use Rattle.swc_tree_node.specs.declared.slot.Content.TheVariants as content
use Rattle.swc_tree_node.specs.declared.slot.Slot.{Slot}
use Rattle.swc_tree_node.specs.declared.slot.Slot.TheVariants as slot
use Rattle.swc_tree_node.specs.declared.slot.Role.{Role}
use Rattle.swc_tree_node.specs.declared.slot.Role.TheVariants as role
use Rattle.swc_tree_node.specs.declared.node.Node.{Node, Identifier, Tree, out-Node}
use Rattle.swc_tree_node.specs.declared.node.Node.TheOpen.{Node-F}
use Rattle.swc_tree_node.specs.declared.node.Node.TheVariants.{outs-Tree}
use Rattle.swc_tree_node.specs.Table.{fields_of}
use Rattle.swc_tree_node.specs.Fits.{Fits}
use Rattle.swc_tree_node.proofs.Fit.{both}
use Rattle.swc_tree_scoping.specs.declared.places.Place.{Place}
use Rattle.swc_tree_scoping.specs.Places.{Path, child, field_role, opened, place_at, place_below, program_place}
use Rattle.swc_tree_scoping.specs.Scopes.{Round, rounds, scope_at}
use Rattle.swc_tree_scoping.specs.WellScoped.{InExportList, IsArrowOrMethod, has_unique_parameters, is_method}
use Rattle.swc_tree_scoping.proofs.First.{Each, Opens, round_opens}
use Rattle.swc_tree_renaming.proofs.Core.{cases_in, none_in}
use Rattle.swc_tree_renaming.proofs.Global.{fits_script}
use Rattle.swc_tree_renaming.proofs.Whole.{script_layer}
use Rattle.swc_tree_spaces.specs.NoTypes.{NoNamespaces}
use Rattle.swc_base_resolver_laws.proofs.ExportLists.{no_list_in_scripts}
use Rattle.swc_base_tables_injection.specs.declared.members.Seat.{Seat}
use Rattle.swc_base_tables_injection.specs.declared.members.Seat.TheVariants as seat
use Rattle.swc_base_tables_injection.specs.Members.{with_members}
use Rattle.swc_base_tables_laws.proofs.Covering.{names_covered, trees_stood}
use Rattle.swc_base_tables_laws.proofs.Declarers.{some_same}
use Rattle.swc_base_tables_laws.proofs.Deeper.{There, deeper, deeper_under, names_kept, no_child, parent, paths_apart, rounds_stay, scopes_fixed, scopes_stay, step_in, tail_of}
use Rattle.swc_base_tables_laws.proofs.Inside.{Inside, moved}
use Rattle.swc_base_tables_laws.proofs.Joined.{IsFrom}
use Rattle.swc_base_tables_laws.proofs.Made.{is_made}
use Rattle.swc_base_tables_laws.proofs.Membered.{seat_in}
use Rattle.swc_base_tables_laws.proofs.Seated.{Seated}

impossible : {A : Type 0} → false ≡ true → A
impossible h = absurd (cc)

-- what is made has no export list
abbrev Row : Type 0
Row = List ℕ × Slot × Role

abbrev is_local : Role → Bool
is_local role.ExportLocal = true
is_local _ = false

abbrev none_local : List Row → Bool
none_local fs = list_all (λ (f : Row). not (is_local f.2)) fs

role_of : (fs : List Row) (i : ℕ) → none_local fs ≡ true → unwrap_or (option_map (λ (f : Row). f.2) (slice_get fs i)) role.Plain ≡ role.ExportLocal → ⊥
role_of [] i h e = absurd (cc)
role_of (f ∷ fs) zero h e = impossible (sym (ap (λ r. not (is_local r)) e) ∙ (both (not (is_local f.2)) (none_local fs) h).0)
role_of (f ∷ fs) (suc i) h e = role_of fs i (both (not (is_local f.2)) (none_local fs) h).1 e

local_not_made : (k : Kind) (i : ℕ) → field_role k i ≡ role.ExportLocal → is_made k ≡ false
local_not_made kind.MemberExpr i e = absurd (role_of (fields_of kind.MemberExpr) i refl e)
local_not_made kind.KeyValueProp i e = absurd (role_of (fields_of kind.KeyValueProp) i refl e)
local_not_made kind.IdentName i e = absurd (role_of (fields_of kind.IdentName) i refl e)
local_not_made kind.ComputedPropName i e = absurd (role_of (fields_of kind.ComputedPropName) i refl e)
local_not_made kind.Str i e = absurd (role_of (fields_of kind.Str) i refl e)
local_not_made k i e = refl

unique_not_made : (k : Kind) → IsTrue (has_unique_parameters k) → is_made k ≡ false
unique_not_made kind.ArrowExpr h = refl
unique_not_made kind.Constructor h = refl
unique_not_made kind.SetterProp h = refl
unique_not_made _ h = impossible h

method_not_made : (k : Kind) → IsTrue (is_method k) → is_made k ≡ false
method_not_made kind.ClassMethod h = refl
method_not_made kind.PrivateMethod h = refl
method_not_made kind.MethodProp h = refl
method_not_made _ h = impossible h

module _ (m : ℕ) where
  -- a path that leads to something in both trees stays
  at_both : (p : Path) (w : Place) (q : Seat) (t : Node) → There w t p → There w t (deeper m q t p) → deeper m q t p ≡ p
  at_both [] w q t there (v, x, e) = by (out-Node t) refl
    where
      none : {A : Type 0} (k : Kind) (i : Ident) (n : ℕ) (r : Path) → out-Node t ≡ Node-F.Identifier k i → ◌≡◌ {A = Path} (tail_of m q (out-Node t)) (n ∷ r) → A
      none k i n r o is = let (c, at, below) = step_in w t n r v x (ap (place_at w t) (sym is) ∙ e) in no_child t c n k i o at

      by_tail : (k : Kind) (i : Ident) (d : Path) → out-Node t ≡ Node-F.Identifier k i → tail_of m q (out-Node t) ≡ d → tail_of m q (out-Node t) ≡ []
      by_tail k i [] o is = is
      by_tail k i (n ∷ r) o is = none k i n r o is

      by : (y : Node-F Node) → out-Node t ≡ y → tail_of m q (out-Node t) ≡ []
      by (Node-F.Identifier k i) o = by_tail k i (tail_of m q (out-Node t)) o refl
      by (Node-F.Tree k ts) o = ap (tail_of m q) o
      by (Node-F.List ts) o = ap (tail_of m q) o
      by Node-F.Absent o = ap (tail_of m q) o
      by (Node-F.Flag x) o = ap (tail_of m q) o
      by (Node-F.Word x) o = ap (tail_of m q) o
      by (Node-F.Text x) o = ap (tail_of m q) o
      by (Node-F.Span x) o = ap (tail_of m q) o
  at_both (n ∷ p) w q t (v, x, e) (u, y, g) =
      let (c, at, below) = step_in w t n p v x e in
      let r = seat_in q (out-Node t) n in
      let (d, at_too, below_too) = step_in w t n (deeper m r c p) u y (ap (place_at w t) (sym (deeper_under m q t c n p at)) ∙ g) in
      let same : d ≡ c = some_same d c (sym at_too ∙ at) in
      deeper_under m q t c n p at ∙ ap (λ p. n ∷ p) (at_both p (place_below w t n) r c (v, x, below) (u, y, ap (λ d. place_at (place_below w t n) d (deeper m r c p)) (sym same) ∙ below_too))

  never_empty : (q : Seat) (t : Node) (p : Path) → ◌≡◌ {A = Path} (deeper m q t p) [] → p ≡ []
  never_empty q t [] e = refl
  never_empty q t (n ∷ p) e = absurd (cc)

  -- and so does one whose last step is below a tree
  last_step : (p r : Path) (w : Place) (q : Seat) (t : Node) (i : ℕ) (v : Place) (k : Kind) (ts : List Node) → There w t p → place_at w t r ≡ Some (v, Tree k ts) → ◌≡◌ {A = Path} (deeper m q t p) (r ++ (i ∷ [])) → p ≡ r ++ (i ∷ [])
  last_step [] [] w q t i v k ts there e same =
      let o : out-Node t ≡ Node-F.Tree k ts = ap (λ (x : Place × Node). out-Node x.1) (some_same (w, t) (v, Tree k ts) e) ∙ outs-Tree k ts in
      let z : ◌≡◌ {A = Path} [] (i ∷ []) = sym (ap (tail_of m q) o) ∙ same in
      absurd (cc)
  last_step [] (n ∷ r) w q t i v k ts there e same =
      let (c, at, below) = step_in w t n r v (Tree k ts) e in
      let z : ◌≡◌ {A = Path} [] (n ∷ (r ++ (i ∷ []))) = sym (parent m q t c n at).1 ∙ same in
      absurd (cc)
  last_step (n ∷ p) [] w q t i v k ts (u, x, g) e same =
      let (c, at, below) = step_in w t n p u x g in
      let heads : ◌≡◌ {A = Path} (n ∷ deeper m (seat_in q (out-Node t) n) c p) (i ∷ []) = sym (deeper_under m q t c n p at) ∙ same in
      let first : n ≡ i = cc in
      let rest : ◌≡◌ {A = Path} (deeper m (seat_in q (out-Node t) n) c p) [] = cc in
      ap (λ p. n ∷ p) (never_empty (seat_in q (out-Node t) n) c p rest) ∙ ap (λ n. n ∷ []) first
  last_step (n ∷ p) (l ∷ r) w q t i v k ts (u, x, g) e same =
      let (c, at, below) = step_in w t n p u x g in
      let (d, at_too, below_too) = step_in w t l r v (Tree k ts) e in
      let heads : ◌≡◌ {A = Path} (n ∷ deeper m (seat_in q (out-Node t) n) c p) (l ∷ (r ++ (i ∷ []))) = sym (deeper_under m q t c n p at) ∙ same in
      let first : n ≡ l = cc in
      let rest : ◌≡◌ {A = Path} (deeper m (seat_in q (out-Node t) n) c p) (r ++ (i ∷ [])) = cc in
      let one : d ≡ c = some_same d c (sym at_too ∙ ap (child t) (sym first) ∙ at) in
      let there : place_at (place_below w t n) c r ≡ Some (v, Tree k ts) = ap (λ n. place_at (place_below w t n) c r) first ∙ ap (λ c. place_at (place_below w t l) c r) (sym one) ∙ below_too in
      ap (λ p. n ∷ p) (last_step p r (place_below w t n) (seat_in q (out-Node t) n) c i v k ts (u, x, below) there rest) ∙ ap (λ n. n ∷ (r ++ (i ∷ []))) first

  opens_there : (w : Place) (t : Node) (p : Path) → IsTrue (is_some (scope_at w t p)) → There w t p
  opens_there w t p h = by (place_at w t p) refl
    where
      by : (o : Option (Place × Node)) → place_at w t p ≡ o → There w t p
      by None o = impossible (sym (ap (λ (o : Option (Place × Node)). is_some (option_and_then (λ (q : Place × Node). opened q.0 q.1) o)) o) ∙ h)
      by (Some (v, n)) o = (v, n, o)

  each_in : (P : Round → Type 0) (ss : List Round) (s : Round) → Each P ss → Contains ss s → P s
  each_in P [] s h c = absurd (none_in s c)
  each_in P (z ∷ zs) s h c = ⊎_elim (λ (is : z ≡ s). subst P is h.0) (λ later. each_in P zs s h.1 later) (cases_in z s zs c)

  module _ (t : Node) (fit : Fits t (slot.One (content.Node class.Script))) (none : NoNamespaces t) where
    abbrev u : Node
    u = with_members m t

    abbrev f : Path → Path
    f p = deeper m seat.Other t p

    abbrev At : Path → Type 0
    At p = There program_place t p

    seated : Seated program_place (slot.One (content.Node class.Script)) seat.Other t
    seated = (fit, refl, ((λ h. impossible h), (λ h e. impossible h)))

    map_fixed : (ss : List Round) → Each (λ s. Opens program_place t s.0) ss → map (moved f) ss ≡ ss
    map_fixed [] h = refl
    map_fixed ((p, whole) ∷ ss) h = ap (λ p. (p, whole) ∷ map (moved f) ss) (scopes_fixed m p program_place seat.Other t h.0) ∙ ap (λ l. (p, whole) ∷ l) (map_fixed ss h.1)

    tree_stood : (p : Path) (w : Place) (k : Kind) (ts : List Node) → is_made k ≡ false → place_at program_place u p ≡ Some (w, Tree k ts) → (v : Place) × (us : List Node) × (place_at program_place t p ≡ Some (v, Tree k us))
    tree_stood p w k ts other e = trees_stood m p program_place program_place seat.Other t w k ts other e

    no_list : {A : Type 0} (p : Path) → InExportList u p → A
    no_list p (q, below, i, w, k, ts, e, there, exports) =
        let (v, us, stood) = tree_stood q w k ts (local_not_made k i exports) there in
        absurd (no_list_in_scripts t (q ++ (i ∷ below)) fit none (q, below, i, v, k, us, refl, stood, exports))

    arrows : (p : Path) → At p → IsArrowOrMethod u (f p) → IsArrowOrMethod t p
    arrows p there (inl (w, k, ts, e, is)) =
        let (v, us, stood) = tree_stood (f p) w k ts (unique_not_made k is) e in
        inl (v, k, us, ap (place_at program_place t) (sym (at_both p program_place seat.Other t there (v, Tree k us, stood))) ∙ stood, is)
    arrows p there (inr (r, i, path, (w, k, ts, e, is))) =
        let (v, us, stood) = tree_stood r w k ts (method_not_made k is) e in
        inr (r, i, last_step p r program_place seat.Other t i v k us there stood path, (v, k, us, stood, is))

    pub members_inside : Inside t u f At
    members_inside = record {
      placed = λ p w k i e. (w, Identifier k i, e);
      kept = λ p w k i e. names_kept m p program_place program_place (slot.One (content.Node class.Script)) seat.Other t w k i seated (λ h. refl) e;
      rounds_kept = λ p there. rounds_stay m p program_place program_place seat.Other t (λ h. refl) there ∙ sym (map_fixed (rounds program_place t p) (round_opens p program_place t));
      scopes_kept = λ p there. scopes_stay m p program_place program_place seat.Other t (λ h. refl) there;
      round_in = λ p s there inside. opens_there program_place t s.0 (each_in (λ s. Opens program_place t s.0) (rounds program_place t p) s (round_opens p program_place t) inside);
      one = λ p r there too e. paths_apart m p r program_place seat.Other t there too e;
      top = let (ts, o) = script_layer t (fits_script t fit) in ap (tail_of m seat.Other) o;
      root = (program_place, t, refl);
      listed = λ p w k i e list. no_list (f p) list;
      arrows = arrows;
    }

    pub members_covered : (p : Path) (w : Place) (k : Kind) (i : Ident) → place_at program_place u p ≡ Some (w, Identifier k i) → IsFrom t f p w k i
    members_covered p w k i e = names_covered m p program_place program_place (slot.One (content.Node class.Script)) seat.Other t w k i seated (λ h. refl) e
