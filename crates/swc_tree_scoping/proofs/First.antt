-- The scopes round a path: each is a scope, each has round it those that come after it, and in a program there is
-- one that takes what is bound.
use Rattle.std.proofs.Common.{◌≡◌, ℕ, Bool, true, false, IsTrue, Option, Some, None, List, [], ◌∷◌, ◌++◌, map, refl, sym, ap, ◌∙◌, subst, cond}
use Rattle.std.specs.Option.{is_some}
use Rattle.swc_tree_node.specs.declared.node.Node.{Node, out-Node}
use Rattle.swc_tree_node.specs.declared.node.Node.TheOpen.{Node-F}
use Rattle.swc_tree_scoping.specs.declared.places.Standing.{Standing}
use Rattle.swc_tree_scoping.specs.declared.places.Standing.TheVariants as standing
use Rattle.swc_tree_scoping.specs.declared.places.Place.{Place}
use Rattle.swc_tree_scoping.specs.declared.places.Scope.{Scope}
use Rattle.swc_tree_scoping.specs.declared.places.Scope.TheVariants as scope
use Rattle.swc_tree_scoping.specs.declared.places.View.{View}
use Rattle.swc_tree_scoping.specs.declared.places.View.TheVariants as view
use Rattle.swc_tree_node.specs.declared.kind.Kind.{Kind}
use Rattle.swc_tree_node.specs.declared.kind.Kind.TheVariants as kind
use Rattle.swc_tree_scoping.specs.Places.{Path, child, given, opened, opened_as, opened_in, place_below, program_place, view_from}
use Rattle.swc_tree_scoping.specs.Scopes.{Round, is_binding, is_taken, rounds, scope_at, seen_as, view_in, first_that, taker, takes}
use Rattle.swc_tree_scoping.proofs.Under.{lower, no_rounds_under, rounds_under, scope_under}

-- each of a list of rounds
abbrev pub Each : (Round → Type 0) → List Round → Type 0
Each P [] = Unit {0}
Each P (s ∷ ss) = P s × Each P ss

pub Each-map : (P Q : Round → Type 0) → ((s : Round) → P s → Q s) → (ss : List Round) → Each P ss → Each Q ss
Each-map P Q f [] h = tt
Each-map P Q f (s ∷ ss) h = (f s h.0, Each-map P Q f ss h.1)

Each-under : (P Q : Round → Type 0) (i : ℕ) → ((s : Round) → P s → Q (lower i s)) → (ss us : List Round) → Each P ss → Each Q us → Each Q (map (lower i) ss ++ us)
Each-under P Q i f [] us h g = g
Each-under P Q i f (s ∷ ss) us h g = (f s h.0, Each-under P Q i f ss us h.1 g)

-- the scopes round a path are scopes
abbrev pub Opens : Place → Node → Path → Type 0
Opens w t s = IsTrue (is_some (scope_at w t s))

seen_opens : (w : Place) (t : Node) (o : Option Scope) (v : View) → opened w t ≡ o → Each (λ s. Opens w t s.0) (seen_as o v)
seen_opens w t None v e = tt
seen_opens w t (Some s) view.Outside e = tt
seen_opens w t (Some s) view.Parameters e = (subst (λ (o : Option Scope). IsTrue (is_some o)) (sym e) refl, tt)
seen_opens w t (Some s) view.Whole e = (subst (λ (o : Option Scope). IsTrue (is_some o)) (sym e) refl, tt)

pub round_opens : (p : Path) (w : Place) (t : Node) → Each (λ s. Opens w t s.0) (rounds w t p)
round_opens [] w t = tt
round_opens (i ∷ p) w t = at (child t i) refl (λ c. round_opens p (place_below w t i) c)
  where
    at : (o : Option Node) → child t i ≡ o → ((c : Node) → Each (λ s. Opens (place_below w t i) c s.0) (rounds (place_below w t i) c p)) → Each (λ s. Opens w t s.0) (rounds w t (i ∷ p))
    at None h below = subst (Each (λ s. Opens w t s.0)) (sym (no_rounds_under w t i p h)) (seen_opens w t (opened w t) (view_in (out-Node t) i) refl)
    at (Some c) h below = subst (Each (λ s. Opens w t s.0)) (sym (rounds_under w t c i p h))
        (Each-under (λ s. Opens (place_below w t i) c s.0) (λ s. Opens w t s.0) i (λ s o. subst (λ (z : Option Scope). IsTrue (is_some z)) (sym (scope_under w t c i s.0 h)) o)
        (rounds (place_below w t i) c p) (seen_as (opened w t) (view_in (out-Node t) i)) (below c) (seen_opens w t (opened w t) (view_in (out-Node t) i) refl))

-- after each come those round it
abbrev pub Nested : Place → Node → List Round → Type 0
Nested w t [] = Unit {0}
Nested w t (s ∷ ss) = (ss ≡ rounds w t s.0) × Nested w t ss

seen_nested : (w : Place) (t : Node) (o : Option Scope) (v : View) → Nested w t (seen_as o v)
seen_nested w t None v = tt
seen_nested w t (Some s) view.Outside = tt
seen_nested w t (Some s) view.Parameters = (refl, tt)
seen_nested w t (Some s) view.Whole = (refl, tt)

nested_under : (w : Place) (t c : Node) (i : ℕ) → child t i ≡ Some c → (ss : List Round) → Nested (place_below w t i) c ss → Nested w t (map (lower i) ss ++ seen_as (opened w t) (view_in (out-Node t) i))
nested_under w t c i h [] n = seen_nested w t (opened w t) (view_in (out-Node t) i)
nested_under w t c i h (s ∷ ss) n =
    (ap (λ l. map (lower i) l ++ seen_as (opened w t) (view_in (out-Node t) i)) n.0 ∙ sym (rounds_under w t c i s.0 h), nested_under w t c i h ss n.1)

pub rounds_nested : (p : Path) (w : Place) (t : Node) → Nested w t (rounds w t p)
rounds_nested [] w t = tt
rounds_nested (i ∷ p) w t = at (child t i) refl (λ c. rounds_nested p (place_below w t i) c)
  where
    at : (o : Option Node) → child t i ≡ o → ((c : Node) → Nested (place_below w t i) c (rounds (place_below w t i) c p)) → Nested w t (rounds w t (i ∷ p))
    at None h below = subst (Nested w t) (sym (no_rounds_under w t i p h)) (seen_nested w t (opened w t) (view_in (out-Node t) i))
    at (Some c) h below = subst (Nested w t) (sym (rounds_under w t c i p h)) (nested_under w t c i h (rounds (place_below w t i) c p) (below c))

-- from anywhere in a program, the program is the last of the scopes round
pub last_round : (t : Node) (p : Path) (i : ℕ) → opened program_place t ≡ Some scope.Program → (front : List Round) × (rounds program_place t (i ∷ p) ≡ front ++ seen_as (Some scope.Program) (view_in (out-Node t) i))
last_round t p i opens = (map (lower i) (given (child t i) [] (λ c. rounds (place_below program_place t i) c p)), ap (λ o. map (lower i) (given (child t i) [] (λ c. rounds (place_below program_place t i) c p)) ++ seen_as o (view_in (out-Node t) i)) opens)

pub found_last : (f : Round → Bool) (front : List Round) (s : Round) → f s ≡ true → (q : Path) × (first_that f (front ++ s ∷ []) ≡ Some q)
found_last f [] s h = (s.0, rw h refl)
found_last f (u ∷ us) s h = next (f u) (found_last f us s h)
  where
    next : (b : Bool) → (q : Path) × (first_that f (us ++ s ∷ []) ≡ Some q) → (q : Path) × (cond b (Some u.0) (first_that f (us ++ s ∷ [])) ≡ Some q)
    next true r = (u.0, refl)
    next false r = r

-- the kinds that open a program
program_kind : (k : Kind) (b : Bool) (i : ℕ) → opened_as program_place k b ≡ Some scope.Program → view_from k i ≡ view.Whole
program_kind kind.Module b i h = refl
program_kind kind.Script b i h = refl
program_kind kind.FnExpr true i h = absurd (cc)
program_kind kind.FnExpr false i h = absurd (cc)
program_kind kind.ClassExpr true i h = absurd (cc)
program_kind kind.ClassExpr false i h = absurd (cc)
program_kind _ b i h = absurd (cc)

program_whole : (y : Node-F Node) (i : ℕ) → opened_in program_place y ≡ Some scope.Program → view_in y i ≡ view.Whole
program_whole (Node-F.Tree k ts) i h = program_kind k _ i h
program_whole Node-F.Absent i h = refl
program_whole (Node-F.Flag x) i h = refl
program_whole (Node-F.Word x) i h = refl
program_whole (Node-F.Text x) i h = refl
program_whole (Node-F.Span x) i h = refl
program_whole (Node-F.List x) i h = refl
program_whole (Node-F.Identifier k x) i h = refl

pub program_takes : (r : Standing) → takes r scope.Program ≡ is_binding r
program_takes standing.Variable = refl
program_takes standing.Function = refl
program_takes _ = refl

-- what stands nowhere but at the root of a program is taken by a scope, if it is bound
pub has_taker : (t : Node) (p : Path) (i : ℕ) (r : Standing) → opened program_place t ≡ Some scope.Program → is_binding r ≡ true → (s : Path) × (taker r t (i ∷ p) ≡ Some s)
has_taker t p i r opens b =
    let (front, e) = last_round t p i opens in
    let (q, f) = found_last (λ s. is_taken r (scope_at program_place t s.0)) front ([], true) (ap (is_taken r) opens ∙ program_takes r ∙ b) in
    (q, ap (first_that (λ s. is_taken r (scope_at program_place t s.0))) (e ∙ ap (λ v. front ++ seen_as (Some scope.Program) v) (program_whole (out-Node t) i opens)) ∙ f)
