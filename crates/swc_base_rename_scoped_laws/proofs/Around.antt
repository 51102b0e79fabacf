-- What stands in a scope of the language stands in each scope of the analysis that is at it or above it.
use Rattle.std.proofs.Common.{◌≡◌, ℕ, zero, suc, ◌==◌, Bool, true, false, ◌&&◌, ⊎_elim, Option, Some, None, [], ◌∷◌, ◌++◌, map, Contains, refl, sym, ap, ◌∙◌, subst, cond, arith}
use Rattle.std.specs.Prelude.{if◌then◌else◌}
use Rattle.std.proofs.lemmas.List.Elements.{Contains-append_cases}
use Rattle.swc_tree_node.specs.declared.kind.Kind.{Kind}
use Rattle.swc_tree_node.specs.declared.kind.Kind.TheVariants as kind
use Rattle.swc_tree_node.specs.declared.node.Node.{Node, out-Node}
use Rattle.swc_tree_node.specs.declared.node.Node.TheOpen.{Node-F}
use Rattle.swc_tree_scoping.specs.declared.places.Standing.{Standing}
use Rattle.swc_tree_scoping.specs.declared.places.Standing.TheVariants as standing
use Rattle.swc_tree_scoping.specs.declared.places.Place.{Place}
use Rattle.swc_tree_scoping.specs.declared.places.Scope.{Scope}
use Rattle.swc_tree_scoping.specs.declared.places.Scope.TheVariants as scope
use Rattle.swc_tree_scoping.specs.declared.places.View.{View}
use Rattle.swc_tree_scoping.specs.declared.places.View.TheVariants as view
use Rattle.swc_tree_scoping.specs.Places.{Path, child, given, has_own_name, is_at, is_inside, name_scope, named, opened, opened_as, opened_in, place_below, program_place, view_from}
use Rattle.swc_tree_scoping.specs.Scopes.{rounds, seen_as, view_in}
use Rattle.swc_base_rename_analysis.specs.declared.scopes.ScopeKind.{ScopeKind}
use Rattle.swc_base_rename_analysis.specs.Analysis.{IsRound, body_kind, has_identifier, is_default_export, is_for_body, is_outside, key_field, opened_here, opened_round, own_kind}
use Rattle.swc_base_rename_analysis.proofs.Kept.{from_map, none_there, under}
use Rattle.swc_base_rename_analysis_laws.proofs.Items.{some_same}
use Rattle.swc_base_rename_analysis_laws.proofs.Rounds.{IsOpened, IsRoundIn, all_steps, step_by_step}

-- a scope of the language that is seen from a path, step by step
abbrev pub IsSeenIn : Place → Node → Path → Path → Type 0
IsSeenIn w t s [] = ⊥
IsSeenIn w t [] (i ∷ p) = (z : Scope) × (opened w t ≡ Some z) × (is_inside (view_in (out-Node t) i) ≡ true)
IsSeenIn w t (j ∷ s) (i ∷ p) = (j ≡ i) × ((c : Node) × (child t i ≡ Some c) × IsSeenIn (place_below w t i) c s p)

seen_here : (o : Option Scope) (v : View) (s : Path) (whole : Bool) → Contains (seen_as o v) (s, whole) → (z : Scope) × (o ≡ Some z) × (is_inside v ≡ true) × ([] ≡ s)
seen_here None v s whole h = none_there h
seen_here (Some z) view.Outside s whole h = none_there h
seen_here (Some z) view.Parameters s whole (zero, l, e) = (z, refl, refl, ap (λ r. r.0) e)
seen_here (Some z) view.Parameters s whole (suc n, l, e) = absurd (omega (arith, l))
seen_here (Some z) view.Whole s whole (zero, l, e) = (z, refl, refl, ap (λ r. r.0) e)
seen_here (Some z) view.Whole s whole (suc n, l, e) = absurd (omega (arith, l))

no_more : {A : Type 0} (j : ℕ) (s : Path) → [] ≡ (j ∷ s) → A
no_more j s e = absurd (cc)

first_of : (x y : ℕ) (xs ys : Path) → (x ∷ xs) ≡ (y ∷ ys) → x ≡ y
first_of x y xs ys e = cc

rest_of : (x y : ℕ) (xs ys : Path) → (x ∷ xs) ≡ (y ∷ ys) → xs ≡ ys
rest_of x y xs ys e = cc

seen_steps : (p s : Path) (w : Place) (t : Node) (whole : Bool) → Contains (rounds w t p) (s, whole) → IsSeenIn w t s p
seen_steps [] s w t whole h = none_there h
seen_steps (i ∷ p) s w t whole h = ⊎_elim (below (child t i) refl (λ c s whole. seen_steps p s (place_below w t i) c whole)) (here s) (Contains-append_cases _ _ (s, whole) h)
  where
    here : (s : Path) → Contains (seen_as (opened w t) (view_in (out-Node t) i)) (s, whole) → IsSeenIn w t s (i ∷ p)
    here [] c = let (z, o, v, e) = seen_here (opened w t) (view_in (out-Node t) i) [] whole c in (z, o, v)
    here (j ∷ s) c = let (z, o, v, e) = seen_here (opened w t) (view_in (out-Node t) i) (j ∷ s) whole c in no_more j s e

    lowered : (c : Node) → child t i ≡ Some c → (s r : Path) → (i ∷ r) ≡ s → IsSeenIn (place_below w t i) c r p → IsSeenIn w t s (i ∷ p)
    lowered c e [] r same h = no_more i r (sym same)
    lowered c e (j ∷ s) r same h = (sym (first_of _ _ _ _ same), (c, e, subst (λ s. IsSeenIn (place_below w t i) c s p) (rest_of _ _ _ _ same) h))

    below : (o : Option Node) → child t i ≡ o → ((c : Node) (s : Path) (whole : Bool) → Contains (rounds (place_below w t i) c p) (s, whole) → IsSeenIn (place_below w t i) c s p)
        → Contains (map (under i) (given (child t i) [] (λ c. rounds (place_below w t i) c p))) (s, whole) → IsSeenIn w t s (i ∷ p)
    below None e more c = none_there (subst (λ o. Contains (map (under i) (given o [] (λ c. rounds (place_below w t i) c p))) (s, whole)) e c)
    below (Some d) e more c =
        let (r, g, same) = from_map (under i) (rounds (place_below w t i) d p) (s, whole) (subst (λ o. Contains (map (under i) (given o [] (λ c. rounds (place_below w t i) c p))) (s, whole)) e c) in
        lowered d e s r.0 (ap (λ z. z.0) same) (more d r.0 r.1 g)

-- a scope that is seen from a scope is seen from all that sees that one
seen_through : (s u p : Path) (w : Place) (t : Node) → IsSeenIn w t s u → IsSeenIn w t u p → IsSeenIn w t s p
seen_through s [] p w t h g = absurd h
seen_through s (i ∷ u) [] w t h g = absurd g
seen_through [] (i ∷ u) (l ∷ p) w t h (e, g) = subst (λ i. (z : Scope) × (opened w t ≡ Some z) × (is_inside (view_in (out-Node t) i) ≡ true)) e h
seen_through (j ∷ s) (i ∷ u) (l ∷ p) w t (d, (c, there, h)) (e, (b, here, g)) = (d ∙ e, (b, here, seen_through s u p (place_below w t l) b h_here g))
  where
    one : c ≡ b
    one = some_same (sym there ∙ ap (child t) e ∙ here)

    h_here : IsSeenIn (place_below w t l) b s u
    h_here = subst (λ b. IsSeenIn (place_below w t l) b s u) one (subst (λ i. IsSeenIn (place_below w t i) c s u) e h)

-- what stands outside of a scope of the analysis is not seen by the language there
name_scope_same : (r : Standing) (b : Bool) (s o : Scope) → name_scope r b s ≡ Some o → is_default_export r ≡ false
name_scope_same standing.DefaultExport b s o e = absurd (cc)
name_scope_same _ b s o e = refl

impossible : {A : Type 0} → false ≡ true → A
impossible h = absurd (cc)

key_seen : (k : Kind) (i : ℕ) → is_at (key_field k) i ≡ true → is_inside (view_from k i) ≡ false
key_seen kind.Constructor i h = ap (λ b. is_inside (cond b view.Outside (cond (is_at (Some 2) i) view.Parameters view.Whole))) h
key_seen kind.GetterProp i h = ap (λ b. is_inside (cond b view.Outside view.Whole)) h
key_seen kind.TsModuleDecl i h = ap (λ b. is_inside (cond b view.Outside view.Whole)) h
key_seen kind.SetterProp i h = ap (λ b. is_inside (cond b view.Outside (cond (is_at (Some 2) i) view.Parameters view.Whole))) h
key_seen _ i h = impossible h

not_true : (b : Bool) → (b ≡ true → ⊥) → b ≡ false
not_true true n = absurd (n refl)
not_true false n = refl

not_outside : (w : Place) (k : Kind) (b named : Bool) (s : Scope) (i : ℕ) → opened_as w k b ≡ Some s → is_inside (view_from k i) ≡ true → is_outside w k named i ≡ false
not_outside w kind.ClassExpr b named s i e v = ap (λ d. d && (named && i == 0)) (name_scope_same w.standing b scope.ClassName s e)
not_outside w k b named s i e v = not_true (is_at (key_field k) i) (λ h. impossible (sym (key_seen k i h) ∙ v))

-- so a scope of both stands round each child that the language sees it from
other_child : (f : Bool) (w : Place) (y : Node-F Node) (i j : ℕ) (z : Scope) (k : ScopeKind) → Contains (opened_round f w y i) ([], k) → opened_in w y ≡ Some z → is_inside (view_in y j) ≡ true → (a : ScopeKind) × Contains (opened_round f w y j) ([], a)
other_child f w (Node-F.Tree l ts) i j z k c o v = by (is_outside w l (has_identifier ts) i) c
  where
    by : (b : Bool) → Contains (if b then [] else opened_here (body_kind f (own_kind w l (has_own_name ts)))) ([], k) → (a : ScopeKind) × Contains (opened_round f w (Node-F.Tree l ts) j) ([], a)
    by true c = none_there c
    by false c =
        (k, subst (λ b. Contains (if b then [] else opened_here (body_kind f (own_kind w l (has_own_name ts)))) ([], k)) (sym (not_outside w l (has_own_name ts) (has_identifier ts) z j o v)) c)
other_child f w Node-F.Absent i j z k c o v = none_there c
other_child f w _ i j z k c o v = none_there c

surrounds_in : (u rest p q : Path) (f : Bool) (w : Place) (t : Node) → IsRoundIn f w t u p → IsSeenIn w t (u ++ rest) p → IsSeenIn w t (u ++ rest) q → IsRoundIn f w t u q
surrounds_in u rest [] q f w t h g m = absurd h
surrounds_in u rest (i ∷ p) [] f w t h g m = absurd m
surrounds_in [] [] (i ∷ p) (l ∷ q) f w t (k, c) g (z, o, v) = other_child f w (out-Node t) i l z k c o v
surrounds_in [] (j ∷ rest) (i ∷ p) (l ∷ q) f w t h (d, g) (e, m) = subst (λ i. IsOpened f w t i) (sym d ∙ e) h
surrounds_in (j ∷ u) rest (i ∷ p) (l ∷ q) f w t (d, (c, there, h)) (d', (b, here, g)) (e, (a, where_, m)) = (
  e,
  (
    a,
    where_,
    subst (λ l. IsRoundIn (is_for_body (out-Node t) l) (place_below w t l) a u q) same
        (surrounds_in u rest p q (is_for_body (out-Node t) i) (place_below w t i) a
        (subst (λ c. IsRoundIn (is_for_body (out-Node t) i) (place_below w t i) c u p) (some_same (sym there ∙ at_l)) h)
        (subst (λ c. IsSeenIn (place_below w t i) c (u ++ rest) p) (some_same (sym here ∙ at_l)) g)
        (subst (λ l. IsSeenIn (place_below w t l) a (u ++ rest) q) (sym same) m)),
  ),
)
  where
    same : i ≡ l
    same = sym d ∙ e

    at_l : child t i ≡ Some a
    at_l = ap (child t) same ∙ where_

-- at a whole tree
abbrev pub IsSeen : Node → Path → Path → Type 0
IsSeen t s p = IsSeenIn program_place t s p

pub seen : (t : Node) (s p : Path) (whole : Bool) → Contains (rounds program_place t p) (s, whole) → IsSeen t s p
seen t s p whole h = seen_steps p s program_place t whole h

pub seen_from : (t : Node) (s u p : Path) → IsSeen t s u → IsSeen t u p → IsSeen t s p
seen_from t s u p h g = seen_through s u p program_place t h g

-- a scope of the analysis that is one of the language or stands above it, and round something in it, stands round all in it
pub surrounds : (t : Node) (u rest p q : Path) → IsRound t u p → IsSeen t (u ++ rest) p → IsSeen t (u ++ rest) q → IsRound t u q
surrounds t u rest p q (k, c) g m = all_steps q u false program_place t (surrounds_in u rest p q false program_place t (step_by_step p u false program_place t k c) g m)
