-- A scope of the analysis that stands round a path is one of the language there, or that of a class expression, or the body
-- of a `for` statement.
use Rattle.std.proofs.Common.{◌≡◌, ℕ, zero, suc, Bool, true, false, ◌⊎◌, inl, inr, ⊎_elim, Option, Some, None, List, [], ◌∷◌, map, Contains, refl, sym, ap, ◌∙◌, subst, arith, cond}
use Rattle.std.specs.Prelude.{if◌then◌else◌}
use Rattle.std.specs.Option.{option_and_then}
use Rattle.std.proofs.lemmas.List.Elements.{Contains-append_left, Contains-append_right, Contains-append_cases}
use Rattle.swc_tree_node.specs.declared.kind.Kind.{Kind}
use Rattle.swc_tree_node.specs.declared.kind.Kind.TheVariants as kind
use Rattle.swc_tree_node.specs.declared.node.Node.{Node, Tree, out-Node}
use Rattle.swc_tree_node.specs.declared.node.Node.TheOpen.{Node-F}
use Rattle.swc_tree_node.specs.declared.node.Node.TheVariants.{outs-Tree}
use Rattle.swc_tree_scoping.specs.declared.places.Place.{Place}
use Rattle.swc_tree_scoping.specs.declared.places.Scope.{Scope}
use Rattle.swc_tree_scoping.specs.declared.places.View.{View}
use Rattle.swc_tree_scoping.specs.declared.places.View.TheVariants as view
use Rattle.swc_tree_scoping.specs.Places.{Path, child, given, has_own_name, is_at, is_inside, opened_as, opened_in, place_at, place_below, program_place, view_from}
use Rattle.swc_tree_scoping.specs.Scopes.{rounds, seen_as, view_in}
use Rattle.swc_base_rename_analysis.specs.declared.scopes.ScopeKind.{ScopeKind}
use Rattle.swc_base_rename_analysis.specs.Analysis.{Around, body_kind, has_identifier, is_for_body, is_outside, kind_of, opened_here, opened_round, own_kind, scopes_below}
use Rattle.swc_base_rename_analysis.specs.Laws.{AddsFew, is_body_at}
use Rattle.swc_base_rename_analysis.proofs.Kept.{from_map, impossible, lower, none_there, some_same, to_map, under}

same_kind : {k l : Kind} {ts us : List Node} → Node-F.Tree k ts ≡ Node-F.Tree l us → k ≡ l
same_kind e = cc

-- a scope that a node opens to the analysis, and not as the body of a `for`, is one of the language, or a class expression's
some_kind : (o : Option Scope) (a : ScopeKind) → option_and_then kind_of o ≡ Some a → (z : Scope) × (o ≡ Some z)
some_kind None a e = absurd (cc)
some_kind (Some z) a e = (z, refl)

own_of_language : (w : Place) (k : Kind) (b : Bool) (a : ScopeKind) → own_kind w k b ≡ Some a → (k ≡ kind.ClassExpr) ⊎ ((z : Scope) × (opened_as w k b ≡ Some z))
own_of_language w kind.ClassExpr b a e = inl refl
own_of_language w kind.FnDecl b a e = absurd (cc)
own_of_language w k b a e = inr (some_kind (opened_as w k b) a e)

parameters : (o : Bool) → is_inside (cond o view.Parameters view.Whole) ≡ true
parameters true = refl
parameters false = refl

-- of what stands in such a scope the language sees a part too
seen_too : (w : Place) (k : Kind) (b named : Bool) (i : ℕ) (a : ScopeKind) → own_kind w k b ≡ Some a → is_outside w k named i ≡ false → (k ≡ kind.ClassExpr) ⊎ (is_inside (view_from k i) ≡ true)
seen_too w kind.Constructor b named i a e n = inr (ap (λ o. is_inside (cond o view.Outside (cond (is_at (Some 2) i) view.Parameters view.Whole))) n ∙ parameters (is_at (Some 2) i))
seen_too w kind.GetterProp b named i a e n = inr (ap (λ o. is_inside (cond o view.Outside view.Whole)) n)
seen_too w kind.TsModuleDecl b named i a e n = inr (ap (λ o. is_inside (cond o view.Outside view.Whole)) n)
seen_too w kind.SetterProp b named i a e n = inr (ap (λ o. is_inside (cond o view.Outside (cond (is_at (Some 2) i) view.Parameters view.Whole))) n ∙ parameters (is_at (Some 2) i))
seen_too w kind.SwitchStmt b named i a e n = absurd (cc)
seen_too w kind.TsInterfaceDecl b named i a e n = absurd (cc)
seen_too w kind.TsTypeAliasDecl b named i a e n = absurd (cc)
seen_too w kind.TsEnumDecl b named i a e n = absurd (cc)
seen_too w kind.ClassExpr b named i a e n = inl refl
seen_too w kind.Function b named i a e n = inr (parameters (is_at (Some 1) i))
seen_too w kind.ArrowExpr b named i a e n = inr (parameters (is_at (Some 1) i))
seen_too w kind.CatchClause b named i a e n = inr (parameters (is_at (Some 1) i))
seen_too w _ b named i a e n = inr refl

seen_in : (z : Scope) (v : View) → is_inside v ≡ true → (whole : Bool) × Contains (seen_as (Some z) v) ([], whole)
seen_in z view.Outside h = impossible h
seen_in z view.Parameters h = (false, (0, (omega arith), refl))
seen_in z view.Whole h = (true, (0, (omega arith), refl))

-- what a node opens round a child
opened_is : (o : Bool) (m : Option ScopeKind) (s : Path) (a : ScopeKind) → Contains (if o then [] else opened_here m) (s, a) → (o ≡ false) × (m ≡ Some a) × (s ≡ [])
opened_is true m s a h = none_there h
opened_is false None s a h = none_there h
opened_is false (Some b) s a (zero, l, e) = (refl, ap (λ z. Some z.1) e, ap (λ z. z.0) (sym e))
opened_is false (Some b) s a (suc n, l, e) = absurd (omega arith)

body_or_own : (f : Bool) (o : Option ScopeKind) (a : ScopeKind) → body_kind f o ≡ Some a → (f ≡ true) ⊎ (o ≡ Some a)
body_or_own true o a e = inl refl
body_or_own false o a e = inr e

abbrev Told : Bool → Place → Node → Path → Path → Kind → Type 0
Told f w t s p k = ((whole : Bool) × Contains (rounds w t p) (s, whole)) ⊎ ((k ≡ kind.ClassExpr) ⊎ (is_body_at f t s ≡ true))

abbrev Here : Bool → Place → Kind → List Node → ℕ → Type 0
Here f w k ts i = ((whole : Bool) × Contains (seen_as (opened_as w k (has_own_name ts)) (view_from k i)) ([], whole)) ⊎ ((k ≡ kind.ClassExpr) ⊎ (f ≡ true))

told_here : (f : Bool) (w : Place) (k : Kind) (ts : List Node) (i : ℕ) (a : ScopeKind) → is_outside w k (has_identifier ts) i ≡ false → body_kind f (own_kind w k (has_own_name ts)) ≡ Some a → Here f w k ts i
told_here f w k ts i a n e = by (body_or_own f (own_kind w k (has_own_name ts)) a e)
  where
    by : (f ≡ true) ⊎ (own_kind w k (has_own_name ts) ≡ Some a) → Here f w k ts i
    by (inl h) = inr (inr h)
    by (inr h) = both (own_of_language w k (has_own_name ts) a h) (seen_too w k (has_own_name ts) (has_identifier ts) i a h n)
      where
        both : (k ≡ kind.ClassExpr) ⊎ ((z : Scope) × (opened_as w k (has_own_name ts) ≡ Some z)) → (k ≡ kind.ClassExpr) ⊎ (is_inside (view_from k i) ≡ true) → Here f w k ts i
        both (inl c) v = inr (inl c)
        both (inr z) (inl c) = inr (inl c)
        both (inr (z, o)) (inr v) = let (whole, c) = seen_in z (view_from k i) v in inl (whole, subst (λ o. Contains (seen_as o (view_from k i)) ([], whole)) (sym o) c)

told : (p : Path) (f : Bool) (w : Place) (t : Node) (s : Path) (a : ScopeKind) (v : Place) (k : Kind) (ts : List Node) → Contains (scopes_below f w t p) (s, a) → place_at w t s ≡ Some (v, Tree k ts) → Told f w t s p k
told [] f w t s a v k ts h there = none_there h
told (i ∷ p) f w t s a v k ts h there = ⊎_elim (below (child t i) refl (λ c s a. told p (is_for_body (out-Node t) i) (place_below w t i) c s a v k ts)) here (Contains-append_cases _ _ (s, a) h)
  where
    root : s ≡ [] → t ≡ Tree k ts
    root e = ap (λ z. z.1) (some_same (ap (place_at w t) (sym e) ∙ there))

    here : Contains (opened_round f w (out-Node t) i) (s, a) → Told f w t s (i ∷ p) k
    here c = at (out-Node t) refl c
      where
        at : (y : Node-F Node) → out-Node t ≡ y → Contains (opened_round f w y i) (s, a) → Told f w t s (i ∷ p) k
        at (Node-F.Tree l us) e c =
            let (n, m, r) = opened_is (is_outside w l (has_identifier us) i) (body_kind f (own_kind w l (has_own_name us))) s a c in
            by r l us (told_here f w l us i a n m) e
          where
            by : s ≡ [] → (l : Kind) (us : List Node) → Here f w l us i → out-Node t ≡ Node-F.Tree l us → Told f w t s (i ∷ p) k
            by r l us (inl (whole, c)) e = inl (whole, Contains-append_right _ _ (s, whole) (subst (λ y. Contains (seen_as (opened_in w y) (view_in y i)) (s, whole)) (sym e) (subst (λ s. Contains (seen_as (opened_as w l (has_own_name us)) (view_from l i)) (s, whole)) (sym r) c)))
            by r l us (inr (inl c)) e = inr (inl (same_kind (sym (sym e ∙ ap out-Node (root r) ∙ outs-Tree k ts)) ∙ c))
            by r l us (inr (inr c)) e = inr (inr (ap (is_body_at f t) r ∙ c))
        at Node-F.Absent e c = none_there c
        at (Node-F.Flag x) e c = none_there c
        at (Node-F.Word x) e c = none_there c
        at (Node-F.Text x) e c = none_there c
        at (Node-F.Span x) e c = none_there c
        at (Node-F.List x) e c = none_there c
        at (Node-F.Identifier l x) e c = none_there c

    below : (o : Option Node) → child t i ≡ o
        → ((c : Node) (s : Path) (a : ScopeKind) → Contains (scopes_below (is_for_body (out-Node t) i) (place_below w t i) c p) (s, a) → place_at (place_below w t i) c s ≡ Some (v, Tree k ts)
        → Told (is_for_body (out-Node t) i) (place_below w t i) c s p k)
        → Contains (map (lower i) (given (child t i) [] (λ c. scopes_below (is_for_body (out-Node t) i) (place_below w t i) c p))) (s, a) → Told f w t s (i ∷ p) k
    below None e more c = none_there (subst (λ o. Contains (map (lower i) (given o [] (λ c. scopes_below (is_for_body (out-Node t) i) (place_below w t i) c p))) (s, a)) e c)
    below (Some d) e more c =
        let (r, g, same) = from_map (lower i) (scopes_below (is_for_body (out-Node t) i) (place_below w t i) d p) (s, a) (subst (λ o. Contains (map (lower i) (given o [] (λ c. scopes_below (is_for_body (out-Node t) i) (place_below w t i) c p))) (s, a)) e c) in
        let path : (i ∷ r.0) ≡ s = ap (λ z. z.0) same in
        let there_below : place_at (place_below w t i) d r.0 ≡ Some (v, Tree k ts) = sym (ap (λ o. given o None (λ c. place_at (place_below w t i) c r.0)) e) ∙ ap (place_at w t) path ∙ there in
        by r path (more d r.0 r.1 g there_below)
      where
        by : (r : Around) → (i ∷ r.0) ≡ s → Told (is_for_body (out-Node t) i) (place_below w t i) d r.0 p k → Told f w t s (i ∷ p) k
        by r path (inl (whole, c)) = inl (
          whole,
          subst (λ s. Contains (rounds w t (i ∷ p)) (s, whole)) path (Contains-append_left _ _ (i ∷ r.0, whole)
              (subst (λ o. Contains (map (under i) (given o [] (λ c. rounds (place_below w t i) c p))) (i ∷ r.0, whole)) (sym e) (to_map (under i) _ (r.0, whole) c))),
        )
        by r path (inr (inl c)) = inr (inl c)
        by r path (inr (inr c)) = inr (inr (ap (is_body_at f t) (sym path) ∙ ap (λ o. given o false (λ c. is_body_at (is_for_body (out-Node t) i) c r.0)) e ∙ c))

pub adds_few : AddsFew
adds_few t s p w k ts (a, h) there = told p false program_place t s a w k ts h there
