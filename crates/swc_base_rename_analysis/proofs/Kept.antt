-- A scope of the language that stands round a path is one of the analysis there, unless it is the cases of a `switch` or
-- the block of a function that is a branch of an `if`.
use Rattle.std.proofs.Common.{◌≡◌, ℕ, zero, suc, ◌==◌, Bool, true, false, ◌&&◌, ⊎_elim, Option, Some, None, List, [], ◌∷◌, map, Contains, refl, sym, ap, ◌∙◌, subst, arith, cond}
use Rattle.std.specs.Prelude.{if◌then◌else◌}
use Rattle.std.specs.Option.{option_and_then}
use Rattle.std.proofs.lemmas.List.Elements.{Contains-append_left, Contains-append_right, Contains-append_cases}
use Rattle.swc_tree_node.specs.declared.kind.Kind.{Kind}
use Rattle.swc_tree_node.specs.declared.kind.Kind.TheVariants as kind
use Rattle.swc_tree_node.specs.declared.node.Node.{Node, Tree, out-Node}
use Rattle.swc_tree_node.specs.declared.node.Node.TheOpen.{Node-F}
use Rattle.swc_tree_node.specs.declared.node.Node.TheVariants.{outs-Tree}
use Rattle.swc_tree_scoping.specs.declared.places.Standing.{Standing}
use Rattle.swc_tree_scoping.specs.declared.places.Standing.TheVariants as standing
use Rattle.swc_tree_scoping.specs.declared.places.Place.{Place}
use Rattle.swc_tree_scoping.specs.declared.places.Scope.{Scope}
use Rattle.swc_tree_scoping.specs.declared.places.Scope.TheVariants as scope
use Rattle.swc_tree_scoping.specs.declared.places.View.{View}
use Rattle.swc_tree_scoping.specs.declared.places.View.TheVariants as view
use Rattle.swc_tree_scoping.specs.Places.{Path, block_scope, child, given, has_own_name, is_at, is_inside, name_scope, named, opened, opened_as, opened_in, place_at, place_below, program_place, view_from}
use Rattle.swc_tree_scoping.specs.Scopes.{Round, rounds, seen_as, view_in}
use Rattle.swc_base_rename_analysis.specs.declared.scopes.ScopeKind.{ScopeKind}
use Rattle.swc_base_rename_analysis.specs.declared.scopes.ScopeKind.TheVariants.{Block, Fn}
use Rattle.swc_base_rename_analysis.specs.Analysis.{Around, body_kind, has_identifier, is_default_export, is_for_body, is_outside, key_field, kind_of, opened_here, opened_round, own_kind, scopes_below}
use Rattle.swc_base_rename_analysis.specs.Laws.{KeepsScopes, is_left_out}

pub some_same : {A : Type 0} {a b : A} → Some a ≡ Some b → a ≡ b
some_same h = cc

pub impossible : {A : Type 0} → false ≡ true → A
impossible h = absurd (cc)

-- which scope a node opens
named_same : (b : Bool) (s o : Scope) → named b s ≡ Some o → s ≡ o
named_same true s o e = some_same e
named_same false s o e = absurd (cc)

name_scope_same : (r : Standing) (b : Bool) (s o : Scope) → name_scope r b s ≡ Some o → (s ≡ o) × (is_default_export r ≡ false)
name_scope_same standing.DefaultExport b s o e = absurd (cc)
name_scope_same standing.Plain b s o e = (named_same b s o e, refl)
name_scope_same _ b s o e = (named_same b s o e, refl)

block_same : (r : Standing) (o : Scope) → block_scope r ≡ Some o → scope.Block ≡ o
block_same standing.Body o e = absurd (cc)
block_same standing.Plain o e = some_same e
block_same _ o e = some_same e

abbrev is_switch : Scope → Bool
is_switch scope.Switch = true
is_switch scope.Types = true
is_switch _ = false

-- only a `switch` opens the scope of its cases, and only a type or an enum that of types
no_cases : (w : Place) (k : Kind) (b : Bool) (s : Scope) → opened_as w k b ≡ Some s → is_left_out k ≡ false → is_switch s ≡ false
no_cases w kind.Module b s e n = ap is_switch (sym (some_same e))
no_cases w kind.Script b s e n = ap is_switch (sym (some_same e))
no_cases w kind.Function b s e n = ap is_switch (sym (some_same e))
no_cases w kind.ArrowExpr b s e n = ap is_switch (sym (some_same e))
no_cases w kind.Constructor b s e n = ap is_switch (sym (some_same e))
no_cases w kind.GetterProp b s e n = ap is_switch (sym (some_same e))
no_cases w kind.SetterProp b s e n = ap is_switch (sym (some_same e))
no_cases w kind.FnExpr b s e n = ap is_switch (sym (name_scope_same w.standing b scope.FunctionName s e).0)
no_cases w kind.ClassExpr b s e n = ap is_switch (sym (name_scope_same w.standing b scope.ClassName s e).0)
no_cases w kind.BlockStmt b s e n = ap is_switch (sym (block_same w.standing s e))
no_cases w kind.ForStmt b s e n = ap is_switch (sym (some_same e))
no_cases w kind.ForInStmt b s e n = ap is_switch (sym (some_same e))
no_cases w kind.ForOfStmt b s e n = ap is_switch (sym (some_same e))
no_cases w kind.CatchClause b s e n = ap is_switch (sym (some_same e))
no_cases w kind.StaticBlock b s e n = ap is_switch (sym (some_same e))
no_cases w kind.TsModuleDecl b s e n = ap is_switch (sym (some_same e))
no_cases w kind.FnDecl b s e n = impossible (sym n)
no_cases w kind.SwitchStmt b s e n = impossible (sym n)
no_cases w kind.TsInterfaceDecl b s e n = impossible (sym n)
no_cases w kind.TsTypeAliasDecl b s e n = impossible (sym n)
no_cases w kind.TsEnumDecl b s e n = impossible (sym n)
no_cases w _ b s e n = absurd (cc)

-- any other is one of the analysis
kind_there : (s : Scope) → is_switch s ≡ false → (a : ScopeKind) × (kind_of s ≡ Some a)
kind_there scope.Program n = (Fn, refl)
kind_there scope.Function n = (Fn, refl)
kind_there scope.FunctionName n = (Fn, refl)
kind_there scope.ClassName n = (Fn, refl)
kind_there scope.StaticBlock n = (Fn, refl)
kind_there scope.Block n = (Block, refl)
kind_there scope.For n = (Block, refl)
kind_there scope.Catch n = (Block, refl)
kind_there scope.Switch n = impossible (sym n)
kind_there scope.Types n = impossible (sym n)
kind_there scope.Namespace n = (Fn, refl)

own_there : (w : Place) (k : Kind) (b : Bool) (s : Scope) → opened_as w k b ≡ Some s → is_left_out k ≡ false → (a : ScopeKind) × (own_kind w k b ≡ Some a)
own_there w kind.ClassExpr b s e n = (Fn, refl)
own_there w kind.FnDecl b s e n = impossible (sym n)
own_there w k b s e n = let (a, h) = kind_there s (no_cases w k b s e n) in (a, ap (option_and_then kind_of) e ∙ h)

-- what stands outside is seen by neither
key_seen : (k : Kind) (i : ℕ) → is_at (key_field k) i ≡ true → is_inside (view_from k i) ≡ false
key_seen kind.Constructor i h = ap (λ b. is_inside (cond b view.Outside (cond (is_at (Some 2) i) view.Parameters view.Whole))) h
key_seen kind.GetterProp i h = ap (λ b. is_inside (cond b view.Outside view.Whole)) h
key_seen kind.TsModuleDecl i h = ap (λ b. is_inside (cond b view.Outside view.Whole)) h
key_seen kind.SetterProp i h = ap (λ b. is_inside (cond b view.Outside (cond (is_at (Some 2) i) view.Parameters view.Whole))) h
key_seen _ i h = impossible h

not_true : (b : Bool) → (b ≡ true → ⊥) → b ≡ false
not_true true n = absurd (n refl)
not_true false n = refl

not_outside : (w : Place) (k : Kind) (b named : Bool) (s : Scope) (i : ℕ) → opened_as w k b ≡ Some s → is_inside (view_from k i) ≡ true → is_outside w k named i ≡ false
not_outside w kind.ClassExpr b named s i e v = ap (λ d. d && (named && i == 0)) (name_scope_same w.standing b scope.ClassName s e).1
not_outside w k b named s i e v = not_true (is_at (key_field k) i) (λ h. impossible (sym (key_seen k i h) ∙ v))

body_some : (f : Bool) (a : ScopeKind) → body_kind f (Some a) ≡ Some a
body_some true a = refl
body_some false a = refl

opens_here : (f : Bool) (w : Place) (k : Kind) (ts : List Node) (s : Scope) (i : ℕ) → opened_as w k (has_own_name ts) ≡ Some s → is_inside (view_from k i) ≡ true → is_left_out k ≡ false
    → (a : ScopeKind) × (opened_round f w (Node-F.Tree k ts) i ≡ ([], a) ∷ [])
opens_here f w k ts s i e v n =
    let (a, own) = own_there w k (has_own_name ts) s e n in
    (a, (λ j. if not_outside w k (has_own_name ts) (has_identifier ts) s i e v j then [] else opened_here (body_kind f (own j))) ∙ ap opened_here (body_some f a))

-- what is seen of a scope
seen_here : (o : Option Scope) (v : View) (s : Path) (whole : Bool) → Contains (seen_as o v) (s, whole) → (z : Scope) × (o ≡ Some z) × (is_inside v ≡ true) × (s ≡ [])
seen_here None v s whole (n, l, e) = absurd (omega arith)
seen_here (Some z) view.Outside s whole (n, l, e) = absurd (omega arith)
seen_here (Some z) view.Parameters s whole (zero, l, e) = (z, refl, refl, ap (λ r. r.0) (sym e))
seen_here (Some z) view.Parameters s whole (suc n, l, e) = absurd (omega arith)
seen_here (Some z) view.Whole s whole (zero, l, e) = (z, refl, refl, ap (λ r. r.0) (sym e))
seen_here (Some z) view.Whole s whole (suc n, l, e) = absurd (omega arith)

pub none_there : {A X : Type 0} {x : X} → Contains [] x → A
none_there (n, l, e) = absurd (omega arith)

-- lists under a map
pub from_map : {X Y : Type 0} (f : X → Y) (xs : List X) (y : Y) → Contains (map f xs) y → (x : X) × Contains xs x × (f x ≡ y)
from_map f [] y (n, l, e) = absurd (omega arith)
from_map f (x ∷ xs) y (zero, l, e) = (x, (0, (omega arith), refl), e)
from_map f (x ∷ xs) y (suc n, l, e) = let (z, (m, k, s), g) = from_map f xs y (n, (omega arith), e) in (z, (suc m, (omega arith), s), g)

pub to_map : {X Y : Type 0} (f : X → Y) (xs : List X) (x : X) → Contains xs x → Contains (map f xs) (f x)
to_map f [] x (n, l, e) = absurd (omega arith)
to_map f (y ∷ ys) x (zero, l, e) = (0, (omega arith), ap f e)
to_map f (y ∷ ys) x (suc n, l, e) = let (m, k, s) = to_map f ys x (n, (omega arith), e) in (suc m, (omega arith), s)

-- the scopes round a path
abbrev Stays : Place → Node → Path → Type 0
Stays w t s = (v : Place) × (k : Kind) × (ts : List Node) × (place_at w t s ≡ Some (v, Tree k ts)) × (is_left_out k ≡ false)

abbrev Kept : Bool → Place → Node → Path → Path → Type 0
Kept f w t s p = (a : ScopeKind) × Contains (scopes_below f w t p) (s, a)

abbrev pub under : ℕ → Round → Round
under i s = (i ∷ s.0, s.1)

abbrev pub lower : ℕ → Around → Around
lower i s = (i ∷ s.0, s.1)

opened_there : (f : Bool) (w : Place) (t : Node) (i : ℕ) (v : Place) (k : Kind) (ts : List Node) (s : Scope) → t ≡ Tree k ts → opened w t ≡ Some s → is_inside (view_in (out-Node t) i) ≡ true → is_left_out k ≡ false
    → (a : ScopeKind) × (opened_round f w (out-Node t) i ≡ ([], a) ∷ [])
opened_there f w t i v k ts s same e inside n =
    let layer : out-Node t ≡ Node-F.Tree k ts = ap out-Node same ∙ outs-Tree k ts in
    let (a, h) = opens_here f w k ts s i (ap (opened_in w) (sym layer) ∙ e) (ap (λ y. is_inside (view_in y i)) (sym layer) ∙ inside) n in
    (a, ap (λ y. opened_round f w y i) layer ∙ h)

kept : (p : Path) (f : Bool) (w : Place) (t : Node) (s : Path) (whole : Bool) → Contains (rounds w t p) (s, whole) → Stays w t s → Kept f w t s p
kept [] f w t s whole (n, l, e) stays = absurd (omega arith)
kept (i ∷ p) f w t s whole h stays = ⊎_elim (below (child t i) refl (λ c. kept p (is_for_body (out-Node t) i) (place_below w t i) c)) here (Contains-append_cases _ _ (s, whole) h)
  where
    here : Contains (seen_as (opened w t) (view_in (out-Node t) i)) (s, whole) → Kept f w t s (i ∷ p)
    here c =
        let (z, o, inside, root) = seen_here (opened w t) (view_in (out-Node t) i) s whole c in
        let (v, k, ts, there, n) = stays in
        let (a, e) = opened_there f w t i v k ts z (ap (λ z. z.1) (some_same (ap (place_at w t) (sym root) ∙ there))) o inside n in
        (a, Contains-append_right _ _ (s, a) (subst (λ l. Contains l (s, a)) (sym e) (0, (omega arith), ap (λ s. (s, a)) (sym root))))

    below : (o : Option Node) → child t i ≡ o
        → ((c : Node) (s : Path) (whole : Bool) → Contains (rounds (place_below w t i) c p) (s, whole) → Stays (place_below w t i) c s → Kept (is_for_body (out-Node t) i) (place_below w t i) c s p)
        → Contains (map (under i) (given (child t i) [] (λ c. rounds (place_below w t i) c p))) (s, whole) → Kept f w t s (i ∷ p)
    below None e more c = none_there (subst (λ o. Contains (map (under i) (given o [] (λ c. rounds (place_below w t i) c p))) (s, whole)) e c)
    below (Some d) e more c =
        let (r, g, same) = from_map (under i) (rounds (place_below w t i) d p) (s, whole) (subst (λ o. Contains (map (under i) (given o [] (λ c. rounds (place_below w t i) c p))) (s, whole)) e c) in
        let path : (i ∷ r.0) ≡ s = ap (λ z. z.0) same in
        let (v, k, ts, there, n) = stays in
        let there_below : place_at (place_below w t i) d r.0 ≡ Some (v, Tree k ts) = sym (ap (λ o. given o None (λ c. place_at (place_below w t i) c r.0)) e) ∙ ap (place_at w t) path ∙ there in
        let (a, found) = more d r.0 r.1 g (v, k, ts, there_below, n) in
        let lowered : Contains (map (lower i) (given (child t i) [] (λ c. scopes_below (is_for_body (out-Node t) i) (place_below w t i) c p))) (i ∷ r.0, a)
        = subst (λ o. Contains (map (lower i) (given o [] (λ c. scopes_below (is_for_body (out-Node t) i) (place_below w t i) c p))) (i ∷ r.0, a)) (sym e) (to_map (lower i) _ (r.0, a) found) in
        (a, subst (λ s. Contains (scopes_below f w t (i ∷ p)) (s, a)) path (Contains-append_left _ _ (i ∷ r.0, a) lowered))

pub keeps_scopes : KeepsScopes
keeps_scopes t s p whole w k ts h there n = kept p false program_place t s whole h (w, k, ts, there, n)
