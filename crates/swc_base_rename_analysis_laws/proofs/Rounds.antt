-- Scopes round a path: each stands on the way to it, so of two one is at the other or above it, and the scopes round a scope
-- are entered before it.
use Rattle.std.proofs.Common.{◌≡◌, ℕ, zero, suc, ◌+◌, ◌<◌, Bool, true, false, ◌⊎◌, inl, inr, ⊎_elim, Option, Some, None, is_some, List, [], ◌∷◌, map, Contains, refl, sym, ap, ◌∙◌, subst, arith, cond, Less, Equal, Greater, Ordering, nat_cmp}
use Rattle.std.specs.Prelude.{if◌then◌else◌}
use Rattle.std.specs.Ordering.{MatchOrdering, ordering_then}
use Rattle.std.specs.Cmp.{ranks}
use Rattle.std.specs.Cmp.Lexicographic.{slice_cmp}
use Rattle.std.proofs.lemmas.List.Elements.{Contains-append_left, Contains-append_right, Contains-append_cases}
use Rattle.swc_tree_node.specs.declared.kind.Kind.{Kind}
use Rattle.swc_tree_node.specs.declared.kind.Kind.TheVariants as kind
use Rattle.swc_tree_node.specs.declared.node.Node.{Node, out-Node}
use Rattle.swc_tree_node.specs.declared.node.Node.TheOpen.{Node-F}
use Rattle.swc_tree_scoping.specs.declared.places.Standing.{Standing}
use Rattle.swc_tree_scoping.specs.declared.places.Place.{Place}
use Rattle.swc_tree_scoping.specs.Places.{Path, child, given, has_own_name, is_at, place_below, program_place}
use Rattle.swc_base_rename_analysis.specs.declared.scopes.ScopeKind.{ScopeKind}
use Rattle.swc_base_rename_analysis.specs.Analysis.{Around, IsRound, body_kind, first_taking, has_identifier, is_for_body, is_outside, key_field, opened_here, opened_round, own_kind, scopes_below, scopes_round, takes}
use Rattle.swc_base_rename_analysis.specs.Order.{entry, key_first, turn, turn_in, turns}
use Rattle.swc_base_rename_analysis.proofs.Kept.{from_map, lower, none_there, to_map}
use Rattle.swc_base_rename_analysis_laws.proofs.Items.{some_same}

-- a scope round a path, step by step
abbrev pub IsOpened : Bool → Place → Node → ℕ → Type 0
IsOpened f w t i = (k : ScopeKind) × Contains (opened_round f w (out-Node t) i) ([], k)

abbrev pub IsRoundIn : Bool → Place → Node → Path → Path → Type 0
IsRoundIn f w t s [] = ⊥
IsRoundIn f w t [] (i ∷ p) = IsOpened f w t i
IsRoundIn f w t (j ∷ s) (i ∷ p) = (j ≡ i) × ((c : Node) × (child t i ≡ Some c) × IsRoundIn (is_for_body (out-Node t) i) (place_below w t i) c s p)

abbrev IsBelow : Bool → Place → Node → Path → Path → Type 0
IsBelow f w t s p = (k : ScopeKind) × Contains (scopes_below f w t p) (s, k)

-- what a node opens has no path below it
opens_itself : (o : Bool) (m : Option ScopeKind) (s : Path) (k : ScopeKind) → Contains (if o then [] else opened_here m) (s, k) → [] ≡ s
opens_itself true m s k h = none_there h
opens_itself false None s k h = none_there h
opens_itself false (Some b) s k (zero, l, e) = ap (λ z. z.0) e
opens_itself false (Some b) s k (suc n, l, e) = absurd (omega (arith, l))

opened_root : (f : Bool) (w : Place) (y : Node-F Node) (i : ℕ) (s : Path) (k : ScopeKind) → Contains (opened_round f w y i) (s, k) → [] ≡ s
opened_root f w (Node-F.Tree l ts) i s k h = opens_itself (is_outside w l (has_identifier ts) i) (body_kind f (own_kind w l (has_own_name ts))) s k h
opened_root f w Node-F.Absent i s k h = none_there h
opened_root f w (Node-F.Flag x) i s k h = none_there h
opened_root f w (Node-F.Word x) i s k h = none_there h
opened_root f w (Node-F.Text x) i s k h = none_there h
opened_root f w (Node-F.Span x) i s k h = none_there h
opened_root f w (Node-F.List x) i s k h = none_there h
opened_root f w (Node-F.Identifier l x) i s k h = none_there h

no_more : {A : Type 0} (j : ℕ) (s : Path) → [] ≡ (j ∷ s) → A
no_more j s e = absurd (cc)

first_of : (x y : ℕ) (xs ys : List ℕ) → (x ∷ xs) ≡ (y ∷ ys) → x ≡ y
first_of x y xs ys e = cc

rest_of : (x y : ℕ) (xs ys : List ℕ) → (x ∷ xs) ≡ (y ∷ ys) → xs ≡ ys
rest_of x y xs ys e = cc

pub step_by_step : (p s : Path) (f : Bool) (w : Place) (t : Node) (k : ScopeKind) → Contains (scopes_below f w t p) (s, k) → IsRoundIn f w t s p
step_by_step [] s f w t k h = none_there h
step_by_step (i ∷ p) s f w t k h = ⊎_elim (below (child t i) refl (λ c s k. step_by_step p s (is_for_body (out-Node t) i) (place_below w t i) c k)) (here s) (Contains-append_cases _ _ (s, k) h)
  where
    here : (s : Path) → Contains (opened_round f w (out-Node t) i) (s, k) → IsRoundIn f w t s (i ∷ p)
    here [] c = (k, c)
    here (j ∷ s) c = no_more j s (opened_root f w (out-Node t) i (j ∷ s) k c)

    lowered : (c : Node) → child t i ≡ Some c → (s r : Path) → (i ∷ r) ≡ s → IsRoundIn (is_for_body (out-Node t) i) (place_below w t i) c r p → IsRoundIn f w t s (i ∷ p)
    lowered c e [] r same h = no_more i r (sym same)
    lowered c e (j ∷ s) r same h = (sym (first_of _ _ _ _ same), (c, e, subst (λ s. IsRoundIn (is_for_body (out-Node t) i) (place_below w t i) c s p) (rest_of _ _ _ _ same) h))

    below : (o : Option Node) → child t i ≡ o
        → ((c : Node) (s : Path) (k : ScopeKind) → Contains (scopes_below (is_for_body (out-Node t) i) (place_below w t i) c p) (s, k) → IsRoundIn (is_for_body (out-Node t) i) (place_below w t i) c s p)
        → Contains (map (lower i) (given (child t i) [] (λ c. scopes_below (is_for_body (out-Node t) i) (place_below w t i) c p))) (s, k) → IsRoundIn f w t s (i ∷ p)
    below None e more c = none_there (subst (λ o. Contains (map (lower i) (given o [] (λ c. scopes_below (is_for_body (out-Node t) i) (place_below w t i) c p))) (s, k)) e c)
    below (Some d) e more c =
        let (r, g, same) = from_map (lower i) (scopes_below (is_for_body (out-Node t) i) (place_below w t i) d p) (s, k) (subst (λ o. Contains (map (lower i) (given o [] (λ c. scopes_below (is_for_body (out-Node t) i) (place_below w t i) c p))) (s, k)) e c) in
        lowered d e s r.0 (ap (λ z. z.0) same) (more d r.0 r.1 g)

pub all_steps : (p s : Path) (f : Bool) (w : Place) (t : Node) → IsRoundIn f w t s p → IsBelow f w t s p
all_steps [] s f w t h = absurd h
all_steps (i ∷ p) [] f w t (k, c) = (k, Contains-append_right _ _ ([], k) c)
all_steps (i ∷ p) (j ∷ s) f w t (e, (c, there, h)) = by (all_steps p s (is_for_body (out-Node t) i) (place_below w t i) c h)
  where
    by : IsBelow (is_for_body (out-Node t) i) (place_below w t i) c s p → IsBelow f w t (j ∷ s) (i ∷ p)
    by (k, g) = (
      k,
      Contains-append_left _ _ (j ∷ s, k) (subst (λ j. Contains (map (lower i) (given (child t i) [] (λ c. scopes_below (is_for_body (out-Node t) i) (place_below w t i) c p))) (j ∷ s, k)) (sym e)
          (subst (λ o. Contains (map (lower i) (given o [] (λ c. scopes_below (is_for_body (out-Node t) i) (place_below w t i) c p))) (i ∷ s, k)) (sym there) (to_map (lower i) _ (s, k) g))),
    )

-- a scope round a scope is round what that one is round
through : (s u p : Path) (f : Bool) (w : Place) (t : Node) → IsRoundIn f w t s u → IsRoundIn f w t u p → IsRoundIn f w t s p
through s [] p f w t h g = absurd h
through s (i ∷ u) [] f w t h g = absurd g
through [] (i ∷ u) (l ∷ p) f w t h (e, g) = subst (IsOpened f w t) e h
through (j ∷ s) (i ∷ u) (l ∷ p) f w t (d, (c, there, h)) (e, (b, here, g)) = (d ∙ e, (b, here, through s u p (is_for_body (out-Node t) l) (place_below w t l) b h_here g))
  where
    one : c ≡ b
    one = some_same (sym there ∙ ap (child t) e ∙ here)

    h_here : IsRoundIn (is_for_body (out-Node t) l) (place_below w t l) b s u
    h_here = subst (λ b. IsRoundIn (is_for_body (out-Node t) l) (place_below w t l) b s u) one (subst (λ i. IsRoundIn (is_for_body (out-Node t) i) (place_below w t i) c s u) e h)

-- of two scopes round one path, one is the other or stands round it
abbrev Nested : Bool → Place → Node → Path → Path → Type 0
Nested f w t s u = (s ≡ u) ⊎ (IsRoundIn f w t s u ⊎ IsRoundIn f w t u s)

nested : (p s u : Path) (f : Bool) (w : Place) (t : Node) → IsRoundIn f w t s p → IsRoundIn f w t u p → Nested f w t s u
nested [] s u f w t h g = absurd h
nested (i ∷ p) [] [] f w t h g = inl refl
nested (i ∷ p) [] (j ∷ u) f w t h (e, g) = inr (inl (subst (IsOpened f w t) (sym e) h))
nested (i ∷ p) (j ∷ s) [] f w t (e, h) g = inr (inr (subst (IsOpened f w t) (sym e) g))
nested (i ∷ p) (j ∷ s) (l ∷ u) f w t (d, (c, there, h)) (e, (b, here, g)) = by (nested p s u (is_for_body (out-Node t) i) (place_below w t i) c h (subst (λ c. IsRoundIn (is_for_body (out-Node t) i) (place_below w t i) c u p) one g))
  where
    one : b ≡ c
    one = some_same (sym here ∙ there)

    same : j ≡ l
    same = d ∙ sym e

    at_child : (k : ℕ) → i ≡ k → (a b : Path) → IsRoundIn (is_for_body (out-Node t) i) (place_below w t i) c a b → IsRoundIn f w t (k ∷ a) (k ∷ b)
    at_child k n a b r = (refl, (c, sym (ap (child t) n) ∙ there, subst (λ k. IsRoundIn (is_for_body (out-Node t) k) (place_below w t k) c a b) n r))

    by : Nested (is_for_body (out-Node t) i) (place_below w t i) c s u → Nested f w t (j ∷ s) (l ∷ u)
    by (inl q) = inl (λ k. same k ∷ q k)
    by (inr (inl q)) = inr (inl (subst (λ k. IsRoundIn f w t (j ∷ s) (k ∷ u)) same (at_child j (sym d) s u q)))
    by (inr (inr q)) = inr (inr (subst (λ k. IsRoundIn f w t (l ∷ u) (k ∷ s)) (sym same) (at_child l (sym e) u s q)))

-- what stands in the scope of a node comes after its entry
pub not_key : (w : Place) (k : Kind) (named : Bool) (i : ℕ) → is_outside w k named i ≡ false → is_at (key_field k) i ≡ false
not_key w kind.ClassExpr named i h = refl
not_key w k named i h = h

turn_is : (k : Kind) (i : ℕ) → is_some (key_field k) ≡ true → turn_in k i ≡ key_first k i
turn_is kind.CatchClause i h = absurd (cc)
turn_is k i h = ap (λ b. cond b (key_first k i) i) h

one_before : (i : ℕ) (xs ys : List ℕ) → slice_cmp nat_cmp (1 ∷ xs) ((i + 2) ∷ ys) ≡ Less
one_before i xs ys = by (nat_cmp 1 (i + 2)) (ranks 1 (i + 2))
  where
    by : (o : Ordering) → MatchOrdering o (1 < i + 2) (1 ≡ i + 2) (i + 2 < 1) → ordering_then o (slice_cmp nat_cmp xs ys) ≡ Less
    by Less l = refl
    by Equal e = absurd (omega (arith, e))
    by Greater l = absurd (omega (arith, l))

pub entered_first : (k : Kind) (ts : List Node) (i : ℕ) (rest : List ℕ) → is_at (key_field k) i ≡ false → slice_cmp nat_cmp (entry (Node-F.Tree k ts)) (turn (Node-F.Tree k ts) i ∷ rest) ≡ Less
entered_first k ts i rest n = by (is_some (key_field k)) refl
  where
    by : (b : Bool) → is_some (key_field k) ≡ b → slice_cmp nat_cmp (cond b (1 ∷ []) []) (turn_in k i ∷ rest) ≡ Less
    by true e = ap (λ j. slice_cmp nat_cmp (1 ∷ []) (j ∷ rest)) (turn_is k i e ∙ ap (λ b. cond b 0 (i + 2)) n) ∙ one_before i [] rest
    by false e = refl

stands_in : (f : Bool) (w : Place) (y : Node-F Node) (i : ℕ) (k : ScopeKind) → Contains (opened_round f w y i) ([], k) → (rest : List ℕ) → slice_cmp nat_cmp (entry y) (turn y i ∷ rest) ≡ Less
stands_in f w (Node-F.Tree l ts) i k h rest = by (is_outside w l (has_identifier ts) i) refl h
  where
    by : (b : Bool) → is_outside w l (has_identifier ts) i ≡ b → Contains (if b then [] else opened_here (body_kind f (own_kind w l (has_own_name ts)))) ([], k) → slice_cmp nat_cmp (entry (Node-F.Tree l ts)) (turn (Node-F.Tree l ts) i ∷ rest) ≡ Less
    by true e c = none_there c
    by false e c = entered_first l ts i rest (not_key w l (has_identifier ts) i e)
stands_in f w Node-F.Absent i k h rest = none_there h
stands_in f w (Node-F.Flag x) i k h rest = none_there h
stands_in f w (Node-F.Word x) i k h rest = none_there h
stands_in f w (Node-F.Text x) i k h rest = none_there h
stands_in f w (Node-F.Span x) i k h rest = none_there h
stands_in f w (Node-F.List x) i k h rest = none_there h
stands_in f w (Node-F.Identifier l x) i k h rest = none_there h

-- the same turn, and then one before the other
same_turn : (m n : ℕ) (xs ys : List ℕ) → m ≡ n → slice_cmp nat_cmp xs ys ≡ Less → slice_cmp nat_cmp (m ∷ xs) (n ∷ ys) ≡ Less
same_turn m n xs ys e h = by (nat_cmp m n) (ranks m n)
  where
    by : (o : Ordering) → MatchOrdering o (m < n) (m ≡ n) (n < m) → ordering_then o (slice_cmp nat_cmp xs ys) ≡ Less
    by Less l = refl
    by Equal s = h
    by Greater l = absurd (omega (arith, l, e))

entered_before : (s u : Path) (f : Bool) (w : Place) (t : Node) → IsRoundIn f w t s u → slice_cmp nat_cmp (turns entry t s) (turns entry t u) ≡ Less
entered_before s [] f w t h = absurd h
entered_before [] (i ∷ u) f w t (k, h) = stands_in f w (out-Node t) i k h (given (child t i) [] (λ c. turns entry c u))
entered_before (j ∷ s) (i ∷ u) f w t (e, (c, there, h)) =
    let rest : slice_cmp nat_cmp (given (child t j) [] (λ c. turns entry c s)) (given (child t i) [] (λ c. turns entry c u)) ≡ Less =
    (λ n. slice_cmp nat_cmp (given ((ap (child t) e ∙ there) n) [] (λ c. turns entry c s)) (given (there n) [] (λ c. turns entry c u)))
    ∙ entered_before s u (is_for_body (out-Node t) i) (place_below w t i) c h in
    same_turn (turn (out-Node t) j) (turn (out-Node t) i) (given (child t j) [] (λ c. turns entry c s)) (given (child t i) [] (λ c. turns entry c u)) (ap (turn (out-Node t)) e) rest

-- the nearest scope that takes a name is round its path
one_taking : (r : Standing) (ss : List Around) (s : Path) → first_taking r ss ≡ Some s → (k : ScopeKind) × Contains ss (s, k)
one_taking r [] s h = absurd (cc)
one_taking r (a ∷ ss) s h = by (one_taking r ss s) (takes a.1 r) h
  where
    rest : (k : ScopeKind) × Contains ss (s, k) → (k : ScopeKind) × Contains (a ∷ ss) (s, k)
    rest (k, (n, l, e)) = (k, (suc n, omega (arith, l), e))

    by : (first_taking r ss ≡ Some s → (k : ScopeKind) × Contains ss (s, k)) → (b : Bool) → (if b then Some a.0 else first_taking r ss) ≡ Some s → (k : ScopeKind) × Contains (a ∷ ss) (s, k)
    by more true e = (a.1, (0, omega arith, λ j. (some_same e j, a.1)))
    by more false e = rest (more e)

-- at a whole tree
pub round_through : (t : Node) (s u p : Path) → IsRound t s u → IsRound t u p → IsRound t s p
round_through t s u p (j, h) (k, g) = all_steps p s false program_place t (through s u p false program_place t (step_by_step u s false program_place t j h) (step_by_step p u false program_place t k g))

pub one_round_other : (t : Node) (s u p : Path) → IsRound t s p → IsRound t u p → (s ≡ u) ⊎ (IsRound t s u ⊎ IsRound t u s)
one_round_other t s u p (j, h) (k, g) = by (nested p s u false program_place t (step_by_step p s false program_place t j h) (step_by_step p u false program_place t k g))
  where
    by : Nested false program_place t s u → (s ≡ u) ⊎ (IsRound t s u ⊎ IsRound t u s)
    by (inl e) = inl e
    by (inr (inl r)) = inr (inl (all_steps u s false program_place t r))
    by (inr (inr r)) = inr (inr (all_steps s u false program_place t r))

pub round_before : (t : Node) (s u : Path) → IsRound t s u → slice_cmp nat_cmp (turns entry t s) (turns entry t u) ≡ Less
round_before t s u (k, h) = entered_before s u false program_place t (step_by_step u s false program_place t k h)

pub taken_is_round : (t : Node) (r : Standing) (s p : Path) → first_taking r (scopes_round t p) ≡ Some s → IsRound t s p
taken_is_round t r s p h = one_taking r (scopes_round t p) s h
