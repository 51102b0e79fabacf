-- The scopes of two sites: they are one just where their paths are, and the sites of one scope stand together.
use Rattle.std.proofs.Common.{◌≡◌, ℕ, zero, suc, ◌+◌, ◌==◌, ◌⊎◌, inl, inr, Bool, true, false, Option, Some, None, is_some, List, [], ◌∷◌, Contains, map, cond, refl, sym, ap, ◌∙◌, subst, arith, nat_cmp, Ordering, Less, Equal, Greater}
use Rattle.std.specs.Cmp.Lexicographic.{nat_list_cmp_total, slice_cmp}
use Rattle.std.specs.Ordering.{ordering_reverse, ordering_then}
use Rattle.std.proofs.lemmas.List.Elements.{Contains-append_cases}
use Rattle.swc_tree_node.specs.declared.kind.Kind.{Kind}
use Rattle.swc_tree_node.specs.declared.kind.Kind.TheVariants as kind
use Rattle.swc_tree_node.specs.declared.node.Node.{Node, out-Node}
use Rattle.swc_tree_node.specs.declared.node.Node.TheOpen.{Node-F}
use Rattle.swc_tree_scoping.specs.declared.places.Place.{Place}
use Rattle.swc_tree_scoping.specs.declared.places.Standing.{Standing}
use Rattle.swc_tree_scoping.specs.Places.{Path, child, given, has_own_name, is_at, place_below, program_place}
use Rattle.swc_tree_scoping.specs.BoundNames.{Id}
use Rattle.swc_base_rename_analysis.specs.declared.scopes.ScopeKind.{ScopeKind}
use Rattle.swc_base_rename_analysis.specs.Analysis.{Around, Declares, body_kind, first_taking, has_identifier, is_for_body, is_outside, key_field, opened_here, opened_round, own_kind, scopes_below, scopes_round, takes}
use Rattle.swc_base_rename_analysis.specs.Order.{IsBefore, Site, entry, turn, turn_in, turns}
use Rattle.swc_base_rename_analysis.proofs.Level.{level_lists, turns_apart}
use Rattle.swc_base_rename_naming_laws.proofs.Lists.{cons_head, cons_tail, contains_here, contains_later, mapped_from, none_in, none_is_some, same_some}

-- a path goes through children that are there
abbrev pub reaches : Node → Path → Bool
reaches t [] = true
reaches t (i ∷ p) = given (child t i) false (λ c. reaches c p)

no_turn_at : (o : Option ℕ) (j : ℕ) (ks : List ℕ) → cond (is_some o) (1 ∷ []) [] ≡ cond (is_some o) (cond (is_at o j) 0 (j + 2)) j ∷ ks → ⊥
no_turn_at None j ks e = absurd (cc)
no_turn_at (Some n) j ks e = by (n == j) (cons_head e)
  where
    by : (b : Bool) → 1 ≡ cond b 0 (j + 2) → ⊥
    by true e = omega (arith, e)
    by false e = omega (arith, e)

no_turn_in : (k : Kind) (j : ℕ) (ks : List ℕ) → cond (is_some (key_field k)) (1 ∷ []) [] ≡ turn_in k j ∷ ks → ⊥
no_turn_in kind.CatchClause j ks e = absurd (cc)
no_turn_in k j ks e = no_turn_at (key_field k) j ks e

nothing_first : (x : ℕ) (xs : List ℕ) → [] ≡ x ∷ xs → ⊥
nothing_first x xs e = absurd (cc)

-- no child is visited when a scope is entered
no_turn : (y : Node-F Node) (j : ℕ) (ks : List ℕ) → entry y ≡ turn y j ∷ ks → ⊥
no_turn (Node-F.Tree k ts) j ks e = no_turn_in k j ks e
no_turn Node-F.Absent j ks e = nothing_first _ _ e
no_turn (Node-F.Flag x) j ks e = nothing_first _ _ e
no_turn (Node-F.Word x) j ks e = nothing_first _ _ e
no_turn (Node-F.Text x) j ks e = nothing_first _ _ e
no_turn (Node-F.Span x) j ks e = nothing_first _ _ e
no_turn (Node-F.List ts) j ks e = nothing_first _ _ e
no_turn (Node-F.Identifier k x) j ks e = nothing_first _ _ e

-- so two paths with the same turns, up to where a scope is entered, are one
pub one_scope : (p q : Path) (t : Node) → reaches t p ≡ true → reaches t q ≡ true → turns entry t p ≡ turns entry t q → p ≡ q
one_scope [] [] t a b e = refl
one_scope [] (j ∷ q) t a b e = absurd (no_turn (out-Node t) j _ e)
one_scope (i ∷ p) [] t a b e = absurd (no_turn (out-Node t) i _ (sym e))
one_scope (i ∷ p) (j ∷ q) t a b e = at (one_scope p q) (turns_apart (out-Node t) i j (cons_head e)) (child t i) refl (child t j) refl a b (cons_tail e)
  where
    at : ((c : Node) → reaches c p ≡ true → reaches c q ≡ true → turns entry c p ≡ turns entry c q → p ≡ q) → i ≡ j
        → (o : Option Node) → child t i ≡ o → (u : Option Node) → child t j ≡ u → given o false (λ c. reaches c p) ≡ true → given u false (λ c. reaches c q) ≡ true
        → given (child t i) [] (λ c. turns entry c p) ≡ given (child t j) [] (λ c. turns entry c q) → (i ∷ p) ≡ (j ∷ q)
    at more same None f u g a b l = absurd (cc)
    at more same (Some c) f None g a b l = absurd (cc)
    at more same (Some c) f (Some d) g a b l =
        let one : c ≡ d = same_some (sym f ∙ ap (child t) same ∙ g) in
        let turned : turns entry c p ≡ turns entry d q = sym (ap (λ o. given o [] (λ c. turns entry c p)) f) ∙ l ∙ ap (λ o. given o [] (λ c. turns entry c q)) g in
        let below : p ≡ q = more c a (ap (λ c. reaches c q) one ∙ b) (turned ∙ ap (λ c. turns entry c q) (sym one)) in
        λ k. same k ∷ below k

-- a scope round a path is reached
opened_empty : (o : Option ScopeKind) (s : Around) → Contains (opened_here o) s → s.0 ≡ []
opened_empty None s c = none_in c
opened_empty (Some k) s (zero, l, e) = ap (λ z. z.0) (sym e)
opened_empty (Some k) s (suc n, l, e) = absurd (omega (arith, l))

opened_unless : (b : Bool) (o : Option ScopeKind) (s : Around) → Contains (cond b [] (opened_here o)) s → s.0 ≡ []
opened_unless true o s c = none_in c
opened_unless false o s c = opened_empty o s c

opened_at : (f : Bool) (w : Place) (y : Node-F Node) (i : ℕ) (s : Around) → Contains (opened_round f w y i) s → s.0 ≡ []
opened_at f w (Node-F.Tree k ts) i s c = opened_unless (is_outside w k (has_identifier ts) i) (body_kind f (own_kind w k (has_own_name ts))) s c
opened_at f w Node-F.Absent i s c = none_in c
opened_at f w (Node-F.Flag x) i s c = none_in c
opened_at f w (Node-F.Word x) i s c = none_in c
opened_at f w (Node-F.Text x) i s c = none_in c
opened_at f w (Node-F.Span x) i s c = none_in c
opened_at f w (Node-F.List ts) i s c = none_in c
opened_at f w (Node-F.Identifier k x) i s c = none_in c

abbrev lowered : ℕ → Around → Around
lowered i s = (i ∷ s.0, s.1)

pub round_reached : (p : Path) (f : Bool) (w : Place) (t : Node) (s : Around) → Contains (scopes_below f w t p) s → reaches t s.0 ≡ true
round_reached [] f w t s c = none_in c
round_reached (i ∷ p) f w t s c = elim (Contains-append_cases _ _ s c) [
  | inl there ↦ at (λ d. round_reached p (is_for_body (out-Node t) i) (place_below w t i) d) (child t i) refl there
  | inr here ↦ ap (reaches t) (opened_at f w (out-Node t) i s here)
]
  where
    at : ((d : Node) (s : Around) → Contains (scopes_below (is_for_body (out-Node t) i) (place_below w t i) d p) s → reaches d s.0 ≡ true)
        → (o : Option Node) → child t i ≡ o → Contains (map (lowered i) (given o [] (λ c. scopes_below (is_for_body (out-Node t) i) (place_below w t i) c p))) s → reaches t s.0 ≡ true
    at more None e c = none_in c
    at more (Some d) e c =
        let (r, there, same) = mapped_from (lowered i) _ s c in
        ap (λ z. reaches t z.0) (sym same) ∙ ap (λ o. given o false (λ c. reaches c r.0)) e ∙ more d r there

taken_there : (r : Standing) (ss : List Around) (s : Path) → first_taking r ss ≡ Some s → (z : Around) × Contains ss z × (z.0 ≡ s)
taken_there r [] s e = none_is_some e
taken_there r (z ∷ ss) s e = by (taken_there r ss s) (takes z.1 r) e
  where
    by : (first_taking r ss ≡ Some s → (y : Around) × Contains ss y × (y.0 ≡ s)) → (b : Bool) → cond b (Some z.0) (first_taking r ss) ≡ Some s → (y : Around) × Contains (z ∷ ss) y × (y.0 ≡ s)
    by more true e = (z, contains_here z ss, same_some e)
    by more false e = let (y, there, same) = more e in (y, contains_later z ss y there, same)

pub scope_reached : (t : Node) (s p : Path) (x : Id) → Declares t s p x → reaches t s ≡ true
scope_reached t s p x d =
    let (z, there, same) = taken_there d.standing (scopes_round t p) s d.taken in
    ap (reaches t) (sym same) ∙ round_reached p false program_place t z there

-- a site between two of one scope is of it
less_or_level : (a b : Ordering) → ordering_then a b ≡ Less → (a ≡ Less) ⊎ (a ≡ Equal)
less_or_level Less b e = inl refl
less_or_level Equal b e = inr refl
less_or_level Greater b e = absurd (cc)

never : (a b : Ordering) → a ≡ Less → b ≡ ordering_reverse a → (b ≡ Less) ⊎ (b ≡ Equal) → ⊥
never a b e f h =
    let greater : b ≡ Greater = f ∙ ap ordering_reverse e in
    elim h [ inl g ↦ (let no : Less ≡ Greater = sym g ∙ greater in absurd (cc)) | inr g ↦ (let no : Equal ≡ Greater = sym g ∙ greater in absurd (cc)) ]

pub one_between : (t : Node) (a b c : Site) (x y : Id) → Declares t a.0 a.1 x → Declares t b.0 b.1 y → IsBefore t a b → IsBefore t b c → c.0 ≡ a.0 → b.0 ≡ a.0
one_between t a b c x y d e before after same = elim (less_or_level _ _ before) [
  | inl less ↦ absurd (never _ _ less (nat_list_cmp_total.antisymm (turns entry t b.0) (turns entry t a.0)) (subst (λ s. (slice_cmp nat_cmp (turns entry t b.0) (turns entry t s) ≡ Less) ⊎ (slice_cmp nat_cmp (turns entry t b.0) (turns entry t s) ≡ Equal)) same (less_or_level _ _ after)))
  | inr level ↦ sym (one_scope a.0 b.0 t (scope_reached t a.0 a.1 x d) (scope_reached t b.0 b.1 y e) (level_lists _ _ level))
]
