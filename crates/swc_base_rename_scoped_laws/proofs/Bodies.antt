-- The body of a `for` statement is its last part, so all else in the statement is entered before.
use Rattle.std.proofs.Common.{◌≡◌, ℕ, suc, ◌<◌, Bool, true, false, not, ◌&&◌, IsTrue, ◌⊎◌, inl, inr, ⊎_elim, Option, Some, None, List, [], ◌∷◌, ◌++◌, map, Contains, refl, sym, ap, ◌∙◌, subst, arith, Less, Equal, Greater, Ordering, nat_cmp, true≢false}
use Rattle.std.specs.List.{slice_get}
use Rattle.std.specs.Prelude.{if◌then◌else◌}
use Rattle.std.specs.Ordering.{MatchOrdering, ordering_reverse, ordering_then}
use Rattle.std.specs.Cmp.{ranks}
use Rattle.std.specs.Cmp.Lexicographic.{slice_cmp}
use Rattle.std.proofs.lemmas.Option.{slice_get_within}
use Rattle.swc_tree_marks.specs.declared.ident.Ident.{Ident}
use Rattle.swc_tree_node.specs.declared.kind.Kind.{Kind}
use Rattle.swc_tree_node.specs.declared.kind.Kind.TheVariants as kind
use Rattle.swc_tree_node.specs.declared.kind.Class.TheVariants as class
use Rattle.swc_tree_node.specs.declared.slot.Content.TheVariants as content
use Rattle.swc_tree_node.specs.declared.slot.Slot.{Slot}
use Rattle.swc_tree_node.specs.declared.slot.Slot.TheVariants as slot
use Rattle.swc_tree_node.specs.declared.fields.statements.fn_decl.TheConstants as fn_decl
use Rattle.swc_tree_node.specs.declared.node.Node.{Node, Identifier, out-Node}
use Rattle.swc_tree_node.specs.declared.node.Node.TheOpen.{Node-F}
use Rattle.swc_tree_node.specs.Table.{fields_of, is_identifier, slots_of}
use Rattle.swc_tree_node.specs.Fits.{Fits, belongs, each_fits, fits}
use Rattle.swc_tree_node.proofs.Fit.{both}
use Rattle.swc_tree_scoping.specs.declared.places.Standing.{Standing}
use Rattle.swc_tree_scoping.specs.declared.places.Place.{Place}
use Rattle.swc_tree_scoping.specs.declared.places.Scope.TheVariants as scope
use Rattle.swc_tree_scoping.specs.Places.{Path, child, given, has_own_name, is_at, is_inside, opened_in, place_at, place_below, program_place}
use Rattle.swc_tree_scoping.specs.Scopes.{view_in}
use Rattle.swc_tree_scoping.proofs.Under.{no_place_under, place_under}
use Rattle.swc_tree_renaming.proofs.Core.{none_in}
use Rattle.swc_tree_sites.proofs.Leaves.{Field}
use Rattle.swc_base_rename_analysis.specs.declared.scopes.ScopeKind.{ScopeKind}
use Rattle.swc_base_rename_analysis.specs.Analysis.{IsAtOrAbove, IsOwnName, IsRound, body_field, body_kind, has_identifier, is_for_body, is_outside, opened_here, opened_round, own_kind, uses_own_name}
use Rattle.swc_base_rename_analysis.specs.Laws.{is_body_at}
use Rattle.swc_base_rename_analysis.specs.Order.{IsBefore, Site, entry, site_cmp, turn, turns}
use Rattle.swc_base_rename_analysis.proofs.Level.{each_in_order}
use Rattle.swc_base_rename_analysis_laws.proofs.Paths.{body_on, place_below_at, turns_part}
use Rattle.swc_base_rename_analysis_laws.proofs.Rounded.{round_goes_on}
use Rattle.swc_base_rename_analysis_laws.proofs.Rounds.{IsRoundIn, all_steps, round_before, step_by_step}
use Rattle.swc_base_rename_scoped_laws.proofs.Around.{IsSeen, IsSeenIn, surrounds}
use Rattle.swc_base_rename_scoped_laws.proofs.ByIds.{IsAt}
use Rattle.swc_base_rename_scoped_laws.proofs.Exports.{Part, part_fits}
use Rattle.swc_base_rename_scoped_laws.proofs.Fields.{field_at, layer, same_number}
use Rattle.swc_base_rename_scoped_laws.proofs.Reached.{ident_leaf}
use Rattle.swc_base_rename_scoped_laws.proofs.Takers.{IsBodyOf}

-- a site whose scope is entered later comes later
reversed : Less ≡ Greater → ⊥
reversed e = absurd (cc)

pub not_before : (t : Node) (a b : Site) → slice_cmp nat_cmp (turns entry t a.0) (turns entry t b.0) ≡ Less → IsBefore t b a → ⊥
not_before t a b e h =
    let first : site_cmp t a b ≡ Less = ap (λ o. ordering_then o (slice_cmp nat_cmp (turns (λ _. []) t a.1) (turns (λ _. []) t b.1))) e in
    reversed (sym h ∙ (each_in_order t).total.antisymm b a ∙ ap ordering_reverse first)

-- paths that go on from two paths
regrouped : (xs ys zs : Path) → (xs ++ ys) ++ zs ≡ xs ++ (ys ++ zs)
regrouped [] ys zs = refl
regrouped (x ∷ xs) ys zs = ap (λ l. x ∷ l) (regrouped xs ys zs)

abbrev Meets : Path → Path → Type 0
Meets a v = ((rest : Path) × (v ≡ a ++ rest)) ⊎ ((l : ℕ) × (rest : Path) × (a ≡ v ++ (l ∷ rest)))

parted : (a v x y : Path) → a ++ x ≡ v ++ y → Meets a v
parted [] v x y e = inl (v, refl)
parted (i ∷ a) [] x y e = inr (i, a, refl)
parted (i ∷ a) (k ∷ v) x y e = by (parted a v x y (cc))
  where
    head : i ≡ k
    head = cc

    by : Meets a v → Meets (i ∷ a) (k ∷ v)
    by (inl (rest, same)) = inl (rest, λ l. sym head l ∷ same l)
    by (inr (m, rest, same)) = inr (m, rest, λ l. head l ∷ same l)

-- a `for` statement is a scope of the language, seen from its body
for_opens : (w : Place) (k : Kind) (ts : List Node) (j : ℕ) → is_at (body_field k) j ≡ true → (opened_in w (Node-F.Tree k ts) ≡ Some scope.For) × (is_inside (view_in (Node-F.Tree k ts) j) ≡ true)
for_opens w kind.ForStmt ts j h = (refl, refl)
for_opens w kind.ForInStmt ts j h = (refl, refl)
for_opens w kind.ForOfStmt ts j h = (refl, refl)
for_opens w _ ts j h = absurd (true≢false (sym h))

no_for : false ≡ true → ⊥
no_for h = absurd (cc)

pub for_form : (y : Node-F Node) (j : ℕ) → is_for_body y j ≡ true → (k : Kind) × (ts : List Node) × (y ≡ Node-F.Tree k ts) × (is_at (body_field k) j ≡ true)
for_form (Node-F.Tree k ts) j h = (k, ts, refl, h)
for_form Node-F.Absent j h = absurd (cc)
for_form _ j h = absurd (cc)

some_same : (a b : Place × Node) → Some a ≡ Some b → a ≡ b
some_same a b e = cc

no_place : (z : Place × Node) → Some z ≡ None → ⊥
no_place z e = absurd (cc)

seen_inside : (v : Path) (w x : Place) (t n : Node) (j : ℕ) → place_at w t v ≡ Some (x, n) → is_for_body (out-Node n) j ≡ true → IsSeenIn w t v (v ++ (j ∷ []))
seen_inside [] w x t n j e h =
    let (k, ts, o, b) = for_form (out-Node n) j h in
    let same : out-Node t ≡ Node-F.Tree k ts = ap (λ (z : Place × Node). out-Node z.1) (some_same (w, t) (x, n) e) ∙ o in
    let (opens, sees) = for_opens w k ts j b in
    (scope.For, ap (opened_in w) same ∙ opens, ap (λ y. is_inside (view_in y j)) same ∙ sees)
seen_inside (i ∷ v) w x t n j e h = at (child t i) refl (λ c. seen_inside v (place_below w t i) x c n j)
  where
    at : (o : Option Node) → child t i ≡ o → ((c : Node) → place_at (place_below w t i) c v ≡ Some (x, n) → is_for_body (out-Node n) j ≡ true → IsSeenIn (place_below w t i) c v (v ++ (j ∷ [])))
        → IsSeenIn w t (i ∷ v) (i ∷ (v ++ (j ∷ [])))
    at None z more = absurd (no_place (x, n) (sym e ∙ no_place_under w t i v z))
    at (Some c) z more = (refl, (c, z, more c (sym (place_under w t c i v z) ∙ e) h))

seen_goes_on : (s p : Path) (w : Place) (t : Node) → IsSeenIn w t s p → (j : ℕ) × (q : Path) × (p ≡ s ++ (j ∷ q))
seen_goes_on s [] w t h = absurd h
seen_goes_on [] (i ∷ p) w t h = (i, p, refl)
seen_goes_on (j ∷ s) (i ∷ p) w t (e, (c, there, h)) = let (k, q, same) = seen_goes_on s p (place_below w t i) c h in (k, q, λ a. sym e a ∷ same a)

-- what stands in the body or before it
at_most : (l j : ℕ) → l < suc j → (l ≡ j) ⊎ (l < j)
at_most l j h = by (nat_cmp l j) (ranks l j)
  where
    by : (o : Ordering) → MatchOrdering o (l < j) (l ≡ j) (j < l) → (l ≡ j) ⊎ (l < j)
    by Less r = inr r
    by Equal r = inl r
    by Greater r = absurd (omega (arith, r, h))

last_field : (k : Kind) (j l : ℕ) (f : Field) → is_at (body_field k) j ≡ true → slice_get (fields_of k) l ≡ Some f → l < suc j
last_field kind.ForStmt j l f h e = let n : j ≡ 4 = sym (same_number 4 j h) in let m = slice_get_within (fields_of kind.ForStmt) l f e in omega (arith, m, n)
last_field kind.ForInStmt j l f h e = let n : j ≡ 3 = sym (same_number 3 j h) in let m = slice_get_within (fields_of kind.ForInStmt) l f e in omega (arith, m, n)
last_field kind.ForOfStmt j l f h e = let n : j ≡ 4 = sym (same_number 4 j h) in let m = slice_get_within (fields_of kind.ForOfStmt) l f e in omega (arith, m, n)
last_field _ j l f h e = absurd (true≢false (sym h))

in_turn : (k : Kind) (ts : List Node) (j i : ℕ) → is_at (body_field k) j ≡ true → turn (Node-F.Tree k ts) i ≡ i
in_turn kind.ForStmt ts j i h = refl
in_turn kind.ForInStmt ts j i h = refl
in_turn kind.ForOfStmt ts j i h = refl
in_turn _ ts j i h = absurd (true≢false (sym h))

some_field : {f g : Field} → Some f ≡ Some g → f ≡ g
some_field e = cc

nothing_after : (xs : Path) → xs ++ [] ≡ xs
nothing_after [] = refl
nothing_after (x ∷ xs) = ap (λ l. x ∷ l) (nothing_after xs)

first_step : {m l : ℕ} {n r : Path} → (m ∷ n) ≡ (l ∷ r) → m ≡ l
first_step e = cc

body_slot : (k : Kind) (j : ℕ) (f : Field) → is_at (body_field k) j ≡ true → slice_get (fields_of k) j ≡ Some f → f.1 ≡ slot.One (content.Node class.Stmt)
body_slot kind.ForStmt j f h e = let n : j ≡ 4 = sym (same_number 4 j h) in at (sym (ap (slice_get (fields_of kind.ForStmt)) n) ∙ e)
  where
    at : slice_get (fields_of kind.ForStmt) 4 ≡ Some f → f.1 ≡ slot.One (content.Node class.Stmt)
    at e = sym (ap (λ (f : Field). f.1) (some_field e))
body_slot kind.ForInStmt j f h e = let n : j ≡ 3 = sym (same_number 3 j h) in at (sym (ap (slice_get (fields_of kind.ForInStmt)) n) ∙ e)
  where
    at : slice_get (fields_of kind.ForInStmt) 3 ≡ Some f → f.1 ≡ slot.One (content.Node class.Stmt)
    at e = sym (ap (λ (f : Field). f.1) (some_field e))
body_slot kind.ForOfStmt j f h e = let n : j ≡ 4 = sym (same_number 4 j h) in at (sym (ap (slice_get (fields_of kind.ForOfStmt)) n) ∙ e)
  where
    at : slice_get (fields_of kind.ForOfStmt) 4 ≡ Some f → f.1 ≡ slot.One (content.Node class.Stmt)
    at e = sym (ap (λ (f : Field). f.1) (some_field e))
body_slot _ j f h e = absurd (true≢false (sym h))

-- the scope of a statement stands round all its parts, but for the name of a namespace
outside_only : (w : Place) (k : Kind) (named : Bool) (i : ℕ) → IsTrue (belongs k class.Stmt) → is_outside w k named i ≡ true → (k ≡ kind.TsModuleDecl) × (i ≡ 1)
outside_only w kind.ClassExpr named i h e = absurd (cc)
outside_only w kind.Constructor named i h e = absurd (cc)
outside_only w kind.GetterProp named i h e = absurd (cc)
outside_only w kind.SetterProp named i h e = absurd (cc)
outside_only w kind.TsModuleDecl named i h e = (refl, sym (same_number 1 i e))
outside_only w _ named i h e = absurd (true≢false (sym e))

named_slot : (k : Kind) (i : ℕ) (f : Field) → k ≡ kind.TsModuleDecl → i ≡ 1 → slice_get (fields_of k) i ≡ Some f → f.1 ≡ slot.One (content.Node class.Ident)
named_slot k i f is one e = at (sym (ap (λ k. slice_get (fields_of k) i) is ∙ ap (slice_get (fields_of kind.TsModuleDecl)) one) ∙ e)
  where
    at : slice_get (fields_of kind.TsModuleDecl) 1 ≡ Some f → f.1 ≡ slot.One (content.Node class.Ident)
    at e = sym (ap (λ (f : Field). f.1) (some_field e))

no_own_name : (k : Kind) (ts : List Node) → k ≡ kind.TsModuleDecl → IsTrue (uses_own_name (Node-F.Tree k ts)) → ⊥
no_own_name k ts is u = let z : false ≡ true = sym (ap (λ k. uses_own_name (Node-F.Tree k ts)) is) ∙ u in absurd (cc)

-- a part that the node's scope stands round
abbrev IsInScope : Place → Node → ℕ → Type 0
IsInScope w t i = (k : Kind) (ts : List Node) → out-Node t ≡ Node-F.Tree k ts → is_outside w k (has_identifier ts) i ≡ false

alike : (f : Bool) (w : Place) (t : Node) (y : Node-F Node) (m l : ℕ) (a : ScopeKind) → out-Node t ≡ y → IsInScope w t l → Contains (opened_round f w y m) ([], a) → Contains (opened_round f w y l) ([], a)
alike f w t (Node-F.Tree k ts) m l a o clear h = by (is_outside w k (has_identifier ts) m) refl
  where
    by : (b : Bool) → is_outside w k (has_identifier ts) m ≡ b → Contains (opened_round f w (Node-F.Tree k ts) l) ([], a)
    by true e = absurd (none_in ([], a) (subst (λ b. Contains (if b then [] else opened_here (body_kind f (own_kind w k (has_own_name ts)))) ([], a)) e h))
    by false e = subst (λ b. Contains (if b then [] else opened_here (body_kind f (own_kind w k (has_own_name ts)))) ([], a)) (sym (clear k ts o)) (subst (λ b. Contains (if b then [] else opened_here (body_kind f (own_kind w k (has_own_name ts)))) ([], a)) e h)
alike f w t Node-F.Absent m l a o clear h = h
alike f w t _ m l a o clear h = h

inside_alike : (u : Path) (m l : ℕ) (n r : Path) (f : Bool) (w x : Place) (t c : Node) → place_at w t u ≡ Some (x, c) → IsInScope x c l → IsRoundIn f w t u (u ++ (m ∷ n)) → IsRoundIn f w t u (u ++ (l ∷ r))
inside_alike [] m l n r f w x t c e clear (k, h) = (k, alike f w t (out-Node t) m l k refl (subst (λ (z : Place × Node). IsInScope z.0 z.1 l) (sym (some_same (w, t) (x, c) e)) clear) h)
inside_alike (i ∷ u) m l n r f w x t c e clear (d, (b, there, h)) = (d, (b, there, inside_alike u m l n r (is_for_body (out-Node t) i) (place_below w t i) x b c (sym (place_under w t b i u there) ∙ e) clear h))

no_function_is_for : (y : Node-F Node) (j : ℕ) → is_for_body y j ≡ true → IsTrue (uses_own_name y) → ⊥
no_function_is_for (Node-F.Tree k ts) j h u = kinds k h u
  where
    kinds : (k : Kind) → is_at (body_field k) j ≡ true → IsTrue (uses_own_name (Node-F.Tree k ts)) → ⊥
    kinds kind.ForStmt h u = absurd (cc)
    kinds kind.ForInStmt h u = absurd (cc)
    kinds kind.ForOfStmt h u = absurd (cc)
    kinds _ h u = absurd (cc)
no_function_is_for Node-F.Absent j h u = absurd (cc)
no_function_is_for _ j h u = absurd (cc)

-- two paths that end in one step
last_step : (v q : Path) (m l : ℕ) (n : Path) → v ++ (m ∷ n) ≡ q ++ (l ∷ []) → (rest : Path) × (q ≡ v ++ rest)
last_step [] q m l n e = (q, refl)
last_step (i ∷ v) [] m l n e = absurd (too_long v m n (cc))
  where
    too_long : (v : Path) (m : ℕ) (n : Path) → v ++ (m ∷ n) ≡ [] → ⊥
    too_long [] m n e = absurd (cc)
    too_long (i ∷ v) m n e = absurd (cc)
last_step (i ∷ v) (k ∷ q) m l n e = let (rest, same) = last_step v q m l n (cc) in let head : i ≡ k = cc in (rest, λ a. sym head a ∷ same a)

same_after : (v x y : Path) → v ++ x ≡ v ++ y → x ≡ y
same_after [] x y e = e
same_after (i ∷ v) x y e = same_after v x y (cc)

pub child_of : (o : Option Node) (b : Bool) → given o false (λ c. b) ≡ true → (c : Node) × (o ≡ Some c) × (b ≡ true)
child_of None b h = absurd (cc)
child_of (Some c) b h = (c, refl, h)

-- a path goes on below a part of a part, or the part is a function that uses its own name
abbrev GoesOn : Node → Path → ℕ → ℕ → Path → Type 0
GoesOn t v l i p = ((w : Place) × (g : Node) × (place_at program_place t (v ++ (l ∷ [])) ≡ Some (w, g)) × IsTrue (uses_own_name (out-Node g))) ⊎ ((z : ℕ) × (q : Path) × (p ≡ v ++ (l ∷ i ∷ z ∷ q)))

goes_further : (r : Path) (m : ℕ) (n : Path) → (z : ℕ) × (q : Path) × (r ++ (m ∷ n) ≡ z ∷ q)
goes_further [] m n = (m, n, refl)
goes_further (i ∷ r) m n = (i, r ++ (m ∷ n), refl)

module _ (t : Node) (s : Slot) (fit : Fits t s) (v : Path) (j : ℕ) (a b : Site) (before : IsBefore t b a) (u : b.0 ≡ v ++ (j ∷ [])) (round : IsRound t b.0 b.1) (x : Place) (f : Node) (y : Slot) (here : place_at program_place t v ≡ Some (x, f)) (f_fits : Fits f y)
    (c : Node) (there : child f j ≡ Some c) (body : is_for_body (out-Node f) j ≡ true) where
  -- the scope is a part of the statement
  deep : (l : ℕ) (rest : Path) (d : Node) (p : Path) (pv : Place) (pn : Node) → place_at program_place t p ≡ Some (pv, pn) → ((i : ℕ) (r : Path) → rest ≡ i ∷ r → GoesOn t v l i p) → child f l ≡ Some d → a.0 ≡ v ++ (l ∷ rest)
      → IsAtOrAbove t b.0 a.0
  deep l rest d p pv pn on goes_on part e = by (for_form (out-Node f) j body)
    where
      by : (k : Kind) × (ts : List Node) × (out-Node f ≡ Node-F.Tree k ts) × (is_at (body_field k) j ≡ true) → IsAtOrAbove t b.0 a.0
      by (k, ts, o, is) =
          let (fd, number, d_fits) = field_at f d k ts y l o f_fits part in
          ⊎_elim same earlier (at_most l j (last_field k j l fd is number))
        where
          earlier : l < j → IsAtOrAbove t b.0 a.0
          earlier less =
              let turns_rise : turn (out-Node f) l < turn (out-Node f) j
              = subst (λ m. m < turn (out-Node f) j) (sym (ap (λ y. turn y l) o ∙ in_turn k ts j l is)) (subst (λ m. l < m) (sym (ap (λ y. turn y j) o ∙ in_turn k ts j j is)) less) in
              absurd (not_before t a b ((λ i. slice_cmp nat_cmp (turns entry t (e i)) (turns entry t (u i))) ∙ turns_part entry v l j rest [] program_place t x f here turns_rise) before)

          same : l ≡ j → IsAtOrAbove t b.0 a.0
          same n = below rest refl (e ∙ ap (λ l. v ++ (l ∷ rest)) n ∙ sym (regrouped v (j ∷ []) rest) ∙ ap (λ u. u ++ rest) (sym u))
            where
              c_fits : Fits c (slot.One (content.Node class.Stmt))
              c_fits = let (fd, number, g) = field_at f c k ts y j o f_fits there in subst (Fits c) (body_slot k j fd is number) g

              at_body : place_at program_place t b.0 ≡ Some (place_below x f j, c)
              at_body = ap (place_at program_place t) u ∙ place_below_at v j program_place t x f c here there

              below : (part : Path) → rest ≡ part → a.0 ≡ b.0 ++ part → IsAtOrAbove t b.0 a.0
              below [] is e = inl (sym (e ∙ nothing_after b.0))
              below (i ∷ r) is e =
                  let (m, n, goes) = round_goes_on t b.0 b.1 round in
                  let inner : IsRoundIn false program_place t b.0 (b.0 ++ (m ∷ n)) = subst (IsRoundIn false program_place t b.0) goes (step_by_step b.1 b.0 false program_place t round.0 round.1) in
                  let outer : IsRoundIn false program_place t b.0 a.0 = subst (IsRoundIn false program_place t b.0) (sym e) (inside_alike b.0 m i n r false program_place (place_below x f j) t c at_body (clear i (goes_on i r is)) inner) in
                  inr (all_steps a.0 b.0 false program_place t outer)
                where
                  at_part : place_at program_place t (v ++ (l ∷ [])) ≡ Some (place_below x f j, c)
                  at_part = ap (λ l. place_at program_place t (v ++ (l ∷ []))) n ∙ ap (place_at program_place t) (sym u) ∙ at_body

                  -- it is in no namespace's name, where an identifier stands and nothing below it
                  clear : (i : ℕ) → GoesOn t v l i p → IsInScope (place_below x f j) c i
                  clear i g k ts o = stays (is_outside (place_below x f j) k (has_identifier ts) i) refl
                    where
                      among : IsTrue (belongs k class.Stmt)
                      among =
                          let p = both (not (is_identifier k)) (belongs k class.Stmt && each_fits (slots_of k) (map fits ts)) (layer c (Node-F.Tree k ts) (slot.One (content.Node class.Stmt)) o c_fits) in
                          (both (belongs k class.Stmt) (each_fits (slots_of k) (map fits ts)) p.1).0

                      from : k ≡ kind.TsModuleDecl → i ≡ 1 → GoesOn t v l i p → ⊥
                      from is one (inl (w', g, at, uses)) =
                          let same : g ≡ c = ap (λ (z : Place × Node). z.1) (some_same (w', g) (place_below x f j, c) (sym at ∙ at_part)) in
                          no_own_name k ts is (subst (λ y. IsTrue (uses_own_name y)) (ap out-Node same ∙ o) uses)
                      from is one (inr (z, q, path)) = through (part_fits (v ++ (l ∷ [])) (i ∷ z ∷ q) program_place pv t pn s fit (ap (place_at program_place t) (regrouped v (l ∷ []) (i ∷ z ∷ q) ∙ sym path) ∙ on))
                        where
                          through : Part (v ++ (l ∷ [])) (i ∷ z ∷ q) program_place pv t pn → ⊥
                          through (x', c', y', here', fits', on') = in_name (child c i) refl
                            where
                              c_is : c' ≡ c
                              c_is = ap (λ (z : Place × Node). z.1) (some_same (x', c') (place_below x f j, c) (sym here' ∙ at_part))

                              stands : place_at x' c (i ∷ z ∷ q) ≡ Some (pv, pn)
                              stands = ap (λ c. place_at x' c (i ∷ z ∷ q)) (sym c_is) ∙ on'

                              in_name : (o' : Option Node) → child c i ≡ o' → ⊥
                              in_name None e' = no_place (pv, pn) (sym stands ∙ no_place_under x' c i (z ∷ q) e')
                              in_name (Some h) e' = leaf (child h z) refl
                                where
                                  name_fits : Fits h (slot.One (content.Node class.Ident))
                                  name_fits = let (fd, number, fit') = field_at c h k ts (slot.One (content.Node class.Stmt)) i o c_fits e' in subst (Fits h) (named_slot k i fd is one number) fit'

                                  leaf : (o'' : Option Node) → child h z ≡ o'' → ⊥
                                  leaf None e'' = no_place (pv, pn) (sym stands ∙ place_under x' c h i (z ∷ q) e' ∙ no_place_under (place_below x' c i) h z q e'')
                                  leaf (Some m) e'' = ident_leaf h m z name_fits e''

                      stays : (b : Bool) → is_outside (place_below x f j) k (has_identifier ts) i ≡ b → is_outside (place_below x f j) k (has_identifier ts) i ≡ false
                      stays false e = e
                      stays true e = let (is, one) = outside_only (place_below x f j) k (has_identifier ts) i among e in absurd (from is one g)

  -- the scope is round the statement
  wide : (rest p : Path) → v ≡ a.0 ++ rest → IsRound t a.0 p → IsSeen t v p → IsAtOrAbove t b.0 a.0
  wide rest p e h g =
      let inside : IsSeen t v b.0 = subst (IsSeen t v) (sym u) (seen_inside v program_place x t f j here body) in
      absurd (not_before t a b (round_before t a.0 b.0 (surrounds t a.0 rest p b.0 h (subst (λ v. IsSeen t v p) e g) (subst (λ v. IsSeen t v b.0) e inside))) before)

pub body_comes_last : (t : Node) (s : Slot) → Fits t s → (v : Path) (r : Standing) (a b : Site) (p : Path) (rp : Standing) (ip : Ident) → IsAt t p rp ip → IsBodyOf t false r v b.0 → IsRound t b.0 b.1 → IsSeen t v p
    → IsRound t a.0 p ⊎ IsOwnName t a.0 p → IsBefore t b a → IsAtOrAbove t b.0 a.0
body_comes_last t s fit v r a b p rp ip at_p (j, u, body, lexical) round there place before = from_for (seen_goes_on v p program_place t there)
  where
    from_for : (m : ℕ) × (n : Path) × (p ≡ v ++ (m ∷ n)) → IsAtOrAbove t b.0 a.0
    from_for (m, n, goes) = at (part_fits v (m ∷ n) program_place at_p.place t (Identifier at_p.kind ip) s fit (ap (place_at program_place t) (sym goes) ∙ at_p.stands))
      where
        at : Part v (m ∷ n) program_place at_p.place t (Identifier at_p.kind ip) → IsAtOrAbove t b.0 a.0
        at (x, f, y, here, f_fits, on) = with_child (child_of (child f j) (is_for_body (out-Node f) j) (sym (body_on v (j ∷ []) false program_place t x f here) ∙ ap (is_body_at false t) (sym u) ∙ body))
          where
            with_child : (c : Node) × (child f j ≡ Some c) × (is_for_body (out-Node f) j ≡ true) → IsAtOrAbove t b.0 a.0
            with_child (c, its, is) = part (child f m) refl
              where
                part : (o : Option Node) → child f m ≡ o → IsAtOrAbove t b.0 a.0
                part None z = absurd (no_place (at_p.place, Identifier at_p.kind ip) (sym on ∙ no_place_under x f m n z))
                part (Some d) z = ⊎_elim around own place
                  where
                    inner : (l : ℕ) (rest more : Path) → ((i : ℕ) (r : Path) → rest ≡ i ∷ r → GoesOn t v l i p) → a.0 ≡ v ++ (l ∷ rest) → p ≡ v ++ (l ∷ more) → IsAtOrAbove t b.0 a.0
                    inner l rest more goes_on e g =
                        let one : m ≡ l = first_step (same_after v (m ∷ n) (l ∷ more) (sym goes ∙ g)) in
                        deep t s fit v j a b before u round x f y here f_fits c its is l rest d p at_p.place (Identifier at_p.kind ip) at_p.stands goes_on (sym (ap (child f) one) ∙ z) e

                    around : IsRound t a.0 p → IsAtOrAbove t b.0 a.0
                    around h = let (m', n', goes') = round_goes_on t a.0 p h in by m' n' goes' (parted a.0 v (m' ∷ n') (m ∷ n) (sym goes' ∙ goes))
                      where
                        by : (m' : ℕ) (n' : Path) → p ≡ a.0 ++ (m' ∷ n') → Meets a.0 v → IsAtOrAbove t b.0 a.0
                        by m' n' goes' (inl (rest, e)) = wide t s fit v j a b before u round x f y here f_fits c its is rest p e h there
                        by m' n' goes' (inr (l, rest, e)) = inner l rest (rest ++ (m' ∷ n')) ahead e whole
                          where
                            whole : p ≡ v ++ (l ∷ (rest ++ (m' ∷ n')))
                            whole = goes' ∙ ap (λ a. a ++ (m' ∷ n')) e ∙ regrouped v (l ∷ rest) (m' ∷ n')

                            ahead : (i : ℕ) (late : Path) → rest ≡ i ∷ late → GoesOn t v l i p
                            ahead i late same = let (z, final, more) = goes_further late m' n' in inr (z, final, whole ∙ ap (λ rest. v ++ (l ∷ (rest ++ (m' ∷ n')))) same ∙ ap (λ r. v ++ (l ∷ i ∷ r)) more)

                    own : IsOwnName t a.0 p → IsAtOrAbove t b.0 a.0
                    own (q, w', g, at_name, at_function, there_too, uses) = let (rest, e) = last_step v q m fn_decl.IDENT n (sym goes ∙ at_name) in by rest e
                      where
                        by : (rest : Path) → q ≡ v ++ rest → IsAtOrAbove t b.0 a.0
                        by [] e =
                            let same : g ≡ f = ap (λ (z : Place × Node). z.1) (some_same (w', g) (x, f) (sym there_too ∙ ap (place_at program_place t) (e ∙ nothing_after v) ∙ here)) in
                            absurd (no_function_is_for (out-Node f) j is (subst (λ g. IsTrue (uses_own_name (out-Node g))) same uses))
                        by (l ∷ rest) e = inner l (rest ++ (fn_decl.FUNCTION ∷ [])) (rest ++ (fn_decl.IDENT ∷ [])) (ahead rest refl) (at_function ∙ ap (λ q. q ++ (fn_decl.FUNCTION ∷ [])) e ∙ regrouped v (l ∷ rest) (fn_decl.FUNCTION ∷ [])) whole
                          where
                            whole : p ≡ v ++ (l ∷ (rest ++ (fn_decl.IDENT ∷ [])))
                            whole = at_name ∙ ap (λ q. q ++ (fn_decl.IDENT ∷ [])) e ∙ regrouped v (l ∷ rest) (fn_decl.IDENT ∷ [])

                            ahead : (way : Path) → rest ≡ way → (i : ℕ) (late : Path) → rest ++ (fn_decl.FUNCTION ∷ []) ≡ i ∷ late → GoesOn t v l i p
                            ahead [] none i late same = inl (w', g, sym (ap (λ rest. place_at program_place t (v ++ (l ∷ rest))) none) ∙ ap (place_at program_place t) (sym e) ∙ there_too, uses)
                            ahead (h ∷ k) some i late same =
                                let one : h ≡ i = first_step (sym (ap (λ rest. rest ++ (fn_decl.FUNCTION ∷ [])) some) ∙ same) in
                                let (z, final, more) = goes_further k fn_decl.IDENT [] in
                                inr (z, final, whole ∙ ap (λ rest. v ++ (l ∷ (rest ++ (fn_decl.IDENT ∷ [])))) some ∙ ap (λ k. v ++ (l ∷ h ∷ k)) more ∙ ap (λ h. v ++ (l ∷ h ∷ z ∷ final)) one)
