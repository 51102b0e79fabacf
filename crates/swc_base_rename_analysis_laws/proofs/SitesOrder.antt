-- The order of the sites that are read off, and how their scopes lie in one another, by numbers and by paths.
use Rattle.std.proofs.Common.{◌≡◌, ◌↔◌, ℕ, zero, suc, ◌<◌, ◌≤◌, ◌==◌, ◌⊎◌, inl, inr, ⊎_elim, Bool, true, false, ◌&&◌, ◌||◌, IsTrue, Option, Some, None, List, [], ◌∷◌, ◌++◌, length, map, get_or, refl, sym, ap, ◌∙◌, subst, arith, append-nil, eq-eqb, eqb-true, le-leb, leb-true, Less, Equal, Greater, Ordering, nat_cmp}
use Rattle.std.specs.Prelude.{nat_le}
use Rattle.std.specs.Ordering.{MatchOrdering, ordering_index, ordering_reverse, ordering_then}
use Rattle.std.specs.Option.{unwrap_or}
use Rattle.std.specs.List.{AllByRecursion, IsDistinct, slice_get}
use Rattle.std.specs.Cmp.{IsTotalOrder, ranks}
use Rattle.std.specs.Cmp.Lexicographic.{slice_cmp}
use Rattle.std.proofs.lemmas.Bool.{and_from, and_parts, or_cases}
use Rattle.std.proofs.lemmas.Cmp.{nat_cmp_total, nat_list_cmp_total, on_total, then_total}
use Rattle.std.proofs.lemmas.List.Sorted.{searchable_from_sorted}
use Rattle.std.proofs.lemmas.Map.Keys.{IsDistinct-IsPermutation, apart_from_distinct}
use Rattle.std.proofs.lemmas.Option.{get_or_from_slice_get, slice_get_within}
use Rattle.swc_tree_node.specs.declared.node.Node.{Node}
use Rattle.swc_tree_scoping.specs.Places.{Path}
use Rattle.swc_tree_scoping.specs.BoundNames.{Id}
use Rattle.swc_base_rename_analysis.specs.declared.analysis.Analysis.{Analysis}
use Rattle.swc_base_rename_analysis.specs.declared.analysis.Site.{Site}
use Rattle.swc_base_rename_analysis.specs.declared.layout.Region.{Region}
use Rattle.swc_base_rename_analysis.specs.Analysis.{Declares, IsAtOrAbove, IsRound}
use Rattle.swc_base_rename_analysis.specs.Numbers.{id_met, known_by, number_in}
use Rattle.swc_base_rename_analysis.specs.Order.{IsBefore, entry, turns}
use Rattle.swc_base_rename_analysis.specs.Read.{IsRead, site_of, site_order, sites_by, taker}
use Rattle.swc_base_rename_analysis.specs.Walk.{Laid, Met}
use Rattle.swc_base_rename_analysis_laws.specs.Means.{IsSiteOf, holds_stretch, surrounds}
use Rattle.swc_base_rename_analysis_laws.specs.Placed.{IsBetween, IsInside, IsMetAs, IsPlaced, Use, at_path}
use Rattle.swc_base_rename_analysis_laws.proofs.IdsRead.{as_long}
use Rattle.swc_base_rename_analysis_laws.proofs.Items.{from_mapped, one_item}
use Rattle.swc_base_rename_analysis_laws.proofs.Paths.{same_number, same_start}
use Rattle.swc_base_rename_analysis_laws.proofs.Rounds.{one_round_other, round_before, round_through, taken_is_round}
use Rattle.swc_base_rename_analysis_laws.proofs.SitesRead.{ReadOff, no_binding, sites_next, taken_parts, declared_at, each_site, read_off, use_at}

-- sites by their numbers
sites_order : IsTotalOrder site_order
sites_order = then_total (on_total (λ (s : Site). s.scope) nat_cmp_total) (then_total (on_total (λ (s : Site). s.position) nat_cmp_total) (on_total (λ (s : Site). s.id) nat_cmp_total))

abbrev InStep : Site → Site → Type 0
InStep a b = (a.scope ≤ b.scope) × (a.scope ≡ b.scope → a.position ≤ b.position)

not_less : (o : Ordering) → 1 ≤ ordering_index o → o ≡ Less → ⊥
not_less Less l e = omega (arith, l)
not_less Equal l e = absurd (cc)
not_less Greater l e = absurd (cc)

in_step : (a b : Site) → (site_order b a ≡ Less → ⊥) → InStep a b
in_step a b h = by (nat_cmp b.scope a.scope) (ranks b.scope a.scope) h
  where
    positions : (o : Ordering) → MatchOrdering o (b.position < a.position) (b.position ≡ a.position) (a.position < b.position) → (ordering_then o (nat_cmp b.id a.id) ≡ Less → ⊥) → a.position ≤ b.position
    positions Less r h = absurd (h refl)
    positions Equal r h = omega (arith, r)
    positions Greater r h = omega (arith, r)

    by : (o : Ordering) → MatchOrdering o (b.scope < a.scope) (b.scope ≡ a.scope) (a.scope < b.scope) → (ordering_then o (ordering_then (nat_cmp b.position a.position) (nat_cmp b.id a.id)) ≡ Less → ⊥) → InStep a b
    by Less r h = absurd (h refl)
    by Equal r h = (omega (arith, r), λ e. positions (nat_cmp b.position a.position) (ranks b.position a.position) h)
    by Greater r h = (omega (arith, r), λ e. omega (arith, r, e))

equal_itself : (s : Site) → site_order s s ≡ Equal
equal_itself s = λ i. ordering_then (same_number s.scope i) (ordering_then (same_number s.position i) (same_number s.id i))

-- no two sites have one position
abbrev same_position : Site → Site → Bool
same_position a b = a.position == b.position

flips : (a b : Site) → same_position a b ≡ same_position b a
flips a b = by (a.position == b.position) (b.position == a.position) refl refl
  where
    by : (x y : Bool) → (a.position == b.position) ≡ x → (b.position == a.position) ≡ y → x ≡ y
    by true true e f = refl
    by false false e f = refl
    by true false e f = sym (sym f ∙ eq-eqb b.position a.position (sym (eqb-true a.position b.position e)))
    by false true e f = sym e ∙ eq-eqb a.position b.position (sym (eqb-true b.position a.position f))

unequal : (m n : ℕ) → m < n → (m == n) ≡ false
unequal m n less = by (m == n) refl
  where
    by : (b : Bool) → (m == n) ≡ b → b ≡ false
    by true e = absurd (omega (arith, less, eqb-true m n e))
    by false e = refl

abbrev Below : ℕ → List Site → Type 0
Below n xs = AllByRecursion (λ s. s.position < n) xs

below_more : (n : ℕ) (xs : List Site) → Below n xs → Below (suc n) xs
below_more n [] h = tt
below_more n (x ∷ xs) (l, h) = (omega (arith, l), below_more n xs h)

below_pushed : (n : ℕ) (xs ys : List Site) → Below n xs → Below n ys → Below n (xs ++ ys)
below_pushed n [] ys h g = g
below_pushed n (x ∷ xs) ys (l, h) g = (l, below_pushed n xs ys h g)

all_unequal : (s x : Site) (xs : List Site) → AllByRecursion (λ y. same_position s y ≡ false) xs → same_position s x ≡ false → AllByRecursion (λ y. same_position s y ≡ false) (xs ++ x ∷ [])
all_unequal s x [] h e = (e, tt)
all_unequal s x (y ∷ xs) (d, h) e = (d, all_unequal s x xs h e)

pushed : (x : Site) (xs : List Site) → Below x.position xs → IsDistinct same_position xs → IsDistinct same_position (xs ++ x ∷ [])
unfolding IsDistinct
pushed x [] h d = (tt, tt)
pushed x (y ∷ xs) (l, h) (e, d) = (all_unequal y x xs e (unequal y.position x.position l), pushed x xs h d)

none_distinct : IsDistinct same_position []
unfolding IsDistinct
none_distinct = tt

abbrev Rising : ℕ → List Site → Type 0
Rising n xs = Below n xs × IsDistinct same_position xs

site_more : (n id : ℕ) (o : Option ℕ) (xs : List Site) → Rising n xs → Rising (suc n) (xs ++ site_of n id o)
site_more n id None xs (h, d) = subst (Rising (suc n)) (sym (append-nil xs)) (below_more n xs h, d)
site_more n id (Some s) xs (h, d) = (below_pushed (suc n) xs (record { scope = s; position = n; id = id } ∷ []) (below_more n xs h) (omega arith, tt), pushed (record { scope = s; position = n; id = id }) xs h d)

sites_rise : (rs : List Region) (ms : List Met) (n : ℕ) → Rising n (sites_by rs ms n)
sites_rise rs ms zero = (tt, none_distinct)
sites_rise rs ms (suc n) = by (slice_get ms n) (sites_rise rs ms n)
  where
    by : (o : Option Met) → Rising n (sites_by rs ms n) → Rising (suc n) (sites_next rs n o (known_by ms (suc n)) (sites_by rs ms n))
    by None (h, d) = (below_more n (sites_by rs ms n) h, d)
    by (Some m) r = site_more n (unwrap_or (number_in (known_by ms (suc n)) (id_met m)) 0) (taker rs m) (sites_by rs ms n) r

-- neither of two before the other
both_ways : {A : Type 0} (xs ys : List ℕ) → slice_cmp nat_cmp xs ys ≡ Less → slice_cmp nat_cmp ys xs ≡ Less → A
both_ways xs ys h g = let both : Less ≡ Greater = sym h ∙ nat_list_cmp_total.antisymm xs ys ∙ ap ordering_reverse g in absurd (cc)

level : (xs : List ℕ) → slice_cmp nat_cmp xs xs ≡ Equal
level xs = (λ i. slice_cmp nat_cmp (sym (append-nil xs) i) (sym (append-nil xs) i)) ∙ same_start xs [] []

three_ways : (m n : ℕ) → (m < n) ⊎ ((m ≡ n) ⊎ (n < m))
three_ways m n = by (nat_cmp m n) (ranks m n)
  where
    by : (o : Ordering) → MatchOrdering o (m < n) (m ≡ n) (n < m) → (m < n) ⊎ ((m ≡ n) ⊎ (n < m))
    by Less r = inl r
    by Equal r = inr (inl r)
    by Greater r = inr (inr r)

is_either : (x y : Bool) → (x ≡ true) ⊎ (y ≡ true) → (x || y) ≡ true
is_either true y h = refl
is_either false y (inl e) = absurd (cc)
is_either false y (inr e) = e

module _ (t : Node) (a : Analysis) (l : Laid) (scopes : List Path) (uses : List Use) (placed : IsPlaced t l scopes uses) (read : IsRead l a) where
  abbrev places : List Path
  places = map (λ u. u.path) uses

  -- a site's binding stands in its scope, with its position in the scope's stretch
  record Stands (site : Site) (s : Path) : Type 0 where
    region : Region
    use_ : Use
    region_there : slice_get l.regions site.scope ≡ Some region
    use_there : slice_get uses site.position ≡ Some use_
    free : use_.own ≡ false
    round : IsRound t s use_.path
    between : IsBetween region site.position

  stands : (i : ℕ) (site : Site) (s : Path) → slice_get a.sites.items i ≡ Some site → slice_get scopes site.scope ≡ Some s → Stands site s
  stands i site s e scope =
      let r = read_off t a l scopes uses placed read i site e in
      let (u, there) = use_at t a l scopes uses placed read site.position r.before in
      let (region, here) = as_long scopes l.regions site.scope s placed.as_many_scopes scope in
      by r u there region here u.own refl (declared_at t a l scopes uses placed read u.own u.path r.met site.scope (placed.met site.position u r.met there r.there) r.taken)
    where
      by : (r : ReadOff l.regions l.names (length l.names) site) (u : Use) → slice_get uses site.position ≡ Some u → (region : Region) → slice_get l.regions site.scope ≡ Some region
          → (b : Bool) → u.own ≡ b → (p : Path) × (slice_get scopes site.scope ≡ Some p) × Declares t p u.path (id_met r.met) → Stands site s
      by r u there region here true own d = no_binding r.met.standing (subst (λ b. IsMetAs t scopes l.regions b u.path r.met) own (placed.met site.position u r.met there r.there)).refers ((taken_parts l.regions r.met site.scope r.taken).0)
      by r u there region here false own (p, scope_there, d) =
          let round : IsRound t s u.path = subst (λ s. IsRound t s u.path) (one_item (slice_get scopes site.scope) p s scope_there scope) (taken_is_round t d.standing p u.path d.taken) in
          record {
            region = region;
            use_ = u;
            region_there = here;
            use_there = there;
            free = own;
            round = round;
            between = (placed.inside site.scope site.position s region u scope here there).1 (inl round);
          }

  -- a position in the stretch of a scope, by the binding of a site
  in_scope : (n : ℕ) (s : Path) (r : Region) (site : Site) (u : Path) (x : Stands site u) → slice_get scopes n ≡ Some s → slice_get l.regions n ≡ Some r → IsBetween r site.position ↔ IsRound t s x.use_.path
  in_scope n s r site u x scope region =
      let inside = placed.inside n site.position s r x.use_ scope region x.use_there in
      (λ b. at (inside.0 b), λ h. inside.1 (inl h))
    where
      at : IsInside t s x.use_ → IsRound t s x.use_.path
      at (inl h) = h
      at (inr (own, _)) = let both : false ≡ true = sym x.free ∙ own in absurd (cc)

  entered_before : (m n : ℕ) (s u : Path) → m < n → slice_get scopes m ≡ Some s → slice_get scopes n ≡ Some u → slice_cmp nat_cmp (turns entry t s) (turns entry t u) ≡ Less
  entered_before = placed.scopes_rise

  -- numbers of scopes are in the order of their paths
  not_after : {A : Type 0} (m n : ℕ) (s u : Path) → m ≤ n → slice_get scopes m ≡ Some s → slice_get scopes n ≡ Some u → slice_cmp nat_cmp (turns entry t u) (turns entry t s) ≡ Less → A
  not_after {A} m n s u less e f back = by (three_ways m n)
    where
      by : (m < n) ⊎ ((m ≡ n) ⊎ (n < m)) → A
      by (inl before) = both_ways (turns entry t s) (turns entry t u) (placed.scopes_rise m n s u before e f) back
      by (inr (inl same)) = let one : s ≡ u = one_item (slice_get scopes n) s u (ap (slice_get scopes) (sym same) ∙ e) f in both_ways (turns entry t u) (turns entry t s) back (ap (λ s. slice_cmp nat_cmp (turns entry t s) (turns entry t u)) one ∙ ap (λ s. slice_cmp nat_cmp (turns entry t u) (turns entry t s)) (sym one) ∙ back)
      by (inr (inr after)) = absurd (omega (arith, less, after))

  got_region : (n : ℕ) (r : Region) → slice_get l.regions n ≡ Some r → slice_get a.regions.items n ≡ Some r
  got_region n r e = ap (λ rs. slice_get rs n) read.regions ∙ e

  abbrev Lies : ℕ → ℕ → Type 0
  Lies m n = (m ≤ n) × (holds_stretch (slice_get a.regions.items m) (slice_get a.regions.items n) ≡ true)

  told : (m n : ℕ) → IsTrue (surrounds a m n) → (m ≡ n) ⊎ Lies m n
  told m n h = ⊎_elim (λ (e : (m == n) ≡ true). inl (eqb-true m n e)) (λ (e : (nat_le m n && holds_stretch (slice_get a.regions.items m) (slice_get a.regions.items n)) ≡ true). let (l, s) = and_parts (nat_le m n) _ e in inr (leb-true m n l, s)) (or_cases (m == n) _ h)

  one_scope : (m n : ℕ) → m ≡ n → IsTrue (surrounds a m n)
  one_scope m n e = is_either (m == n) _ (inl (eq-eqb m n e))

  lies : (m n : ℕ) (r q : Region) → slice_get l.regions m ≡ Some r → slice_get l.regions n ≡ Some q → m ≤ n → r.start ≤ q.start → q.end ≤ r.end → IsTrue (surrounds a m n)
  lies m n r q e f less starts ends = is_either (m == n) _ (inr (and_from (nat_le m n) (holds_stretch (slice_get a.regions.items m) (slice_get a.regions.items n)) (le-leb m n less)
      ((λ i. holds_stretch (got_region m r e i) (got_region n q f i)) ∙ and_from (nat_le r.start q.start) (nat_le q.end r.end) (le-leb r.start q.start starts) (le-leb q.end r.end ends))))

  holds : (m n : ℕ) (r q : Region) → slice_get l.regions m ≡ Some r → slice_get l.regions n ≡ Some q → holds_stretch (slice_get a.regions.items m) (slice_get a.regions.items n) ≡ true → (r.start ≤ q.start) × (q.end ≤ r.end)
  holds m n r q e f h =
      let (starts, ends) = and_parts (nat_le r.start q.start) (nat_le q.end r.end) (sym (λ i. holds_stretch (got_region m r e i) (got_region n q f i)) ∙ h) in
      (leb-true r.start q.start starts, leb-true q.end r.end ends)

  pub round : (m j : ℕ) (other : Site) (s u : Path) → slice_get scopes m ≡ Some s → slice_get a.sites.items j ≡ Some other → slice_get scopes other.scope ≡ Some u → IsTrue (surrounds a m other.scope) ↔ IsAtOrAbove t s u
  round m j other s u at_s f at_u = let (region, there) = as_long scopes l.regions m s placed.as_many_scopes at_s in (λ h. forth region there (told m other.scope h), back region there)
    where
      y : Stands other u
      y = stands j other u f at_u

      forth : (region : Region) → slice_get l.regions m ≡ Some region → (m ≡ other.scope) ⊎ Lies m other.scope → IsAtOrAbove t s u
      forth region there (inl same) = inl (one_item (slice_get scopes other.scope) s u (ap (slice_get scopes) (sym same) ∙ at_s) at_u)
      forth region there (inr (less, h)) =
          let (starts, ends) = holds m other.scope region y.region there y.region_there h in
          let round_s : IsRound t s y.use_.path = (in_scope m s region other u y at_s there).0 (omega (arith, starts, y.between.0), omega (arith, ends, y.between.1)) in
          ⊎_elim (λ (same : s ≡ u). inl same) (⊎_elim (λ (r : IsRound t s u). inr r) (λ (r : IsRound t u s). not_after m other.scope s u less at_s at_u (round_before t u s r))) (one_round_other t s u y.use_.path round_s y.round)

      number : (m n : ℕ) → slice_get scopes m ≡ Some s → slice_get scopes n ≡ Some s → m ≡ n
      number m n at_m at_n = ⊎_elim
          (λ (less : m < n). both_ways (turns entry t s) (turns entry t s) (placed.scopes_rise m n s s less at_m at_n) (placed.scopes_rise m n s s less at_m at_n))
          (⊎_elim (λ (same : m ≡ n). same) (λ (more : n < m). both_ways (turns entry t s) (turns entry t s) (placed.scopes_rise n m s s more at_n at_m) (placed.scopes_rise n m s s more at_n at_m)))
          (three_ways m n)

      apart_or_in : (region : Region) → slice_get l.regions m ≡ Some region → m < other.scope → IsRound t s u → IsTrue (surrounds a m other.scope)
      apart_or_in region there less r =
          let inside = (in_scope m s region other u y at_s there).1 (round_through t s u y.use_.path r y.round) in
          let (starts, ends) = placed.apart m other.scope region y.region less there y.region_there in
          ⊎_elim
          (λ (ends : y.region.end ≤ region.end). lies m other.scope region y.region there y.region_there (omega (arith, less)) starts ends)
          (λ (after : region.end ≤ y.region.start). absurd (omega (arith, after, inside.1, y.between.0)))
          ends

      back : (region : Region) → slice_get l.regions m ≡ Some region → IsAtOrAbove t s u → IsTrue (surrounds a m other.scope)
      back region there (inl same) = one_scope m other.scope (number m other.scope at_s (at_u ∙ ap (λ u. Some u) (sym same)))
      back region there (inr r) = ⊎_elim
          (λ (less : m < other.scope). apart_or_in region there less r)
          (⊎_elim (λ (same : m ≡ other.scope). one_scope m other.scope same)
          (λ (more : other.scope < m). not_after other.scope m u s (omega (arith, more)) at_u at_s (round_before t s u r)))
          (three_ways m other.scope)

  -- the sites are sorted
  steps : (i j : ℕ) (one other : Site) → i ≤ j → slice_get a.sites.items i ≡ Some one → slice_get a.sites.items j ≡ Some other → InStep one other
  steps i j one other less e f = in_step one other (not_less (site_order other one) (subst (λ k. 1 ≤ k) (λ n. ordering_index (site_order (get_or_from_slice_get a.sites.items j other one f n) one)) first))
    where
      sorted : ordering_index (site_order (get_or a.sites.items i one) one) ≤ ordering_index (site_order (get_or a.sites.items j one) one)
      sorted = searchable_from_sorted sites_order (λ s. s) a.sites.items one read.in_order i j one less (slice_get_within a.sites.items j other f)

      first : 1 ≤ ordering_index (site_order (get_or a.sites.items j one) one)
      first = omega (arith, sorted, ap (λ s. ordering_index (site_order s one)) (get_or_from_slice_get a.sites.items i one one e), ap ordering_index (equal_itself one))

  pub in_preorder : (i j k : ℕ) (one between other : Site) → i ≤ j → j ≤ k → slice_get a.sites.items i ≡ Some one → slice_get a.sites.items j ≡ Some between → slice_get a.sites.items k ≡ Some other
      → IsTrue (surrounds a one.scope other.scope) → IsTrue (surrounds a one.scope between.scope)
  in_preorder i j k one between other before after e f g h = ⊎_elim
      (λ (same : one.scope ≡ other.scope). one_scope one.scope between.scope (omega (arith, same, up.0, down.0)))
      (λ (far : Lies one.scope other.scope). ⊎_elim (λ (less : one.scope < between.scope). within less far) (λ (z : (one.scope ≡ between.scope) ⊎ (between.scope < one.scope)). one_scope one.scope between.scope (⊎_elim (λ (same : one.scope ≡ between.scope). same) (λ (more : between.scope < one.scope). omega (arith, more, up.0)) z)) (three_ways one.scope between.scope))
      (told one.scope other.scope h)
    where
      up : InStep one between
      up = steps i j one between before e f

      down : InStep between other
      down = steps j k between other after f g

      within : one.scope < between.scope → Lies one.scope other.scope → IsTrue (surrounds a one.scope between.scope)
      within less (_, far) =
          let (s, _, _, at_s, _) = each_site t a l scopes uses placed read i one e in
          let (b, _, _, at_b, _) = each_site t a l scopes uses placed read j between f in
          let (u, _, _, at_u, _) = each_site t a l scopes uses placed read k other g in
          let x = stands i one s e at_s.scope in
          let z = stands j between b f at_b.scope in
          let y = stands k other u g at_u.scope in
          let (starts, ends) = holds one.scope other.scope x.region y.region x.region_there y.region_there far in
          let (begins, apart) = placed.apart one.scope between.scope x.region z.region less x.region_there z.region_there in
          let late : z.region.start ≤ y.region.start = late_start z.region y.region z.region_there y.region_there in
          ⊎_elim
          (λ (in_it : z.region.end ≤ x.region.end). lies one.scope between.scope x.region z.region x.region_there z.region_there (omega (arith, less)) begins in_it)
          (λ (past : x.region.end ≤ z.region.start). absurd (omega (arith, past, late, ends, y.between.0, y.between.1)))
          apart
        where
          late_start : (z y : Region) → slice_get l.regions between.scope ≡ Some z → slice_get l.regions other.scope ≡ Some y → z.start ≤ y.start
          late_start z y at_z at_y = ⊎_elim
              (λ (less : between.scope < other.scope). (placed.apart between.scope other.scope z y less at_z at_y).0)
              (λ (w : (between.scope ≡ other.scope) ⊎ (other.scope < between.scope)).
              let same : between.scope ≡ other.scope = ⊎_elim (λ (same : between.scope ≡ other.scope). same) (λ (more : other.scope < between.scope). absurd (omega (arith, more, down.0))) w in
              omega (arith, ap (λ (r : Region). r.start) (one_item (slice_get l.regions other.scope) z y (ap (slice_get l.regions) (sym same) ∙ at_z) at_y)))
              (three_ways between.scope other.scope)

  pub in_order : (i j : ℕ) (one other : Site) (s p u q : Path) (x y : Id) → i < j → slice_get a.sites.items i ≡ Some one → slice_get a.sites.items j ≡ Some other → IsSiteOf a scopes places one s p x → IsSiteOf a scopes places other u q y → IsBefore t (s, p) (u, q)
  in_order i j one other s p u q x y less e f at_one at_other = ⊎_elim
      (λ (before : one.scope < other.scope). ap (λ o. ordering_then o bindings) (placed.scopes_rise one.scope other.scope s u before at_one.scope at_other.scope))
      (λ (z : (one.scope ≡ other.scope) ⊎ (other.scope < one.scope)). in_one (⊎_elim (λ (same : one.scope ≡ other.scope). same) (λ (more : other.scope < one.scope). absurd (omega (arith, more, step.0))) z))
      (three_ways one.scope other.scope)
    where
      step : InStep one other
      step = steps i j one other (omega (arith, less)) e f

      bindings : Ordering
      bindings = slice_cmp nat_cmp (turns (λ _. []) t p) (turns (λ _. []) t q)

      differ : one.position ≡ other.position → ⊥
      differ same =
          let distinct = apart_from_distinct same_position a.sites.items i j one (IsDistinct-IsPermutation same_position flips (sites_by l.regions l.names (length l.names)) a.sites.items read.sites ((sites_rise l.regions l.names (length l.names)).1)) less (slice_get_within a.sites.items j other f) in
          let both : true ≡ false = sym (eq-eqb one.position other.position same) ∙ sym (λ n. same_position (get_or_from_slice_get a.sites.items i one one e n) (get_or_from_slice_get a.sites.items j other one f n)) ∙ distinct in
          absurd (cc)

      binding : (site : Site) (s p : Path) (x : Stands site s) → slice_get places site.position ≡ Some p → slice_get uses site.position ≡ Some (at_path p)
      binding site s p x at =
          let (v, there, path) = from_mapped (λ u. u.path) uses site.position p at in
          let one_use : v ≡ x.use_ = one_item (slice_get uses site.position) v x.use_ there x.use_there in
          there ∙ (λ n. Some (record { path = path n; own = (ap (λ u. u.own) one_use ∙ x.free) n }))

      in_one : one.scope ≡ other.scope → IsBefore t (s, p) (u, q)
      in_one same =
          let one_path : s ≡ u = one_item (slice_get scopes other.scope) s u (ap (slice_get scopes) (sym same) ∙ at_one.scope) at_other.scope in
          let less_position : one.position < other.position = ⊎_elim (λ (l : one.position < other.position). l) (λ (z : (one.position ≡ other.position) ⊎ (other.position < one.position)). absurd (⊎_elim differ (λ (more : other.position < one.position). omega (arith, more, step.1 same)) z)) (three_ways one.position other.position) in
          ap (λ o. ordering_then o bindings) (ap (λ u. slice_cmp nat_cmp (turns entry t s) (turns entry t u)) (sym one_path) ∙ level (turns entry t s))
          ∙ placed.names_rise one.position other.position p q less_position (binding one s p (stands i one s e at_one.scope) at_one.place) (binding other u q (stands j other u f at_other.scope) at_other.place)
