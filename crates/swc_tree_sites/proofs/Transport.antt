-- A tree that has fewer names, with the same scopes round each, has each name in one scope where the other has.
use Rattle.std.proofs.Common.{◌≡◌, ◌≢◌, ℕ, zero, suc, Bool, true, false, ◌||◌, inl, inr, ⊎_elim, IsTrue, Some, List, [], ◌∷◌, Contains, refl, sym, ap, ◌∙◌, subst, cond, arith}
use Rattle.std.specs.List.{flat_map}
use Rattle.std.proofs.lemmas.List.Elements.{Contains-append_right}
use Rattle.swc_tree_marks.specs.declared.ident.Ident.{Ident}
use Rattle.swc_tree_node.specs.declared.node.Node.{Node}
use Rattle.swc_tree_scoping.specs.declared.places.Standing.{Standing}
use Rattle.swc_tree_scoping.specs.declared.places.Standing.TheVariants as standing
use Rattle.swc_tree_scoping.specs.declared.places.Place.{Place}
use Rattle.swc_tree_scoping.specs.Places.{Path, program_place}
use Rattle.swc_tree_scoping.specs.Scopes.{Round, first_that, is_binding, is_reference, is_taken, rounds, scope_at, taker, is_name}
use Rattle.swc_tree_scoping.specs.Declares.{Bound, DeclaresFor, is_parameter, is_settled, DeclaredBy}
use Rattle.swc_tree_scoping.specs.WellScoped.{EachInOneScope, InRegion, IsDeclared, Stands}
use Rattle.swc_tree_renaming.proofs.Core.{as_declared, taken_binds}
use Rattle.swc_tree_sites.specs.Sites.{Site, Binding, Entry, counted, entry}
use Rattle.swc_tree_sites.proofs.Loose.{S, in_cases, in_left, in_right}
use Rattle.swc_tree_sites.proofs.Found.{env_at, finds}
use Rattle.swc_tree_sites.proofs.Round.{entry_of, env_is, taken_by, taken_is}
use Rattle.swc_tree_sites.specs.Smaller.{AreKept, In, IsPlain, Sub}

-- lists
pub contains_in : {X : Type 0} (x : X) (xs : List X) → Contains xs x → In x xs
contains_in x [] (k, l, e) = absurd (omega arith)
contains_in x (y ∷ ys) (zero, l, e) = inl e
contains_in x (y ∷ ys) (suc k, l, e) = inr (contains_in x ys (k, omega arith, e))

pub in_contains : {X : Type 0} (x : X) (xs : List X) → In x xs → Contains xs x
in_contains x [] h = absurd h
in_contains x (y ∷ ys) (inl e) = (0, omega arith, e)
in_contains x (y ∷ ys) (inr h) = Contains-append_right (y ∷ []) ys x (in_contains x ys h)

pub sub_in : {X : Type 0} (x : X) (xs ys : List X) → Sub xs ys → In x xs → In x ys
sub_in x [] ys s h = absurd h
sub_in x (z ∷ xs) [] s h = absurd s
sub_in x (z ∷ xs) (y ∷ ys) (inl s) (inl h) = inl (sym s.0 ∙ h)
sub_in x (z ∷ xs) (y ∷ ys) (inl s) (inr h) = inr (sub_in x xs ys s.1 h)
sub_in x (z ∷ xs) (y ∷ ys) (inr s) h = inr (sub_in x (z ∷ xs) ys s h)

pub flat_from : {X Y : Type 0} (f : X → List Y) (y : Y) (xs : List X) → In y (flat_map f xs) → (x : X) × In x xs × In y (f x)
flat_from f y [] h = absurd h
flat_from f y (x ∷ xs) h = ⊎_elim (λ g. (x, inl refl, g)) (λ g. let (z, i, e) = flat_from f y xs g in (z, inr i, e)) (in_cases y (f x) (flat_map f xs) h)

pub flat_to : {X Y : Type 0} (f : X → List Y) (y : Y) (x : X) (xs : List X) → In x xs → In y (f x) → In y (flat_map f xs)
flat_to f y x [] h g = absurd h
flat_to f y x (z ∷ xs) (inl e) g = in_left y (f z) (flat_map f xs) (subst (λ z. In y (f z)) (sym e) g)
flat_to f y x (z ∷ xs) (inr h) g = in_right y (f z) (flat_map f xs) (flat_to f y x xs h g)

pub entry_to : (b : Binding) (bs : List Binding) (whole : Bool) → In b bs → In (bs, whole) (entry bs whole)
entry_to b [] whole h = absurd h
entry_to b (c ∷ bs) whole h = inl refl

pub entry_from : (bs cs : List Binding) (whole seen : Bool) → In (cs, seen) (entry bs whole) → (bs ≡ cs) × (whole ≡ seen)
entry_from [] cs whole seen h = absurd h
entry_from (b ∷ bs) cs whole seen (inl e) = (ap (λ (e : Entry). e.0) e, ap (λ (e : Entry). e.1) e)
entry_from (b ∷ bs) cs whole seen (inr h) = absurd h

pub reference_names : (r : Standing) → IsTrue (is_reference r) → is_name r ≡ true
reference_names r h = or_right (is_binding r) (is_reference r) h
  where
    or_right : (a b : Bool) → b ≡ true → (a || b) ≡ true
    or_right true b h = refl
    or_right false b h = h

pub binding_names : (r : Standing) → IsTrue (is_binding r) → is_name r ≡ true
binding_names r h = or_left (is_binding r) (is_reference r) h
  where
    or_left : (a b : Bool) → a ≡ true → (a || b) ≡ true
    or_left true b h = refl
    or_left false b h = absurd (cc)

first_passes : (f : Round → Bool) (ss : List Round) (s : Path) → first_that f ss ≡ Some s → (u : Round) × (f u ≡ true)
first_passes f [] s h = absurd (cc)
first_passes f (u ∷ us) s h = next (f u) refl h (first_passes f us s)
  where
    next : (b : Bool) → f u ≡ b → cond b (Some u.0) (first_that f us) ≡ Some s → (first_that f us ≡ Some s → (u : Round) × (f u ≡ true)) → (u : Round) × (f u ≡ true)
    next true e g rest = (u, e)
    next false e g rest = rest g

pub bound_binds : (t : Node) (s : Path) (r : Standing) (x : List ℕ) → Bound t s r x → is_binding r ≡ true
bound_binds t s r x b = let (u, e) = first_passes (λ s. is_taken r (scope_at program_place t s.0)) (rounds program_place t b.path) s b.taken in taken_binds r (scope_at program_place t u.0) e

abbrev PP : Place
PP = program_place

-- a name is taken by one scope alone
abbrev pub OneTaker : Node → Type 0
OneTaker t = (s u : Path) (b c : Binding) → In b (taken_by program_place t s) → In c (taken_by program_place t u) → b.1.sym ≡ c.1.sym → s ≡ u

module _ (t : Node) (plain : IsPlain t) where
  pub bound_in : (s : Path) (r : Standing) (x : List ℕ) (b : Bound t s r x) → is_binding r ≡ true → In (r, b.identifier) (taken_by PP t s)
  bound_in s r x b z = (taken_is s PP t (r, b.identifier)).1 (record { path = b.path; place = b.place; kind = b.kind; stands = b.stands; stands_so = b.stands_so; binds = z; taken = b.taken })

  pub in_bound : (s : Path) (b : Binding) → In b (taken_by PP t s) → Bound t s b.0 b.1.sym
  in_bound s b h =
      let g = (taken_is s PP t b).0 h in
      record { path = g.path; place = g.place; kind = g.kind; identifier = b.1; stands = g.stands; stands_so = g.stands_so; named = refl; unmarked = plain.unmarked g.path g.place g.kind b.1 g.stands; taken = g.taken }

  pub not_sloppy : (p : Path) (r : Standing) (x : List ℕ) → Stands t p r x → r ≢ standing.SloppyFunction
  not_sloppy p r x s e = plain.settled p s.place s.kind s.identifier s.stands (s.stands_so ∙ e)

  -- what a scope declares for a place, it takes
  pub declares_way : (x : List ℕ) (s : Round) → DeclaresFor t x s → (r : Standing) × Bound t s.0 r x × IsTrue (cond s.1 (is_settled r) (is_parameter r))
  declares_way x (s, true) (inl (r, ways, b)) = (r, b, ways)
  declares_way x (s, true) (inr (inl (b, h))) = absurd (plain.settled b.path b.place b.kind b.identifier b.stands b.stands_so)
  declares_way x (s, true) (inr (inr h)) = absurd (plain.settled h.bound.path h.bound.place h.bound.kind h.bound.identifier h.bound.stands h.bound.stands_so)
  declares_way x (s, false) (r, ways, b) = (r, b, ways)

  pub way_declares : (x : List ℕ) (s : Path) (whole : Bool) (r : Standing) → Bound t s r x → IsTrue (cond whole (is_settled r) (is_parameter r)) → DeclaresFor t x (s, whole)
  way_declares x s true r b ways = inl (r, ways, b)
  way_declares x s false r b ways = (r, ways, b)

pub fewer_kept : (xs ys : List Site) → Sub xs ys → AreKept xs ys
fewer_kept xs ys h = λ s i. inl (sub_in s xs ys h i)

pub not_both : (r : Standing) → is_binding r ≡ true → is_reference r ≡ true → ⊥
not_both standing.Reference b c = absurd (cc)
not_both standing.Body b c = absurd (cc)
not_both _ b c = absurd (cc)

-- what counts as a binding or a reference is one
counted_binding : (r : Standing) → is_binding (counted r) ≡ is_binding r
counted_binding standing.Body = refl
counted_binding _ = refl

counted_reference : (r : Standing) → is_reference (counted r) ≡ is_reference r
counted_reference standing.Body = refl
counted_reference _ = refl

pub counted_binds : (v r : Standing) → counted v ≡ counted r → is_binding r ≡ true → is_binding v ≡ true
counted_binds v r e h = sym (counted_binding v) ∙ ap is_binding e ∙ counted_binding r ∙ h

pub refers_so : (v r : Standing) → counted v ≡ counted r → is_reference r ≡ true → is_reference v ≡ true
refers_so v r e h = sym (counted_reference v) ∙ ap is_reference e ∙ counted_reference r ∙ h

pub counted_refers : (r : Standing) → is_reference (counted r) ≡ true → is_reference r ≡ true
counted_refers r h = sym (counted_reference r) ∙ h

pub settled_way : (r : Standing) → r ≢ standing.SloppyFunction → is_settled r ≡ true
settled_way standing.SloppyFunction n = absurd (n refl)
settled_way _ n = refl

module _ (t n : Node) (whole_plain : IsPlain t) (plain : IsPlain n) (kept : AreKept (S program_place n).sites (S program_place t).sites) (one_taker : OneTaker n) (one : EachInOneScope t) where
  abbrev pub there : (p : Path) (r : Standing) (x : List ℕ) → Stands n p r x → Site
  there p r x s = (counted r, s.identifier, env_at PP n p)

  pub found : (p : Path) (r : Standing) (x : List ℕ) (s : Stands n p r x) → is_name r ≡ true → In (there p r x s) (S PP n).sites
  found p r x s z = (finds n PP (there p r x s)).1 (record { path = p; place = s.place; kind = s.kind; stands = s.stands; stands_so = ap counted s.stands_so; names = ap is_name s.stands_so ∙ z; env = refl })

  -- a name of the smaller tree stands in the other, with the same round it
  pub up : (p : Path) (r : Standing) (x : List ℕ) (s : Stands n p r x) → In (there p r x s) (S PP t).sites → (q : Path) × (v : Standing) × Stands t q v x × (counted v ≡ counted r) × (env_at PP t q ≡ env_at PP n p)
  up p r x s i =
      let g = (finds t PP (there p r x s)).0 i in
      (g.path, g.place.standing, record { place = g.place; kind = g.kind; identifier = s.identifier; stands = g.stands; stands_so = refl; named = s.named }, g.stands_so, g.env)

  declared_up : (x : List ℕ) → IsDeclared n x → IsDeclared t x
  declared_up x (p, r, b) = ⊎_elim
      (λ i. let (q, v, s, same, e) = up p r x b.at i in (q, v, record { at = s; binds = counted_binds v r same b.binds }))
      (λ c. absurd (not_both r b.binds (counted_refers r c.refers)))
      (kept (there p r x b.at) (found p r x b.at (binding_names r b.binds)))

  -- a copy sees what takes its name
  beside : (p : Path) (x : List ℕ) (i : Ident) (taken : List Binding) (r : Standing) → i.sym ≡ x → env_at PP n p ≡ (taken, true) ∷ [] → In (r, i) taken → (u : Path) × InRegion n u x p × (b : Binding) × In b (taken_by PP n u) × (b.1.sym ≡ x)
  beside p x i taken r named env within =
      let (u, k, e) = flat_from (entry_of PP n) (taken, true) (rounds PP n p) (subst (In (taken, true)) (sym env ∙ env_is p PP n) (inl refl)) in
      let (sets, views) = entry_from (taken_by PP n u.0) taken u.1 true e in
      let inner : In (r, i) (taken_by PP n u.0) = subst (In (r, i)) (sym sets) within in
      let raw = in_bound n plain u.0 (r, i) inner in
      let bound : Bound n u.0 r x = subst (Bound n u.0 r) named raw in
      let way : is_settled r ≡ true = settled_way r (λ e. plain.settled raw.path raw.place raw.kind raw.identifier raw.stands (raw.stands_so ∙ e)) in
      (u.0, (u.1, in_contains u (rounds PP n p) k, way_declares n plain x u.0 u.1 r bound (subst (λ w. IsTrue (cond w (is_settled r) (is_parameter r))) (sym views) way)), (r, i), inner, named)

  -- what is seen from a name in the one is seen from it in the other
  pub region : (p q : Path) (x : List ℕ) (s : Path) → env_at PP t q ≡ env_at PP n p → InRegion t s x q → (u : Path) × InRegion n u x p × (b : Binding) × In b (taken_by PP n u) × (b.1.sym ≡ x)
  region p q x s same (whole, there, declares) =
      let (r, b, ways) = declares_way t whole_plain x (s, whole) declares in
      let z = bound_binds t s r x b in
      let taken = bound_in t whole_plain s r x b z in
      let seen : In (taken_by PP t s, whole) (env_at PP t q)
      = subst (In (taken_by PP t s, whole)) (sym (env_is q PP t))
      (flat_to (entry_of PP t) (taken_by PP t s, whole) (s, whole) (rounds PP t q) (contains_in (s, whole) (rounds PP t q) there) (entry_to (r, b.identifier) (taken_by PP t s) whole taken)) in
      let (u, i, e) = flat_from (entry_of PP n) (taken_by PP t s, whole) (rounds PP n p) (subst (In (taken_by PP t s, whole)) (same ∙ env_is p PP n) seen) in
      let (sets, views) = entry_from (taken_by PP n u.0) (taken_by PP t s) u.1 whole e in
      let inner : In (r, b.identifier) (taken_by PP n u.0) = subst (In (r, b.identifier)) (sym sets) taken in
      let bound : Bound n u.0 r x = subst (Bound n u.0 r) b.named (in_bound n plain u.0 (r, b.identifier) inner) in
      (u.0, (u.1, in_contains u (rounds PP n p) i, way_declares n plain x u.0 u.1 r bound (subst (λ w. IsTrue (cond w (is_settled r) (is_parameter r))) (sym views) ways)), (r, b.identifier), inner, b.named)

  pub each_in_one_scope : EachInOneScope n
  each_in_one_scope x (p, r, b) =
      let (s, taken) = plain.takes p r x b in
      let mine = bound_in n plain s r x (record { path = p; place = b.at.place; kind = b.at.kind; identifier = b.at.identifier; stands = b.at.stands; stands_so = b.at.stands_so; named = b.at.named; unmarked = plain.unmarked p b.at.place b.at.kind b.at.identifier b.at.stands; taken = taken }) b.binds in
      record {
        scope = s;
        bindings = λ q z c.
            let (u, other) = plain.takes q z x c in
            let theirs = bound_in n plain u z x (record { path = q; place = c.at.place; kind = c.at.kind; identifier = c.at.identifier; stands = c.at.stands; stands_so = c.at.stands_so; named = c.at.named; unmarked = plain.unmarked q c.at.place c.at.kind c.at.identifier c.at.stands; taken = other }) c.binds in
            as_declared n z q s x (not_sloppy n plain q z x c.at) (other ∙ ap (λ u. Some u) (one_taker u s (z, c.at.identifier) (r, b.at.identifier) theirs mine (c.at.named ∙ sym b.at.named)));
        references = λ q z refers c.
            let (u, inside, d, i, named) = ⊎_elim
            (λ k. let (o, v, st, counts, same) = up q z x c k in let scoped = one x (declared_up x (p, r, b)) in region q o x scoped.scope same (scoped.references o v (refers_so v z counts refers) st))
            (λ k. beside q x k.bound k.taken k.way (k.same.0 ∙ c.named) k.env k.within)
            (kept (there q z x c) (found q z x c (reference_names z refers))) in
            subst (λ u. InRegion n u x q) (one_taker u s d (r, b.at.identifier) i mine (named ∙ sym b.at.named)) inside;
      }
