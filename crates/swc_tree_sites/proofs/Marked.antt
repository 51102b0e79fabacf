-- A tree and the same with contexts: what a scope declares in the one, it takes in the other.
use Rattle.std.proofs.Common.{◌≡◌, ℕ, Bool, true, false, ◌⊎◌, inl, inr, ⊎_elim, IsTrue, Option, Some, None, List, [], ◌∷◌, refl, sym, ap, ◌∙◌, subst, cond}
use Rattle.std.specs.Option.{is_some}
use Rattle.swc_tree_marks.specs.declared.ident.Ident.{Ident}
use Rattle.swc_tree_node.specs.declared.kind.Kind.{Kind}
use Rattle.swc_tree_node.specs.declared.node.Node.{Node, Identifier}
use Rattle.swc_tree_scoping.specs.declared.places.Standing.{Standing}
use Rattle.swc_tree_scoping.specs.declared.places.Standing.TheVariants as standing
use Rattle.swc_tree_scoping.specs.declared.places.Place.{Place}
use Rattle.swc_tree_scoping.specs.declared.places.Scope.{Scope}
use Rattle.swc_tree_scoping.specs.Places.{Path, place_at, program_place}
use Rattle.swc_tree_scoping.specs.Scopes.{Round, first_that, is_binding, is_taken, rounds, scope_at, taker}
use Rattle.swc_tree_scoping.specs.Declares.{Bound, DeclaresFor, First, is_parameter, is_settled}
use Rattle.swc_tree_renaming.specs.Apart.{HasTexts, SameScopes}
use Rattle.swc_tree_sites.specs.Sites.{Binding, Entry}
use Rattle.swc_tree_sites.proofs.Found.{env_at}
use Rattle.swc_tree_sites.proofs.Round.{env_is, taken_by, taken_is}
use Rattle.swc_tree_sites.proofs.Transport.{binding_names, bound_binds, declares_way, way_declares}
use Rattle.swc_tree_sites.proofs.Entries.{FirstIn, Matches, Tells, first_of_test, to_entries}
use Rattle.swc_tree_sites.specs.Smaller.{In, IsPlain}

abbrev PP : Place
PP = program_place

pub first_at : (f : Round → Bool) (ss : List Round) (s : Path) → first_that f ss ≡ Some s → (u : Round) × (u.0 ≡ s) × (f u ≡ true)
first_at f [] s h = absurd (cc)
first_at f (u ∷ us) s h = next (f u) refl h (first_at f us s)
  where
    next : (b : Bool) → f u ≡ b → cond b (Some u.0) (first_that f us) ≡ Some s → (first_that f us ≡ Some s → (u : Round) × (u.0 ≡ s) × (f u ≡ true)) → (u : Round) × (u.0 ≡ s) × (f u ≡ true)
    next true e g rest = let same : u.0 ≡ s = cc in (u, same, e)
    next false e g rest = rest g

pub taker_takes : (t : Node) (r : Standing) (p s : Path) → taker r t p ≡ Some s → is_taken r (scope_at PP t s) ≡ true
taker_takes t r p s h = let (u, is, e) = first_at (λ s. is_taken r (scope_at PP t s.0)) (rounds PP t p) s h in subst (λ s. is_taken r (scope_at PP t s) ≡ true) is e

-- a scope takes what it holds
pub takes_it : (t : Node) (s : Path) (b : Binding) → In b (taken_by PP t s) → is_taken b.0 (scope_at PP t s) ≡ true
takes_it t s b h = let g = (taken_is s PP t b).0 h in taker_takes t b.0 g.path s g.taken

pub taken_some : (r : Standing) (o : Option Scope) → is_taken r o ≡ true → IsTrue (is_some o)
taken_some r None h = absurd (cc)
taken_some r (Some s) h = refl

-- the scope that takes a binding is the first round it that holds it
abbrev pub Holds : Binding → Entry → Type 0
Holds b e = In b e.0

pub own_first : (t : Node) (p s : Path) (w : Place) (k : Kind) (i : Ident) → place_at PP t p ≡ Some (w, Identifier k i) → is_binding w.standing ≡ true → taker w.standing t p ≡ Some s
    → (e : Entry) × FirstIn (Holds (w.standing, i)) (env_at PP t p) (Some e) × (taken_by PP t s ≡ e.0)
own_first t p s w k i h b e =
    let own : In (w.standing, i) (taken_by PP t s) = (taken_is s PP t (w.standing, i)).1 (record { path = p; place = w; kind = k; stands = h; stands_so = refl; binds = b; taken = e }) in
    let first = first_of_test (λ u. is_taken w.standing (scope_at PP t u.0)) (λ u. In (w.standing, i) (taken_by PP t u.0)) (rounds PP t p) s (λ u g. takes_it t u.0 (w.standing, i) g)
    (λ u is g. subst (λ s. In (w.standing, i) (taken_by PP t s)) (sym is) own) e in
    let (o, f, m) = to_entries t (λ u. In (w.standing, i) (taken_by PP t u.0)) (Holds (w.standing, i)) (record { none = λ u z g. subst (In (w.standing, i)) z g; forth = λ u g. g; back = λ u g. g }) (rounds PP t p) (Some s) first in
    found o (subst (λ l. FirstIn (Holds (w.standing, i)) l o) (sym (env_is p PP t)) f) m
  where
    found : (o : Option Entry) → FirstIn (Holds (w.standing, i)) (env_at PP t p) o → Matches t (Some s) o → (e : Entry) × FirstIn (Holds (w.standing, i)) (env_at PP t p) (Some e) × (taken_by PP t s ≡ e.0)
    found None f m = absurd m
    found (Some e) f m = (e, f, m)

abbrev pub NamesIt : List ℕ → Entry → Type 0
NamesIt x e = (b : Binding) × In b e.0 × (b.1.sym ≡ x) × IsTrue (cond e.1 (is_settled b.0) (is_parameter b.0))

abbrev pub VariableOrCatch : List ℕ → Entry → Type 0
VariableOrCatch x e = (b : Binding) × In b e.0 × (b.1.sym ≡ x) × ((b.0 ≡ standing.Variable) ⊎ (b.0 ≡ standing.CatchParameter))

module _ (v u : Node) (plain : IsPlain v) (same : SameScopes v u) (texts : HasTexts v (λ x. x) u) where
  pub taker_same : (r : Standing) (p : Path) → taker r v p ≡ taker r u p
  taker_same r p =
      ap (first_that (λ s. is_taken r (scope_at program_place v s.0))) (same.rounds_same p)
      ∙ ap (λ (f : Path → Option Scope). first_that (λ s. is_taken r (f s.0)) (rounds program_place u p)) (λ i s. same.scopes_same s i)

  to_marked : (s : Path) (r : Standing) (x : List ℕ) → Bound v s r x → (i : Ident) × In (r, i) (taken_by PP u s) × (i.sym ≡ x)
  to_marked s r x b =
      let (l, j, e) = same.forth b.path b.place b.kind b.identifier b.stands in
      let binds = bound_binds v s r x b in (
        j,
        (taken_is s PP u (r, j)).1 (record { path = b.path; place = b.place; kind = l; stands = e; stands_so = b.stands_so; binds = binds; taken = sym (taker_same r b.path) ∙ b.taken }),
        texts b.path b.place b.place b.kind l b.identifier j b.stands e (binding_names b.place.standing (ap is_binding b.stands_so ∙ binds)) ∙ b.named,
      )

  pub from_marked : (s : Path) (b : Binding) → In b (taken_by PP u s) → Bound v s b.0 b.1.sym
  from_marked s b h =
      let g = (taken_is s PP u b).0 h in
      let (k, i, e) = same.back g.path g.place g.kind b.1 g.stands in
      record {
        path = g.path;
        place = g.place;
        kind = k;
        identifier = i;
        stands = e;
        stands_so = g.stands_so;
        named = sym (texts g.path g.place g.place k g.kind i b.1 e g.stands (binding_names g.place.standing (ap is_binding g.stands_so ∙ g.binds)));
        unmarked = plain.unmarked g.path g.place k i e;
        taken = taker_same b.0 g.path ∙ g.taken;
      }

  none_taken : (s : Path) (r : Standing) (x : List ℕ) → taken_by PP u s ≡ [] → Bound v s r x → ⊥
  none_taken s r x none b = let (i, h, e) = to_marked s r x b in subst (In (r, i)) none h

  pub declares_tells : (x : List ℕ) → Tells u (DeclaresFor v x) (NamesIt x)
  declares_tells x = record {
    none = λ s none h. let (r, b, ways) = declares_way v plain x s h in none_taken s.0 r x none b;
    forth = λ s h. let (r, b, ways) = declares_way v plain x s h in let (i, g, e) = to_marked s.0 r x b in ((r, i), g, e, ways);
    back = λ s q. let (b, g, e, ways) = q in way_declares v plain x s.0 s.1 b.0 (subst (Bound v s.0 b.0) e (from_marked s.0 b g)) ways;
  }

  pub meets_tells : (x : List ℕ) → Tells u (λ s. Bound v s.0 standing.Variable x ⊎ Bound v s.0 standing.CatchParameter x) (VariableOrCatch x)
  meets_tells x = record {
    none = λ s none h. ⊎_elim (none_taken s.0 standing.Variable x none) (none_taken s.0 standing.CatchParameter x none) h;
    forth = λ s h. ⊎_elim
        (λ b. let (i, g, e) = to_marked s.0 standing.Variable x b in ((standing.Variable, i), g, e, inl refl))
        (λ b. let (i, g, e) = to_marked s.0 standing.CatchParameter x b in ((standing.CatchParameter, i), g, e, inr refl)) h;
    back = λ s q.
        let (b, g, e, way) = q in
        let bound : Bound v s.0 b.0 x = subst (Bound v s.0 b.0) e (from_marked s.0 b g) in
        ⊎_elim (λ z. inl (subst (λ r. Bound v s.0 r x) z bound)) (λ z. inr (subst (λ r. Bound v s.0 r x) z bound)) way;
  }

  pub scope_of_set : (s : Path) (b : Binding) → In b (taken_by PP u s) → IsTrue (is_some (scope_at PP v s))
  scope_of_set s b h = subst (λ (o : Option Scope). IsTrue (is_some o)) (sym (same.scopes_same s)) (taken_some b.0 (scope_at PP u s) (takes_it u s b h))

  -- what a variable meets, by what scopes take
  pub meets_so : (x : List ℕ) (f m : Path) (ss : List Round) → first_that (λ s. is_taken standing.Variable (scope_at PP v s.0)) ss ≡ Some f → Bound v f standing.Variable x
      → First (λ s. IsTrue (is_taken standing.Variable (scope_at PP v s.0)) ⊎ Bound v s.0 standing.CatchParameter x) ss (Some m) → First (λ s. Bound v s.0 standing.Variable x ⊎ Bound v s.0 standing.CatchParameter x) ss (Some m)
  meets_so x f m [] e b h = absurd (cc)
  meets_so x f m (s ∷ ss) e b h = next (is_taken standing.Variable (scope_at PP v s.0)) refl e h (λ z. meets_so x f m ss z b)
    where
      next : (c : Bool) → is_taken standing.Variable (scope_at PP v s.0) ≡ c → cond c (Some s.0) (first_that (λ s. is_taken standing.Variable (scope_at PP v s.0)) ss) ≡ Some f
          → First (λ s. IsTrue (is_taken standing.Variable (scope_at PP v s.0)) ⊎ Bound v s.0 standing.CatchParameter x) (s ∷ ss) (Some m)
          → (first_that (λ s. is_taken standing.Variable (scope_at PP v s.0)) ss ≡ Some f → First (λ s. IsTrue (is_taken standing.Variable (scope_at PP v s.0)) ⊎ Bound v s.0 standing.CatchParameter x) ss (Some m)
          → First (λ s. Bound v s.0 standing.Variable x ⊎ Bound v s.0 standing.CatchParameter x) ss (Some m))
          → First (λ s. Bound v s.0 standing.Variable x ⊎ Bound v s.0 standing.CatchParameter x) (s ∷ ss) (Some m)
      next true z e (inl h) rest = let same : s.0 ≡ f = cc in inl (inl (subst (λ f. Bound v f standing.Variable x) (sym same) b), h.1)
      next true z e (inr h) rest = absurd (h.0 (inl z))
      next false z e (inl (inl t, g)) rest = let y = sym z ∙ t in absurd (cc)
      next false z e (inl (inr c, g)) rest = inl (inr c, g)
      next false z e (inr h) rest = inr ((λ q. ⊎_elim (λ c. let y = sym z ∙ taker_takes v standing.Variable c.path s.0 c.taken in absurd (cc)) (λ c. h.0 (inr c)) q), rest e h.1)

-- a scope that stops first, and takes variables, is the variable scope
pub first_stop : (f : Round → Bool) (X : Round → Type 0) (ss : List Round) (g : Path) → First (λ s. IsTrue (f s) ⊎ X s) ss (Some g) → ((u : Round) → u.0 ≡ g → f u ≡ true) → first_that f ss ≡ Some g
first_stop f X [] g h own = absurd (cc)
first_stop f X (s ∷ ss) g (inl h) own = let same : s.0 ≡ g = cc' s.0 g (sym h.1) in ap (λ b. cond b (Some s.0) (first_that f ss)) (own s same) ∙ ap (λ q. Some q) same
  where
    cc' : (a b : Path) → Some a ≡ Some b → a ≡ b
    cc' a b e = cc
first_stop f X (s ∷ ss) g (inr h) own = next (f s) refl (first_stop f X ss g h.1 own)
  where
    next : (b : Bool) → f s ≡ b → first_that f ss ≡ Some g → cond b (Some s.0) (first_that f ss) ≡ Some g
    next true e r = absurd (h.0 (inl e))
    next false e r = r
