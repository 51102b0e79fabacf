-- A tree with fewer names, each seeing the same scopes, captures none where the other captures none.
use Rattle.std.proofs.Common.{◌≡◌, ℕ, Bool, true, false, ◌||◌, inl, inr, ⊎_elim, List, [], ◌∷◌, ◌++◌, Contains, refl, sym, ap, ◌∙◌, subst, append_assoc}
use Rattle.std.specs.List.{flat_map}
use Rattle.swc_tree_node.specs.declared.node.Node.{Node}
use Rattle.swc_tree_scoping.specs.declared.places.Standing.{Standing}
use Rattle.swc_tree_scoping.specs.declared.places.Place.{Place}
use Rattle.swc_tree_scoping.specs.Places.{Path, program_place}
use Rattle.swc_tree_scoping.specs.Scopes.{Round, is_binding, is_reference, is_taken, rounds, scope_at, is_name}
use Rattle.swc_tree_scoping.specs.WellScoped.{EachInOneScope, IsDeclared, Stands}
use Rattle.swc_tree_scoping.proofs.First.{Nested, rounds_nested}
use Rattle.swc_tree_renaming.specs.Apart.{CapturesNone, DeclaredIn, IsAtOrAbove, IsFreeName, IsRound}
use Rattle.swc_tree_renaming.proofs.Core.{as_declared, first_in}
use Rattle.swc_tree_sites.specs.Sites.{Binding, Entry, counted, entry}
use Rattle.swc_tree_sites.proofs.Loose.{S}
use Rattle.swc_tree_sites.proofs.Found.{env_at}
use Rattle.swc_tree_sites.proofs.Round.{entry_of, env_is, taken_by, taken_is}
use Rattle.swc_tree_sites.proofs.Transport.{OneTaker, binding_names, bound_binds, contains_in, counted_binds, counted_refers, entry_from, entry_to, flat_from, flat_to, found, in_bound, in_contains, not_both, not_sloppy, reference_names, refers_so, region, there, up}
use Rattle.swc_tree_sites.proofs.Whole.{as_taken}
use Rattle.swc_tree_sites.specs.Smaller.{AreKept, In, IsPlain}

abbrev PP : Place
PP = program_place

abbrev E : Node → Round → List Entry
E t = entry_of program_place t

-- a binding that a scope takes is declared in it
pub in_declared : (t : Node) → IsPlain t → (s : Path) (b : Binding) → In b (taken_by PP t s) → DeclaredIn t s b.1.sym
in_declared t plain s b h =
    let x = in_bound t plain s b h in
    let st : Stands t x.path b.0 b.1.sym = record { place = x.place; kind = x.kind; identifier = x.identifier; stands = x.stands; stands_so = x.stands_so; named = x.named } in
    record { path = x.path; standing = b.0; binds = record { at = st; binds = bound_binds t s b.0 b.1.sym x }; declared = as_declared t b.0 x.path s b.1.sym (not_sloppy t plain x.path b.0 b.1.sym st) x.taken }

-- what is declared in a scope it takes
pub declared_in : (t : Node) → IsPlain t → (s : Path) (x : List ℕ) → DeclaredIn t s x → (b : Binding) × In b (taken_by PP t s) × (b.1.sym ≡ x)
declared_in t plain s x d =
    let at = d.binds.at in
    let takes = as_taken t d.standing d.path s x (not_sloppy t plain d.path d.standing x at) d.declared in (
      (d.standing, at.identifier),
      (taken_is s PP t (d.standing, at.identifier)).1 (record { path = d.path; place = at.place; kind = at.kind; stands = at.stands; stands_so = at.stands_so; binds = d.binds.binds; taken = takes }),
      at.named,
    )

-- after the entry of a scope come those of the scopes round it
split : (t : Node) (ss : List Round) → Nested PP t ss → (s : Round) (b : Binding) → In s ss → In b (taken_by PP t s.0) → (front : List Entry) × (flat_map (E t) ss ≡ front ++ (taken_by PP t s.0, s.1) ∷ flat_map (E t) (rounds PP t s.0))
split t [] nested s b h i = absurd h
split t (z ∷ ss) nested s b (inl e) i =
    subst (λ z. (front : List Entry) × (entry (taken_by PP t z.0) z.1 ++ flat_map (E t) ss ≡ front ++ (taken_by PP t s.0, s.1) ∷ flat_map (E t) (rounds PP t s.0))) (sym e)
    ([], here (taken_by PP t s.0) i ∙ ap (λ l. (taken_by PP t s.0, s.1) ∷ flat_map (E t) l) (nested.0 ∙ ap (λ (z : Round). rounds PP t z.0) e))
  where
    here : (T : List Binding) → In b T → entry T s.1 ++ flat_map (E t) ss ≡ (T, s.1) ∷ flat_map (E t) ss
    here [] h = absurd h
    here (c ∷ cs) h = refl
split t (z ∷ ss) nested s b (inr h) i =
    let (front, e) = split t ss nested.1 s b h i in (entry (taken_by PP t z.0) z.1 ++ front, ap (λ l. entry (taken_by PP t z.0) z.1 ++ l) e ∙ sym (append_assoc (entry (taken_by PP t z.0) z.1) front ((taken_by PP t s.0, s.1) ∷ flat_map (E t) (rounds PP t s.0))))

-- and so where the entries are those of another path
joined_at : (t : Node) (ss : List Round) → Nested PP t ss → (front : List Entry) (e : Entry) (rest : List Entry) → flat_map (E t) ss ≡ front ++ e ∷ rest → (s : Round) × In s ss × (taken_by PP t s.0 ≡ e.0) × (rest ≡ flat_map (E t) (rounds PP t s.0))
joined_at t [] nested [] e rest h = absurd (cc)
joined_at t [] nested (f ∷ front) e rest h = absurd (cc)
joined_at t (z ∷ ss) nested front e rest h = at (taken_by PP t z.0) refl front h (joined_at t ss nested.1)
  where
    at : (T : List Binding) → taken_by PP t z.0 ≡ T → (front : List Entry) → entry T z.1 ++ flat_map (E t) ss ≡ front ++ e ∷ rest
        → ((front : List Entry) (e : Entry) (rest : List Entry) → flat_map (E t) ss ≡ front ++ e ∷ rest → (s : Round) × In s ss × (taken_by PP t s.0 ≡ e.0) × (rest ≡ flat_map (E t) (rounds PP t s.0)))
        → (s : Round) × In s (z ∷ ss) × (taken_by PP t s.0 ≡ e.0) × (rest ≡ flat_map (E t) (rounds PP t s.0))
    at [] is front h later = let (s, i, x, y) = later front e rest h in (s, inr i, x, y)
    at (b ∷ bs) is [] h later =
        let head : (b ∷ bs, z.1) ≡ e = cc in
        let tail : flat_map (E t) ss ≡ rest = cc in
        (z, inl refl, is ∙ ap (λ (e : Entry). e.0) head, sym tail ∙ ap (flat_map (E t)) nested.0)
    at (b ∷ bs) is (f ∷ front) h later = let tail : flat_map (E t) ss ≡ front ++ e ∷ rest = cc in let (s, i, x, y) = later front e rest tail in (s, inr i, x, y)

module _ (t n : Node) (text : List ℕ → List ℕ) (whole : IsPlain t) (plain : IsPlain n) (kept : AreKept (S program_place n).sites (S program_place t).sites) (one_taker : OneTaker n) (one : EachInOneScope t) (none : CapturesNone t text) where
  -- where the name is one of the whole
  of_kept : (p q : Path) (r v : Standing) (x y : List ℕ) (s u : Path) → Stands t q v x → is_name v ≡ true → env_at PP t q ≡ env_at PP n p → DeclaredIn n u x → IsRound n s p → IsAtOrAbove n u s → DeclaredIn n s y → text x ≡ text y → x ≡ y
  of_kept p q r v x y s u at names env d (seen, round) above e same =
      let (b, i, b_is) = declared_in n plain s y e in
      let (c, j, c_is) = declared_in n plain u x d in
      let (front, is) = split n (rounds PP n p) (rounds_nested p PP n) (s, seen) b (contains_in (s, seen) (rounds PP n p) round) i in
      let (a, k, sets, rest) = joined_at t (rounds PP t q) (rounds_nested q PP t) front (taken_by PP n s, seen) (flat_map (E n) (rounds PP n s)) (sym (env_is q PP t) ∙ env ∙ env_is p PP n ∙ is) in
      let declared_y : DeclaredIn t a.0 y = subst (DeclaredIn t a.0) b_is (in_declared t whole a.0 b (subst (In b) (sym sets) i)) in
      let (g, declared_x, higher) = owner a.0 sets rest c j c_is above in
      none.declared q v x y a.0 g at names declared_x (a.1, in_contains a (rounds PP t q) k) higher declared_y same
    where
      owner : (a : Path) → taken_by PP t a ≡ taken_by PP n s → flat_map (E n) (rounds PP n s) ≡ flat_map (E t) (rounds PP t a) → (c : Binding) → In c (taken_by PP n u) → c.1.sym ≡ x → IsAtOrAbove n u s → (g : Path) × DeclaredIn t g x × IsAtOrAbove t g a
      owner a sets rest c j c_is (inl e) = (a, subst (DeclaredIn t a) c_is (in_declared t whole a c (subst (In c) (ap (taken_by PP n) e ∙ sym sets) j)), inl refl)
      owner a sets rest c j c_is (inr (wide, there)) =
          let seen_n : In (taken_by PP n u, wide) (flat_map (E n) (rounds PP n s)) = flat_to (E n) (taken_by PP n u, wide) (u, wide) (rounds PP n s) (contains_in (u, wide) (rounds PP n s) there) (entry_to c (taken_by PP n u) wide j) in
          let (g, k, e) = flat_from (E t) (taken_by PP n u, wide) (rounds PP t a) (subst (In (taken_by PP n u, wide)) rest seen_n) in
          let (sets_g, views) = entry_from (taken_by PP t g.0) (taken_by PP n u) g.1 wide e in
          (g.0, subst (DeclaredIn t g.0) c_is (in_declared t whole g.0 c (subst (In c) (sym sets_g) j)), inr (g.1, in_contains g (rounds PP t a) k))

  -- what a copy sees is taken by a scope
  copied : (p : Path) (taken : List Binding) (b : Binding) → env_at PP n p ≡ (taken, true) ∷ [] → In b taken → (s : Path) × In b (taken_by PP n s)
  copied p taken b env h =
      let (s, k, e) = flat_from (E n) (taken, true) (rounds PP n p) (subst (In (taken, true)) (sym env ∙ env_is p PP n) (inl refl)) in
      let (sets, views) = entry_from (taken_by PP n s.0) taken s.1 true e in
      (s.0, subst (In b) (sym sets) h)

  -- what a scope round a copy takes is what the copy sees
  only_seen : (p s : Path) (seen : Bool) (b : Binding) (taken : List Binding) → env_at PP n p ≡ (taken, true) ∷ [] → Contains (rounds PP n p) (s, seen) → In b (taken_by PP n s) → taken_by PP n s ≡ taken
  only_seen p s seen b taken env round h =
      at (subst (In (taken_by PP n s, seen)) (sym (env_is p PP n) ∙ env) (flat_to (E n) (taken_by PP n s, seen) (s, seen) (rounds PP n p) (contains_in (s, seen) (rounds PP n p) round) (entry_to b (taken_by PP n s) seen h)))
    where
      at : In {X = Entry} (taken_by PP n s, seen) ((taken, true) ∷ []) → taken_by PP n s ≡ taken
      at (inl e) = ap (λ (e : Entry). e.0) (sym e)
      at (inr e) = absurd e

  names_so : (v r : Standing) → counted v ≡ counted r → is_name r ≡ true → is_name v ≡ true
  names_so v r e h = at (is_binding r) refl (is_reference r) refl
    where
      at : (b : Bool) → is_binding r ≡ b → (c : Bool) → is_reference r ≡ c → is_name v ≡ true
      at true b c d = binding_names v (counted_binds v r e b)
      at false b true d = reference_names v (refers_so v r e d)
      at false b false d = let z = sym h ∙ ap (λ b. b || is_reference r) b ∙ d in absurd (cc)

  declared_here : (s : Path) (b : Binding) (x : List ℕ) → b.1.sym ≡ x → In b (taken_by PP n s) → DeclaredIn n s x
  declared_here s b x e h = subst (DeclaredIn n s) e (in_declared n plain s b h)

  is_declared : (s : Path) (x : List ℕ) → DeclaredIn n s x → IsDeclared n x
  is_declared s x d = (d.path, d.standing, d.binds)

  bound_apart : (x y : List ℕ) (s : Path) → DeclaredIn n s x → DeclaredIn n s y → text x ≡ text y → x ≡ y
  bound_apart x y s d e same =
      let names = binding_names d.standing d.binds.binds in
      ⊎_elim
      (λ z.
      let (q, v, st, counts, env) = up t n whole plain kept one_taker one d.path d.standing x d.binds.at z in
      let takes = as_taken n d.standing d.path s x (not_sloppy n plain d.path d.standing x d.binds.at) d.declared in
      let (wide, round, f) = first_in (λ s. is_taken d.standing (scope_at PP n s.0)) (rounds PP n d.path) s takes in
      of_kept d.path q d.standing v x y s s st (names_so v d.standing counts names) env d (wide, round) (inl refl) e same)
      (λ z. absurd (not_both d.standing d.binds.binds (counted_refers d.standing z.refers)))
      (kept (there t n whole plain kept one_taker one d.path d.standing x d.binds.at) (found t n whole plain kept one_taker one d.path d.standing x d.binds.at names))

  -- a free name is free in the whole
  still_free : (p q : Path) (v : Standing) (x : List ℕ) → Stands t q v x → is_reference v ≡ true → env_at PP t q ≡ env_at PP n p → ¬ IsDeclared n x → ¬ IsDeclared t x
  still_free p q v x st refers env undeclared d =
      let o = one x d in
      let (u, inside, b, i, named) = region t n whole plain kept one_taker one p q x o.scope env (o.references q v refers st) in
      undeclared (is_declared u x (declared_here u b x named i))

  free_up : (x : List ℕ) → IsFreeName n x → IsFreeName t x
  free_up x f = ⊎_elim
      (λ z.
      let (q, v, st, counts, env) = up t n whole plain kept one_taker one f.path f.standing x f.at z in
      let refers = refers_so v f.standing counts f.refers in
      record { path = q; standing = v; at = st; refers = refers; undeclared = still_free f.path q v x st refers env f.undeclared })
      (λ z. let (s, h) = copied f.path z.taken (z.way, z.bound) z.env z.within in absurd (f.undeclared (is_declared s x (declared_here s (z.way, z.bound) x (z.same.0 ∙ f.at.named) h))))
      (kept (there t n whole plain kept one_taker one f.path f.standing x f.at) (found t n whole plain kept one_taker one f.path f.standing x f.at (reference_names f.standing f.refers)))

  -- the scope of the whole for one round a kept name
  above : (p q s : Path) (y : List ℕ) → env_at PP t q ≡ env_at PP n p → IsRound n s p → DeclaredIn n s y → (a : Path) × IsRound t a q × DeclaredIn t a y
  above p q s y env (seen, round) e =
      let (b, i, b_is) = declared_in n plain s y e in
      let in_n : In (taken_by PP n s, seen) (env_at PP n p)
      = subst (In (taken_by PP n s, seen)) (sym (env_is p PP n)) (flat_to (E n) (taken_by PP n s, seen) (s, seen) (rounds PP n p) (contains_in (s, seen) (rounds PP n p) round) (entry_to b (taken_by PP n s) seen i)) in
      let (g, k, z) = flat_from (E t) (taken_by PP n s, seen) (rounds PP t q) (subst (In (taken_by PP n s, seen)) (sym env ∙ env_is q PP t) in_n) in
      let (sets, views) = entry_from (taken_by PP t g.0) (taken_by PP n s) g.1 seen z in
      (g.0, (g.1, in_contains g (rounds PP t q) k), subst (DeclaredIn t g.0) b_is (in_declared t whole g.0 b (subst (In b) (sym sets) i)))

  pub captures_none : CapturesNone n text
  captures_none = record {
    declared = λ p r x y s u at names d round higher e same. ⊎_elim
        (λ z. let (q, v, st, counts, env) = up t n whole plain kept one_taker one p r x at z in of_kept p q r v x y s u st (names_so v r counts names) env d round higher e same)
        (λ z.
        let (b, i, named) = declared_in n plain s y e in
        let sets = only_seen p s round.0 b z.taken z.env round.1 i in
        bound_apart x y s (declared_here s (z.way, z.bound) x (z.same.0 ∙ at.named) (subst (In (z.way, z.bound)) (sym sets) z.within)) e same)
        (kept (there t n whole plain kept one_taker one p r x at) (found t n whole plain kept one_taker one p r x at names));
    free = λ p r x y s at names undeclared round e same. ⊎_elim
        (λ z.
        let (q, v, st, counts, env) = up t n whole plain kept one_taker one p r x at z in
        let (a, round_t, e_t) = above p q s y env round e in
        none.free q v x y a st (names_so v r counts names) (free_there p q r v x at names counts st env undeclared) round_t e_t same)
        (λ z. let (a, h) = copied p z.taken (z.way, z.bound) z.env z.within in undeclared (is_declared a x (declared_here a (z.way, z.bound) x (z.same.0 ∙ at.named) h)))
        (kept (there t n whole plain kept one_taker one p r x at) (found t n whole plain kept one_taker one p r x at names));
    frees = λ x y f g same. none.frees x y (free_up x f) (free_up y g) same;
  }
    where
      free_there : (p q : Path) (r v : Standing) (x : List ℕ) → Stands n p r x → is_name r ≡ true → counted v ≡ counted r → Stands t q v x → env_at PP t q ≡ env_at PP n p → ¬ IsDeclared n x → ¬ IsDeclared t x
      free_there p q r v x at names counts st env undeclared = by (is_binding r) refl (is_reference r) refl
        where
          by : (b : Bool) → is_binding r ≡ b → (c : Bool) → is_reference r ≡ c → ¬ IsDeclared t x
          by true b c d = absurd (undeclared (p, r, record { at = at; binds = b }))
          by false b true d = still_free p q v x st (refers_so v r counts d) env undeclared
          by false b false d = let z = sym names ∙ ap (λ b. b || is_reference r) b ∙ d in absurd (cc)
