-- Where each name of a tree is one of a resolved tree, its context is the mark of the scope that it means.
use Rattle.std.proofs.Common.{◌≡◌, ◌≢◌, ℕ, Bool, true, false, ◌⊎◌, inl, inr, ⊎_elim, IsTrue, Option, Some, None, List, [], ◌∷◌, refl, sym, ap, ◌∙◌, subst}
use Rattle.swc_tree_marks.specs.declared.ident.Ident.{Ident}
use Rattle.swc_tree_node.specs.declared.kind.Kind.{Kind}
use Rattle.swc_tree_node.specs.declared.node.Node.{Node, Identifier}
use Rattle.swc_tree_scoping.specs.declared.places.Standing.{Standing}
use Rattle.swc_tree_scoping.specs.declared.places.Standing.TheVariants as standing
use Rattle.swc_tree_scoping.specs.declared.places.Place.{Place}
use Rattle.swc_tree_scoping.specs.Places.{Path, place_at, program_place}
use Rattle.swc_tree_scoping.specs.Scopes.{IsScope, Round, is_binding, is_taken, rounds, scope_at, taker, is_name}
use Rattle.swc_tree_scoping.specs.Declares.{Bound, First, IsUncaught, Meets}
use Rattle.swc_tree_scoping.specs.Resolved.{HasContext}
use Rattle.swc_tree_scoping.specs.WellScoped.{Stands}
use Rattle.swc_tree_renaming.specs.Apart.{HasTexts, SameScopes}
use Rattle.swc_tree_renaming.proofs.Core.{HasTakersMark, declared_taker}
use Rattle.swc_tree_sites.specs.Sites.{Binding, Entry, counted}
use Rattle.swc_tree_sites.proofs.Loose.{S}
use Rattle.swc_tree_sites.proofs.Found.{env_at, finds}
use Rattle.swc_tree_sites.proofs.Round.{env_is, taken_by, taken_is}
use Rattle.swc_tree_sites.proofs.Transport.{binding_names, counted_refers, not_both}
use Rattle.swc_tree_sites.proofs.Entries.{FirstIn, Matches, one_first, to_entries}
use Rattle.swc_tree_sites.proofs.Marked.{Holds, VariableOrCatch, first_stop, from_marked, meets_so, meets_tells, own_first, scope_of_set, taken_some, taker_same, taker_takes, takes_it}
use Rattle.swc_tree_sites.specs.Smaller.{AreKept, In, IsPlain}

abbrev PP : Place
PP = program_place

-- the mark of a scope, as what it takes has it
abbrev pub head_mark : List ℕ → ℕ
head_mark [] = 0
head_mark (c ∷ cs) = c

abbrev pub mark_of : List Binding → ℕ
mark_of [] = 0
mark_of (b ∷ bs) = head_mark b.1.ctxt

abbrev pub marks_of : Node → Path → ℕ
marks_of t s = mark_of (taken_by program_place t s)

-- a counted binding is itself
counted_same : (a r : Standing) → counted a ≡ counted r → is_binding r ≡ true → a ≡ r
counted_same a r e b = at a r (is_binding (counted a)) refl e b
  where
    itself : (r : Standing) → is_binding (counted r) ≡ true → counted r ≡ r
    itself standing.Body h = absurd (cc)
    itself _ h = refl

    kept : (r : Standing) → is_binding r ≡ true → counted r ≡ r
    kept standing.Body h = absurd (cc)
    kept _ h = refl

    at : (a r : Standing) (x : Bool) → is_binding (counted a) ≡ x → counted a ≡ counted r → is_binding r ≡ true → a ≡ r
    at a r true z e b = sym (itself a z) ∙ e ∙ kept r b
    at a r false z e b = let y = sym z ∙ ap is_binding (e ∙ kept r b) ∙ b in absurd (cc)

-- a variable has the mark of what it meets
abbrev HasMetMark : (Path → ℕ) → Node → Path → List ℕ → List ℕ → Type 0
HasMetMark marks v p x c = (m n : Path) × Meets v p x (Some m) × (taker standing.Variable v p ≡ Some n) × (c ≡ marks m ∷ [])

-- a binding has the mark of the scope that takes it, or is a variable and has that of what it meets
binding_cases : (marks : Path → ℕ) (unresolved : ℕ) (v : Node) (p : Path) (x : List ℕ) (r : Standing) (c : List ℕ) → is_binding r ≡ true → r ≢ standing.SloppyFunction → HasContext marks unresolved v p x r c
    → HasTakersMark marks v p r c ⊎ ((r ≡ standing.Variable) × HasMetMark marks v p x c)
binding_cases marks unresolved v p x r c b n h =
    let (s, declared, which) = h.binding b in
    let taken : taker r v p ≡ Some s = declared_taker v r p s x n declared in
    ⊎_elim (λ a. inr (a.1.0, (a.0, s, a.1.1, subst (λ r. taker r v p ≡ Some s) a.1.0 taken, a.2))) (λ e. inl (s, taken, e.1)) which

one_mark : (a b : ℕ) → a ∷ [] ≡ b ∷ [] → a ≡ b
one_mark a b e = cc

one_path : (a b : Path) → Some a ≡ Some b → a ≡ b
one_path a b e = cc

one_entry : (a b : Entry) → Some a ≡ Some b → a ≡ b
one_entry a b e = cc

-- what a variable meets is a scope
met_scope : (v : Node) (x : List ℕ) (ss : List Round) (m : Path) → First (λ s. IsTrue (is_taken standing.Variable (scope_at PP v s.0)) ⊎ Bound v s.0 standing.CatchParameter x) ss (Some m) → IsScope v m
met_scope v x [] m h = absurd (cc)
met_scope v x (s ∷ ss) m (inl h) =
    subst (IsScope v) (sym (one_path m s.0 h.1)) (⊎_elim (λ t. taken_some standing.Variable (scope_at PP v s.0) t) (λ b. taken_some standing.CatchParameter (scope_at PP v s.0) (taker_takes v standing.CatchParameter b.path s.0 b.taken)) h.0)
met_scope v x (s ∷ ss) m (inr h) = met_scope v x ss m h.1

-- `u` is `v` with contexts, as a resolver gives them
pub record IsMarked (v u : Node) (marks : Path → ℕ) (unresolved : ℕ) : Type 0 where
  pub plain : IsPlain v
  pub same : SameScopes v u
  pub texts : HasTexts v (λ x. x) u
  pub one_to_one : (s g : Path) → IsScope v s → IsScope v g → marks s ≡ marks g → s ≡ g
  pub resolved : (p : Path) (w : Place) (k : Kind) (i : Ident) → place_at program_place u p ≡ Some (w, Identifier k i) → is_name w.standing ≡ true → HasContext marks unresolved v p i.sym w.standing i.ctxt

module _ (v u : Node) (marks : Path → ℕ) (unresolved : ℕ) (is : IsMarked v u marks unresolved) where
  settled : (p : Path) (w : Place) (k : Kind) (i : Ident) → place_at PP u p ≡ Some (w, Identifier k i) → w.standing ≢ standing.SloppyFunction
  settled p w k i h = let (l, j, e) = is.same.back p w k i h in is.plain.settled p w l j e

  pub takes_one : (p s : Path) (r : Standing) → taker r v p ≡ Some s → (g : Path) → taker r u p ≡ Some g → s ≡ g
  takes_one p s r h g e = one_path s g (sym h ∙ taker_same v u is.plain is.same is.texts r p ∙ e)

  -- what two scopes take that has the mark of the second, tells that they are one
  pub only_mark : (f g : Path) (b : Binding) → In b (taken_by PP u f) → In b (taken_by PP u g) → b.1.ctxt ≡ marks g ∷ [] → f ≡ g
  only_mark f g b h j c =
      let d = (taken_is f PP u b).0 h in
      let so = subst (λ r. HasContext marks unresolved v d.path b.1.sym r b.1.ctxt) d.stands_so (is.resolved d.path d.place d.kind b.1 d.stands (binding_names d.place.standing (ap is_binding d.stands_so ∙ d.binds))) in
      ⊎_elim
      (λ t. let (s, e, z) = t in let there : s ≡ f = takes_one d.path s b.0 e f d.taken in by_mark s there (sym z ∙ c))
      (λ t.
      let (var, has) = t in
      let (m, n, meets, vs, or) = has in
      let there : n ≡ f = takes_one d.path n standing.Variable vs f (subst (λ r. taker r u d.path ≡ Some f) var d.taken) in
      let met : m ≡ g = is.one_to_one m g (met_scope v b.1.sym (rounds PP v d.path) m meets) (scope_of_set v u is.plain is.same is.texts g b j) (one_mark (marks m) (marks g) (sym or ∙ c)) in
      let takes_variables : is_taken standing.Variable (scope_at PP v g) ≡ true = ap (is_taken standing.Variable) (is.same.scopes_same g) ∙ ap (λ r. is_taken r (scope_at PP u g)) (sym var) ∙ takes_it u g b j in
      let stop = first_stop (λ s. is_taken standing.Variable (scope_at PP v s.0)) (λ s. Bound v s.0 standing.CatchParameter b.1.sym) (rounds PP v d.path) g
      (subst (λ m. First (λ s. IsTrue (is_taken standing.Variable (scope_at PP v s.0)) ⊎ Bound v s.0 standing.CatchParameter b.1.sym) (rounds PP v d.path) (Some m)) met meets)
      (λ s e. ap (λ q. is_taken standing.Variable (scope_at PP v q)) e ∙ takes_variables) in
      sym there ∙ one_path n g (sym vs ∙ stop))
      (binding_cases marks unresolved v d.path b.1.sym b.0 b.1.ctxt d.binds (λ e. settled d.path d.place d.kind b.1 d.stands (d.stands_so ∙ e)) so)
    where
      by_mark : (s : Path) → s ≡ f → marks s ∷ [] ≡ marks g ∷ [] → f ≡ g
      by_mark s there e =
          is.one_to_one f g (scope_of_set v u is.plain is.same is.texts f b h) (scope_of_set v u is.plain is.same is.texts g b j) (subst (λ s. marks s ≡ marks g) there (one_mark (marks s) (marks g) e))

-- `n` and `m` are what is left of `v` and `u`
module _ (v u n m : Node) (marks : Path → ℕ) (unresolved : ℕ) (is : IsMarked v u marks unresolved) (plain : IsPlain n) (same : SameScopes n m) (texts : HasTexts n (λ x. x) m)
    (kept : AreKept (S program_place m).sites (S program_place u).sites) (uncaught : (p : Path) (x : List ℕ) → Stands n p standing.Variable x → IsUncaught n p x) where
  -- a scope of the whole that takes the same, and whose mark the binding has
  abbrev pub FromScope : Path → Ident → Type 0
  FromScope s i = (f : Path) × (i.ctxt ≡ marks f ∷ []) × (taken_by PP u f ≡ taken_by PP m s)

  -- a binding of the whole, where the scopes round it take what those round one of the smaller tree take
  record Kept (q : Path) (w : Place) (i : Ident) : Type 0 where
    pub path : Path
    pub place : Place
    pub kind : Kind
    pub stands : place_at program_place u path ≡ Some (place, Identifier kind i)
    pub stands_so : place.standing ≡ w.standing
    pub env : env_at PP u path ≡ env_at PP m q

  kept_binding : (q : Path) (w : Place) (k : Kind) (i : Ident) → place_at PP m q ≡ Some (w, Identifier k i) → is_binding w.standing ≡ true → Kept q w i
  kept_binding q w k i h b = ⊎_elim
      (λ z. let g = (finds u PP (counted w.standing, i, env_at PP m q)).0 z in
      record { path = g.path; place = g.place; kind = g.kind; stands = g.stands; stands_so = counted_same g.place.standing w.standing g.stands_so b; env = g.env })
      (λ z. absurd (not_both w.standing b (counted_refers w.standing z.refers)))
      (kept (counted w.standing, i, env_at PP m q)
      ((finds m PP (counted w.standing, i, env_at PP m q)).1 (record { path = q; place = w; kind = k; stands = h; stands_so = refl; names = binding_names w.standing b; env = refl })))

  pub from_scope : (q s : Path) (w : Place) (k : Kind) (i : Ident) → place_at PP m q ≡ Some (w, Identifier k i) → is_binding w.standing ≡ true → taker w.standing m q ≡ Some s → FromScope s i
  from_scope q s w k i h b t =
      let g = kept_binding q w k i h b in
      let binds : is_binding g.place.standing ≡ true = ap is_binding g.stands_so ∙ b in
      let (l, j, e) = is.same.back g.path g.place g.kind i g.stands in
      let (f, takes_f) = is.plain.takes g.path g.place.standing j.sym (record { at = record { place = g.place; kind = l; identifier = j; stands = e; stands_so = refl; named = refl }; binds = binds }) in
      let takes_u : taker g.place.standing u g.path ≡ Some f = sym (taker_same v u is.plain is.same is.texts g.place.standing g.path) ∙ takes_f in
      let (e1, f1, m1) = own_first u g.path f g.place g.kind i g.stands binds takes_u in
      let (e2, f2, m2) = own_first m q s w k i h b t in
      let f1' = subst (λ r. FirstIn (Holds (r, i)) (env_at PP u g.path) (Some e1)) g.stands_so f1 in
      let one : e1 ≡ e2 = one_entry e1 e2 (one_first (Holds (w.standing, i)) (env_at PP m q) (Some e1) (Some e2) (subst (λ l. FirstIn (Holds (w.standing, i)) l (Some e1)) g.env f1') f2) in
      let sets : taken_by PP u f ≡ taken_by PP m s = m1 ∙ ap (λ (e : Entry). e.0) one ∙ sym m2 in
      ⊎_elim
      (λ a. let (d, x, z) = a in (f, z ∙ ap (λ d. marks d ∷ []) (one_path d f (sym x ∙ takes_f)), sets))
      (λ a. variable g f takes_f sets a.0 a.1)
      (binding_cases marks unresolved v g.path i.sym g.place.standing i.ctxt binds (settled v u marks unresolved is g.path g.place g.kind i g.stands) (is.resolved g.path g.place g.kind i g.stands (binding_names g.place.standing binds)))
    where
      variable : (g : Kept q w i) (f : Path) → taker g.place.standing v g.path ≡ Some f → taken_by PP u f ≡ taken_by PP m s → g.place.standing ≡ standing.Variable → HasMetMark marks v g.path i.sym i.ctxt → FromScope s i
      variable g f takes_f sets var (d, e, meets, vs, or) =
          let same_f : e ≡ f = one_path e f (sym vs ∙ subst (λ r. taker r v g.path ≡ Some f) var takes_f) in
          let w_var : w.standing ≡ standing.Variable = sym g.stands_so ∙ var in
          let own_m : In (standing.Variable, i) (taken_by PP m s)
          = subst (λ r. In (r, i) (taken_by PP m s)) w_var ((taken_is s PP m (w.standing, i)).1 (record { path = q; place = w; kind = k; stands = h; stands_so = refl; binds = b; taken = t })) in
          let own_u : In (standing.Variable, i) (taken_by PP u f) = subst (In (standing.Variable, i)) (sym sets) own_m in
          let bound_v : Bound v f standing.Variable i.sym = from_marked v u is.plain is.same is.texts f (standing.Variable, i) own_u in
          let bound_n : Bound n s standing.Variable i.sym = from_marked n m plain same texts s (standing.Variable, i) own_m in
          let (l, j, there) = same.back q w k i h in
          let stands_n : Stands n q standing.Variable i.sym
          = record { place = w; kind = l; identifier = j; stands = there; stands_so = w_var; named = sym (texts q w w l k j i there h (binding_names w.standing b)) } in
          let takes_n : taker standing.Variable n q ≡ Some s = taker_same n m plain same texts standing.Variable q ∙ subst (λ r. taker r m q ≡ Some s) w_var t in
          let meets_n : Meets n q i.sym (Some s) = subst (Meets n q i.sym) takes_n (uncaught q i.sym stands_n) in
          let first_n = meets_so n m plain same texts i.sym s s (rounds PP n q) takes_n bound_n meets_n in
          let first_v = meets_so v u is.plain is.same is.texts i.sym f d (rounds PP v g.path) (vs ∙ ap (λ q. Some q) same_f) bound_v meets in
          let (e1, f1, m1) = to_entries u _ (VariableOrCatch i.sym) (meets_tells v u is.plain is.same is.texts i.sym) (rounds PP u g.path) (Some d)
          (subst (λ ss. First (λ s. Bound v s.0 standing.Variable i.sym ⊎ Bound v s.0 standing.CatchParameter i.sym) ss (Some d)) (is.same.rounds_same g.path) first_v) in
          let (e2, f2, m2) = to_entries m _ (VariableOrCatch i.sym) (meets_tells n m plain same texts i.sym) (rounds PP m q) (Some s)
          (subst (λ ss. First (λ s. Bound n s.0 standing.Variable i.sym ⊎ Bound n s.0 standing.CatchParameter i.sym) ss (Some s)) (same.rounds_same q) first_n) in
          let one : e1 ≡ e2 = one_first (VariableOrCatch i.sym) (env_at PP m q) e1 e2
          (subst (λ l. FirstIn (VariableOrCatch i.sym) l e1) (sym (env_is g.path PP u) ∙ g.env) f1) (subst (λ l. FirstIn (VariableOrCatch i.sym) l e2) (sym (env_is q PP m)) f2) in
          let met : taken_by PP u d ≡ taken_by PP m s = matched d s e1 (m1) (subst (Matches m (Some s)) (sym one) m2) in
          let takes_d : is_taken standing.Variable (scope_at PP v d) ≡ true = ap (is_taken standing.Variable) (is.same.scopes_same d) ∙ takes_it u d (standing.Variable, i) (subst (In (standing.Variable, i)) (sym met) own_m) in
          let stop = first_stop (λ s. is_taken standing.Variable (scope_at PP v s.0)) (λ s. Bound v s.0 standing.CatchParameter i.sym) (rounds PP v g.path) d meets (λ z y. ap (λ q. is_taken standing.Variable (scope_at PP v q)) y ∙ takes_d) in
          let d_is : d ≡ f = one_path d e (sym stop ∙ vs) ∙ same_f in
          (f, or ∙ ap (λ d. marks d ∷ []) d_is, sets)
        where
          matched : (a c : Path) (e : Option Entry) → Matches u (Some a) e → Matches m (Some c) e → taken_by PP u a ≡ taken_by PP m c
          matched a c None x y = absurd x
          matched a c (Some e) x y = x ∙ sym y

  -- all that a scope takes has the mark of that scope of the whole
  pub set_mark : (s f : Path) (c : Binding) → In c (taken_by PP m s) → taken_by PP u f ≡ taken_by PP m s → marks f ≡ marks_of m s
  set_mark s f c h sets = at (taken_by PP m s) refl
    where
      at : (T : List Binding) → taken_by PP m s ≡ T → marks f ≡ mark_of T
      at [] e = absurd (subst (In c) e h)
      at (b ∷ bs) e =
          let first : In b (taken_by PP m s) = subst (In b) (sym e) (inl refl) in
          let d = (taken_is s PP m b).0 first in
          let (g, z, there) = from_scope d.path s d.place d.kind b.1 d.stands (ap is_binding d.stands_so ∙ d.binds) (subst (λ r. taker r m d.path ≡ Some s) (sym d.stands_so) d.taken) in
          let same_scope : f ≡ g = only_mark v u marks unresolved is f g b (subst (In b) (sym sets) first) (subst (In b) (sym there) first) z in
          ap marks same_scope ∙ sym (ap head_mark z)

  -- a binding has the mark of the scope that takes it
  pub binding_mark : (q : Path) (w : Place) (k : Kind) (i : Ident) → place_at PP m q ≡ Some (w, Identifier k i) → is_binding w.standing ≡ true → HasTakersMark (marks_of m) n q w.standing i.ctxt
  binding_mark q w k i h b =
      let (l, j, e) = same.back q w k i h in
      let (s, t) = plain.takes q w.standing j.sym (record { at = record { place = w; kind = l; identifier = j; stands = e; stands_so = refl; named = refl }; binds = b }) in
      let there = sym (taker_same n m plain same texts w.standing q) ∙ t in
      let (f, z, sets) = from_scope q s w k i h b there in
      let own = (taken_is s PP m (w.standing, i)).1 (record { path = q; place = w; kind = k; stands = h; stands_so = refl; binds = b; taken = there }) in
      (s, t, z ∙ ap (λ d. d ∷ []) (set_mark s f (w.standing, i) own sets))
