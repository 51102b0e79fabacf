-- The names of a program mean the ids that they are given: they have one text and one scope exactly if they get one id.
use Rattle.std.proofs.Common.{◌≡◌, ℕ, true, inl, inr, IsTrue, Option, Some, None, List, [], ◌∷◌, refl, sym, ap, ◌∙◌, subst}
use Rattle.swc_tree_marks.specs.declared.ident.Ident.{Ident}
use Rattle.swc_tree_node.specs.declared.node.Node.{Node, Identifier}
use Rattle.swc_tree_scoping.specs.declared.places.Standing.{Standing}
use Rattle.swc_tree_scoping.specs.declared.places.Place.{Place}
use Rattle.swc_tree_scoping.specs.Places.{Path, program_place}
use Rattle.swc_tree_scoping.specs.Scopes.{Round, is_binding, is_name, is_reference, rounds, taker}
use Rattle.swc_tree_scoping.specs.Declares.{Bound, DeclaresFor, First, Means}
use Rattle.swc_tree_scoping.specs.Resolved.{mark_in}
use Rattle.swc_tree_scoping.specs.WellScoped.{Stands}
use Rattle.swc_tree_renaming.specs.Apart.{Belongs, MeanOne, MeanTheirIds, NameAt, SameId}
use Rattle.swc_tree_renaming.proofs.Core.{binds_or_refers, declared_taker, name_has, taker_declares}
use Rattle.swc_tree_renaming.proofs.Whole.{identifier_same, stands_there}
use Rattle.swc_base_resolver_laws.specs.Laws.{ResolvedNamesMeanTheirIds}
use Rattle.swc_base_resolver_laws.proofs.Same.{some_same}
use Rattle.swc_base_resolver_laws.proofs.Lists.{found, found_none}
use Rattle.swc_base_resolver_laws.proofs.Names.{Resolving, binding_context, contexts, in_program, marks, no_sloppy, one_mark, others_resolved, reference_context, takers_scope}
use Rattle.swc_base_resolver_laws.proofs.Declared.{declares_bound}
use Rattle.swc_base_resolver_laws.proofs.OneScope.{settled}

-- there is one first
first_one : (P : Round → Type 0) (ss : List Round) (m n : Option Path) → First P ss m → First P ss n → m ≡ n
first_one P [] m n f g = f ∙ sym g
first_one P (s ∷ ss) m n (inl (h, e)) (inl (k, z)) = e ∙ sym z
first_one P (s ∷ ss) m n (inl (h, e)) (inr (none, g)) = absurd (none h)
first_one P (s ∷ ss) m n (inr (none, f)) (inl (k, z)) = absurd (none k)
first_one P (s ∷ ss) m n (inr (none, f)) (inr (nor, g)) = first_one P ss m n f g

module _ (t u : Node) (g : Resolving t u) where
  abbrev MarkOf : Option Path → List ℕ
  MarkOf o = mark_in (marks t u g) g.unresolved o ∷ []

  -- a name belongs to the scope whose mark it gets
  record Owned (p : Path) (r : Standing) (x : List ℕ) : Type 0 where
    owner : Option Path
    belongs : Belongs t p r x owner
    marked : contexts t u g p ≡ MarkOf owner

  owned : (p : Path) (r : Standing) (x : List ℕ) → Stands t p r x → IsTrue (is_name r) → Owned p r x
  owned p r x at names = name_has r names binding reference
    where
      binding : IsTrue (is_binding r) → Owned p r x
      binding b =
          let (s, taken, e) = binding_context t u g p r x at b in
          record {
            owner = Some s;
            belongs = record { binding = λ c. (s, taker_declares t r p s x (no_sloppy t u g p r x at) taken, refl); reference = λ f. absurd (binds_or_refers r b f) };
            marked = e;
          }

      reference : IsTrue (is_reference r) → Owned p r x
      reference f =
          let (m, means, e) = reference_context t u g p r x at f in
          record { owner = m; belongs = record { binding = λ b. absurd (binds_or_refers r b f); reference = λ h. means }; marked = e }

  -- ... and to that alone
  mark_of : (p : Path) (r : Standing) (x : List ℕ) (o : Option Path) → Stands t p r x → IsTrue (is_name r) → Belongs t p r x o → contexts t u g p ≡ MarkOf o
  mark_of p r x o at names h = name_has r names binding reference
    where
      binding : IsTrue (is_binding r) → contexts t u g p ≡ MarkOf o
      binding b =
          let (s, declared, is) = h.binding b in
          let (v, taken, e) = binding_context t u g p r x at b in
          let same : v ≡ s = some_same v s (sym taken ∙ declared_taker t r p s x (no_sloppy t u g p r x at) declared) in
          e ∙ ap (λ v. MarkOf (Some v)) same ∙ ap MarkOf (sym is)

      reference : IsTrue (is_reference r) → contexts t u g p ≡ MarkOf o
      reference f =
          let (m, means, e) = reference_context t u g p r x at f in
          e ∙ ap MarkOf (first_one (DeclaresFor t x) (rounds program_place t p) m o means (h.reference f))

  -- the scope binds the name
  bound : (p : Path) (r : Standing) (x : List ℕ) (s : Path) → Stands t p r x → IsTrue (is_name r) → Belongs t p r x (Some s) → (v : Standing) × Bound t s v x
  bound p r x s at names h = name_has r names binding reference
    where
      binding : IsTrue (is_binding r) → (v : Standing) × Bound t s v x
      binding b =
          let (z, declared, is) = h.binding b in
          let taken : taker r t p ≡ Some s = declared_taker t r p z x (no_sloppy t u g p r x at) declared ∙ sym is in
          (r, record { path = p; place = at.place; kind = at.kind; identifier = at.identifier; stands = at.stands; stands_so = at.stands_so; named = at.named; unmarked = g.clean p at.place at.kind at.identifier at.stands; taken = taken })

      reference : IsTrue (is_reference r) → (v : Standing) × Bound t s v x
      reference f =
          let (whole, there, declares) = found (DeclaresFor t x) (rounds program_place t p) s (h.reference f) in
          declares_bound t u g x (s, whole) declares

  refers : (p : Path) (r : Standing) (x : List ℕ) → IsTrue (is_name r) → Belongs t p r x None → IsTrue (is_reference r)
  refers p r x names h = name_has r names (λ b. let (s, declared, is) = h.binding b in absurd (cc)) (λ f. f)

  -- what is free has not the mark of a scope that binds its name
  never : (p : Path) (r : Standing) (x : List ℕ) → Stands t p r x → IsTrue (is_reference r) → Means t p x None → (s : Path) (v : Standing) → Bound t s v x → MarkOf None ≡ MarkOf (Some s) → ⊥
  never p r x at f means [] v b e =
      found_none (DeclaresFor t x) (rounds program_place t p) ([], true) means (in_program t u g p r x at f)
      (inl (v, settled v (no_sloppy t u g b.path v x (record { place = b.place; kind = b.kind; identifier = b.identifier; stands = b.stands; stands_so = b.stands_so; named = b.named })), b))
  never p r x at f means (i ∷ s) v b e = others_resolved t u g i s (takers_scope t u g v b.path (i ∷ s) b.taken) e

  -- names of one text whose scopes have one mark have one scope
  one_owner : (p q : Path) (r v : Standing) (x : List ℕ) (o n : Option Path) → Stands t p r x → Stands t q v x → IsTrue (is_name r) → IsTrue (is_name v)
      → Belongs t p r x o → Belongs t q v x n → MarkOf o ≡ MarkOf n → o ≡ n
  one_owner p q r v x None None a b ra vb h k e = refl
  one_owner p q r v x None (Some s) a b ra vb h k e =
      let (z, bound) = bound q v x s b vb k in
      let f = refers p r x ra h in
      absurd (never p r x a f (h.reference f) s z bound e)
  one_owner p q r v x (Some s) None a b ra vb h k e =
      let (z, bound) = bound p r x s a ra h in
      let f = refers q v x vb k in
      absurd (never q v x b f (k.reference f) s z bound (sym e))
  one_owner p q r v x (Some s) (Some m) a b ra vb h k e =
      let (y, here) = bound p r x s a ra h in
      let (z, there) = bound q v x m b vb k in
      ap (λ s. Some s) (one_mark t u g s m (takers_scope t u g y here.path s here.taken) (takers_scope t u g z there.path m there.taken) e)

  stands : (p : Path) (i : Ident) (m : NameAt t p i) → Stands t p m.0.standing i.sym
  stands p i m = record { place = m.0; kind = m.1; identifier = i; stands = m.2; stands_so = refl; named = refl }

  -- an identifier of the answer is that of the program with its new context
  answered : (p : Path) (i a : Ident) → NameAt t p i → NameAt u p a → a ≡ record i { ctxt = contexts t u g p }
  answered p i a (w, k, h, n) (v, l, e, z) =
      identifier_same l k a (record i { ctxt = contexts t u g p })
      (ap (λ (q : Place × Node). q.1) (some_same (v, Identifier l a) (w, Identifier k (record i { ctxt = contexts t u g p })) (sym e ∙ stands_there t u (contexts t u g) g.resolved.only_contexts p w k i h)))

  pub mean_their_ids : MeanTheirIds t u
  mean_their_ids p q i j a b m n x y = (forth, back)
    where
      at_p : Stands t p m.0.standing i.sym
      at_p = stands p i m

      at_q : Stands t q n.0.standing j.sym
      at_q = stands q j n

      first : a ≡ record i { ctxt = contexts t u g p }
      first = answered p i a m x

      second : b ≡ record j { ctxt = contexts t u g q }
      second = answered q j b n y

      forth : MeanOne t p q i j m n → SameId a b
      forth (text, (o, h, k)) = (
        ap (λ (i : Ident). i.sym) first ∙ text ∙ ap (λ (i : Ident). i.sym) (sym second),
        ap (λ (i : Ident). i.ctxt) first ∙ mark_of p m.0.standing i.sym o at_p m.3 h ∙ sym (mark_of q n.0.standing j.sym o at_q n.3 k) ∙ ap (λ (i : Ident). i.ctxt) (sym second),
      )

      back : SameId a b → MeanOne t p q i j m n
      back (text, context) =
          let texts : i.sym ≡ j.sym = ap (λ (i : Ident). i.sym) (sym first) ∙ text ∙ ap (λ (i : Ident). i.sym) second in
          let here = owned p m.0.standing i.sym at_p m.3 in
          let there = owned q n.0.standing j.sym at_q n.3 in
          let marks_same : MarkOf here.owner ≡ MarkOf there.owner = sym here.marked ∙ ap (λ (i : Ident). i.ctxt) (sym first) ∙ context ∙ ap (λ (i : Ident). i.ctxt) second ∙ there.marked in
          let one : here.owner ≡ there.owner
          = one_owner p q m.0.standing n.0.standing i.sym here.owner there.owner at_p (subst (Stands t q n.0.standing) (sym texts) at_q) m.3 n.3 here.belongs
          (subst (λ x. Belongs t q n.0.standing x there.owner) (sym texts) there.belongs) marks_same in
          (texts, (here.owner, here.belongs, subst (Belongs t q n.0.standing j.sym) (sym one) there.belongs))

pub resolved_names_mean_their_ids : ResolvedNamesMeanTheirIds
resolved_names_mean_their_ids goal t u unresolved top old new program fitting plain clean fair known resolved =
    mean_their_ids t u (record { unresolved = unresolved; top = top; old = old; new = new; goal = goal; program = program; fitting = fitting; plain = plain; clean = clean; fair = fair; known = known; resolved = resolved })
