-- Two trees of one outline whose names mean the ids of a third are one but for names, where what is free keeps its text.
use Rattle.std.proofs.Common.{◌≡◌, ◌≢◌, ◌↔◌, ℕ, IsTrue, Option, Some, None, List, [], ◌∷◌, inl, inr, refl, sym, ap, ◌∙◌, subst}
use Rattle.swc_tree_marks.specs.declared.ident.Ident.{Ident}
use Rattle.swc_tree_node.specs.declared.node.Node.{Node}
use Rattle.swc_tree_scoping.specs.declared.places.Standing.{Standing}
use Rattle.swc_tree_scoping.specs.declared.places.Standing.TheVariants as standing
use Rattle.swc_tree_scoping.specs.Places.{Path, program_place}
use Rattle.swc_tree_scoping.specs.Scopes.{Round, is_binding, is_name, is_reference, rounds, taker}
use Rattle.swc_tree_scoping.specs.Declares.{Bound, DeclaresFor, First, Means}
use Rattle.swc_tree_scoping.specs.WellScoped.{NoCaughtVariable, Stands}
use Rattle.swc_tree_renaming.specs.Apart.{Belongs, MeanOne, MeanTheirIds, MeansNoGlobalValue, NameAt, SameScopes}
use Rattle.swc_tree_renaming.proofs.Core.{binds_or_refers, declared_taker, name_has, own_meaning_is, taker_declares}
use Rattle.swc_tree_sites.specs.Smaller.{IsPlain}
use Rattle.swc_tree_sites.proofs.Transport.{binding_names, bound_binds, declares_way, not_sloppy}
use Rattle.swc_tree_sites_laws.proofs.Decided.{belongs_somewhere}
use Rattle.swc_base_resolver_laws.proofs.Lists.{found}
use Rattle.swc_base_rename_laws.specs.NewNames.{outline}
use Rattle.swc_base_rename_laws.proofs.Outline.{identifiers_alike}
use Rattle.swc_base_alpha_laws.specs.Alpha.{AlphaVariants, IsFreeThere, OtherTextsStay, StandForOne, StandsFor}
use Rattle.swc_base_alpha_laws.proofs.Decided.{writes_there}

-- there is one first
first_one : (P : Round → Type 0) (ss : List Round) (m n : Option Path) → First P ss m → First P ss n → m ≡ n
first_one P [] m n f g = f ∙ sym g
first_one P (s ∷ ss) m n (inl (h, e)) (inl (k, z)) = e ∙ sym z
first_one P (s ∷ ss) m n (inl (h, e)) (inr (none, g)) = absurd (none h)
first_one P (s ∷ ss) m n (inr (none, f)) (inl (k, z)) = absurd (none k)
first_one P (s ∷ ss) m n (inr (none, f)) (inr (nor, g)) = first_one P ss m n f g

-- a name, as it stands there
pub stood : (t : Node) (p : Path) (i : Ident) (m : NameAt t p i) → Stands t p m.0.standing i.sym
stood t p i m = record { place = m.0; kind = m.1; identifier = i; stands = m.2; stands_so = refl; named = refl }

module _ (t : Node) (plain : IsPlain t) where
  -- a name belongs to one scope, or to none
  pub one_belonging : (p : Path) (r : Standing) (x : List ℕ) (o n : Option Path) → Stands t p r x → IsTrue (is_name r) → Belongs t p r x o → Belongs t p r x n → o ≡ n
  one_belonging p r x o n at names h k = name_has r names binding reference
    where
      binding : IsTrue (is_binding r) → o ≡ n
      binding b =
          let (s, d, e) = h.binding b in
          let (l, f, z) = k.binding b in
          let settled : r ≢ standing.SloppyFunction = not_sloppy t plain p r x at in
          e ∙ sym (declared_taker t r p s x settled d) ∙ declared_taker t r p l x settled f ∙ sym z

      reference : IsTrue (is_reference r) → o ≡ n
      reference f = first_one (DeclaresFor t x) (rounds program_place t p) o n (h.reference f) (k.reference f)

  -- the scope that a name belongs to binds it
  pub binder : (p : Path) (r : Standing) (x : List ℕ) (s : Path) → Stands t p r x → IsTrue (is_name r) → Belongs t p r x (Some s) → (v : Standing) × Bound t s v x
  binder p r x s at names h = name_has r names binding reference
    where
      binding : IsTrue (is_binding r) → (v : Standing) × Bound t s v x
      binding b =
          let (z, d, is) = h.binding b in
          let taken : taker r t p ≡ Some s = declared_taker t r p z x (not_sloppy t plain p r x at) d ∙ sym is in
          (r, record { path = p; place = at.place; kind = at.kind; identifier = at.identifier; stands = at.stands; stands_so = at.stands_so; named = at.named; unmarked = plain.unmarked p at.place at.kind at.identifier at.stands; taken = taken })

      reference : IsTrue (is_reference r) → (v : Standing) × Bound t s v x
      reference f =
          let (whole, there, declares) = found (DeclaresFor t x) (rounds program_place t p) s (h.reference f) in
          let (v, b, way) = declares_way t plain x (s, whole) declares in
          (v, b)

  -- and what is bound belongs to it
  pub bound_belongs : (s : Path) (v : Standing) (x : List ℕ) (b : Bound t s v x) → Belongs t b.path b.place.standing b.identifier.sym (Some s)
  bound_belongs s v x b =
      let taken : taker b.place.standing t b.path ≡ Some s = ap (λ r. taker r t b.path) b.stands_so ∙ b.taken in
      let declared = taker_declares t b.place.standing b.path s b.identifier.sym (plain.settled b.path b.place b.kind b.identifier b.stands) taken in
      let binds : IsTrue (is_binding b.place.standing) = ap is_binding b.stands_so ∙ bound_binds t s v x b in
      record { binding = λ c. (s, declared, refl); reference = λ f. absurd (binds_or_refers b.place.standing binds f) }

-- a name that is free in a tree is free in another of its outline in which names mean one thing exactly then
module _ (t u : Node) (plain_t : IsPlain t) (plain_u : IsPlain u) (shape : outline t ≡ outline u)
    (same : (p q : Path) (i j a b : Ident) (m : NameAt t p i) (n : NameAt t q j) (x : NameAt u p a) (y : NameAt u q b) → MeanOne t p q i j m n ↔ MeanOne u p q a b x y) where
  bound_there : (p : Path) (i a : Ident) (m : NameAt t p i) (x : NameAt u p a) → Belongs t p m.0.standing i.sym None → (s : Path) → Belongs u p x.0.standing a.sym (Some s) → (v : Standing) → Bound u s v a.sym → ⊥
  bound_there p i a m x free s owned v b =
      let binds : IsTrue (is_binding b.place.standing) = ap is_binding b.stands_so ∙ bound_binds u s v a.sym b in
      let names = binding_names b.place.standing binds in
      let (c, e) = identifiers_alike u t (sym shape) b.path program_place b.place b.kind b.identifier b.stands in
      let (text, (o, here, there)) = (same p b.path i c a b.identifier m (b.place, b.kind, e, names) x (b.place, b.kind, b.stands, names)).1 (sym b.named, (Some s, owned, bound_belongs u plain_u s v a.sym b)) in
      let is : o ≡ None = one_belonging t plain_t p m.0.standing i.sym o None (stood t p i m) m.3 here free in
      let (z, d, some) = there.binding binds in
      let never : None ≡ Some z = sym is ∙ some in
      absurd (cc)

  pub stays_free : (p : Path) (i a : Ident) (m : NameAt t p i) (x : NameAt u p a) → Belongs t p m.0.standing i.sym None → Belongs u p x.0.standing a.sym None
  stays_free p i a m x free = by (belongs_somewhere u plain_u p x.0.standing a.sym (stood u p a x) x.3)
    where
      by : (o : Option Path) × Belongs u p x.0.standing a.sym o → Belongs u p x.0.standing a.sym None
      by (None, h) = h
      by (Some s, h) = let (v, b) = binder u plain_u p x.0.standing a.sym s (stood u p a x) x.3 h in absurd (bound_there p i a m x free s h v b)

module _ (t : Node) (none : MeansNoGlobalValue t) where
  -- where no reference means the program by the name of a global value, a name stands for what it belongs to
  pub belongs : (p : Path) (r : Standing) (x : List ℕ) (o : Option Path) → Stands t p r x → StandsFor t p r x o → Belongs t p r x o
  belongs p r x o at h = record {
    binding = h.binding;
    reference = λ f. let (m, means, e) = h.reference f in subst (Means t p x) (sym (e ∙ own_meaning_is t none p r x at f m means)) means;
  }

  pub stands_for : (p : Path) (r : Standing) (x : List ℕ) (o : Option Path) → Stands t p r x → Belongs t p r x o → StandsFor t p r x o
  stands_for p r x o at h = record { binding = h.binding; reference = λ f. let means = h.reference f in (o, means, sym (own_meaning_is t none p r x at f o means)) }

  stand_then : (p q : Path) (i j : Ident) (m : NameAt t p i) (n : NameAt t q j) → MeanOne t p q i j m n → StandForOne t p q i j m n
  stand_then p q i j m n (text, (o, h, k)) = (text, (o, stands_for p m.0.standing i.sym o (stood t p i m) h, stands_for q n.0.standing j.sym o (stood t q j n) k))

  mean_then : (p q : Path) (i j : Ident) (m : NameAt t p i) (n : NameAt t q j) → StandForOne t p q i j m n → MeanOne t p q i j m n
  mean_then p q i j m n (text, (o, h, k)) = (text, (o, belongs p m.0.standing i.sym o (stood t p i m) h, belongs q n.0.standing j.sym o (stood t q j n) k))

  pub stand_as_they_mean : (p q : Path) (i j : Ident) (m : NameAt t p i) (n : NameAt t q j) → StandForOne t p q i j m n ↔ MeanOne t p q i j m n
  stand_as_they_mean p q i j m n = (mean_then p q i j m n, stand_then p q i j m n)

-- a tree of which no variable is caught, whose names mean the ids of another one
pub record Reads (t ids : Node) : Type 0 where
  pub plain : IsPlain t
  pub same : SameScopes t ids
  pub means : MeanTheirIds t ids
  pub no_global : MeansNoGlobalValue t
  pub uncaught : NoCaughtVariable t

abbrev pub FreeTextsStay : Node → Node → Type 0
FreeTextsStay t u = (p : Path) (i a : Ident) (m : NameAt t p i) → NameAt u p a → Belongs t p m.0.standing i.sym None → i.sym ≡ a.sym

module _ (t u ids : Node) (first : Reads t ids) (second : Reads u ids) (shape : outline t ≡ outline u) (others : OtherTextsStay t u) (texts : FreeTextsStay t u) where
  one_meaning : (p q : Path) (i j a b : Ident) (m : NameAt t p i) (n : NameAt t q j) (x : NameAt u p a) (y : NameAt u q b) → MeanOne t p q i j m n ↔ MeanOne u p q a b x y
  one_meaning p q i j a b m n x y =
      let (k, c, e) = first.same.forth p m.0 m.1 i m.2 in
      let (l, d, f) = first.same.forth q n.0 n.1 j n.2 in
      let one = first.means p q i j c d m n (m.0, k, e, m.3) (n.0, l, f, n.3) in
      let two = second.means p q a b c d x y (m.0, k, e, m.3) (n.0, l, f, n.3) in
      ((λ h. two.1 (one.0 h)), (λ h. one.1 (two.0 h)))

  other_meaning : (p q : Path) (i j a b : Ident) (m : NameAt u p i) (n : NameAt u q j) (x : NameAt t p a) (y : NameAt t q b) → MeanOne u p q i j m n ↔ MeanOne t p q a b x y
  other_meaning p q i j a b m n x y = let (forth, back) = one_meaning p q a b i j x y m n in (back, forth)

  free_forth : (p : Path) (i a : Ident) (m : NameAt t p i) (x : NameAt u p a) → IsFreeThere t p i m → IsFreeThere u p a x
  free_forth p i a m x f =
      stands_for u second.no_global p x.0.standing a.sym None (stood u p a x)
      (stays_free t u first.plain second.plain shape one_meaning p i a m x (belongs t first.no_global p m.0.standing i.sym None (stood t p i m) f))

  free_back : (p : Path) (i a : Ident) (m : NameAt t p i) (x : NameAt u p a) → IsFreeThere u p a x → IsFreeThere t p i m
  free_back p i a m x f =
      stands_for t first.no_global p m.0.standing i.sym None (stood t p i m)
      (stays_free u t second.plain first.plain (sym shape) other_meaning p a i x m (belongs u second.no_global p x.0.standing a.sym None (stood u p a x) f))

  pub variants : AlphaVariants t u
  variants = record {
    shape = shape;
    others = others;
    free = λ p i a m x. ((free_forth p i a m x, free_back p i a m x), (λ f. texts p i a m x (belongs t first.no_global p m.0.standing i.sym None (stood t p i m) f)));
    meanings = λ p q i j a b m n x y.
        let one = stand_as_they_mean t first.no_global p q i j m n in
        let two = stand_as_they_mean u second.no_global p q a b x y in
        let same = one_meaning p q i j a b m n x y in
        ((λ f. two.1 (same.0 (one.0 f))), (λ f. one.1 (same.1 (two.0 f))));
    writes = λ p i a m x o. (writes_there t u shape first.uncaught second.uncaught p i a m x o, writes_there u t (sym shape) second.uncaught first.uncaught p a i x m o);
  }
