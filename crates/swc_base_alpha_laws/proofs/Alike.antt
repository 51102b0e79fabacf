-- What names stand for is told by the outline and the texts alone.
use Rattle.std.proofs.Common.{◌≡◌, Bool, true, false, ◌&&◌, IsTrue, ◌⊎◌, inl, inr, Option, Some, None, List, [], ◌∷◌, ℕ, refl, sym, ap, ◌∙◌, subst, cond}
use Rattle.swc_tree_marks.specs.declared.ident.Ident.{Ident}
use Rattle.swc_tree_node.specs.declared.kind.Kind.{Kind}
use Rattle.swc_tree_node.specs.declared.kind.Kind.TheVariants as kind
use Rattle.swc_tree_node.specs.declared.node.Node.{Node, Identifier, out-Node}
use Rattle.swc_tree_node.specs.declared.node.Node.TheOpen.{Node-F}
use Rattle.swc_tree_scoping.specs.declared.places.Standing.{Standing}
use Rattle.swc_tree_scoping.specs.declared.places.Standing.TheVariants as standing
use Rattle.swc_tree_scoping.specs.declared.places.Place.{Place}
use Rattle.swc_tree_scoping.specs.declared.places.Scope.{Scope}
use Rattle.swc_tree_scoping.specs.Places.{Path, place_at, program_place}
use Rattle.swc_tree_scoping.specs.Scopes.{Round, first_that, is_name, is_taken, rounds, scope_at, taker}
use Rattle.swc_tree_scoping.specs.Declares.{Bound, BoundAs, DeclaredBy, Declares, DeclaresFor, First, Hoisted, Hoists, Means, Meets, PassesNone, is_parameter, is_settled, stops, stops_in_block}
use Rattle.swc_tree_scoping.specs.Resolved.{is_global_value, is_script, own_meaning}
use Rattle.swc_tree_scoping.specs.WellScoped.{IsClean}
use Rattle.swc_tree_renaming.specs.Apart.{NameAt}
use Rattle.swc_tree_renaming.proofs.Whole.{script_layer}
use Rattle.swc_base_rename_laws.specs.NewNames.{outline}
use Rattle.swc_base_rename_laws.proofs.Outline.{identifiers_alike, layer, out_is, rounds_alike, scopes_alike}
use Rattle.swc_base_alpha_laws.specs.Alpha.{NamesStay, OtherTextsStay, StandForOne, StandsFor, Writes}
use Rattle.swc_base_alpha_laws.specs.Laws.{OneTextIsEnough}
use Rattle.swc_base_alpha_laws.proofs.Equivalence.{one_there}

bool_same : (b c : Bool) → (IsTrue b → IsTrue c) → (IsTrue c → IsTrue b) → b ≡ c
bool_same true c f g = sym (f refl)
bool_same false true f g = g refl
bool_same false false f g = refl

-- trees of one outline are scripts together
script_of : (ts : List Node) (u : Node) (y : Node-F Node) → out-Node u ≡ y → layer (Node-F.Tree kind.Script ts) ≡ layer y → IsTrue (is_script u)
script_of ts u (Node-F.Tree l us) o e =
    let same : kind.Script ≡ l = cc in
    let is : out-Node u ≡ Node-F.Tree kind.Script us = o ∙ ap (λ l. Node-F.Tree l us) (sym same) in
    rw is refl
script_of ts u Node-F.Absent o e = absurd (cc)
script_of ts u (Node-F.Flag x) o e = absurd (cc)
script_of ts u (Node-F.Word x) o e = absurd (cc)
script_of ts u (Node-F.Text x) o e = absurd (cc)
script_of ts u (Node-F.Span x) o e = absurd (cc)
script_of ts u (Node-F.List x) o e = absurd (cc)
script_of ts u (Node-F.Identifier k x) o e = absurd (cc)

script_there : (t u : Node) → outline t ≡ outline u → IsTrue (is_script t) → IsTrue (is_script u)
script_there t u shape s =
    let (ts, o) = script_layer t s in
    script_of ts u (out-Node u) refl (ap layer (sym o) ∙ sym (out_is t) ∙ ap out-Node shape ∙ out_is u)

-- the first tree's scopes and identifiers are those of the second
record Alike (t u : Node) : Type 0 where
  rounds_same : (p : Path) → rounds program_place t p ≡ rounds program_place u p
  scopes_same : (s : Path) → scope_at program_place t s ≡ scope_at program_place u s
  script_same : is_script t ≡ is_script u
  there : (p : Path) (w : Place) (k : Kind) (i : Ident) → place_at program_place t p ≡ Some (w, Identifier k i) → (j : Ident) × (place_at program_place u p ≡ Some (w, Identifier k j)) × (j.sym ≡ i.sym) × (j.ctxt ≡ [])

module _ (t u : Node) (a : Alike t u) where
  takers : (r : Standing) (p : Path) → taker r t p ≡ taker r u p
  takers r p =
      ap (first_that (λ z. is_taken r (scope_at program_place t z.0))) (a.rounds_same p)
      ∙ ap (λ (f : Path → Option Scope). first_that (λ z. is_taken r (f z.0)) (rounds program_place u p)) (λ i z. a.scopes_same z i)

  bound : (s : Path) (r : Standing) (x : List ℕ) → Bound t s r x → Bound u s r x
  bound s r x b =
      let (j, e, text, empty) = a.there b.path b.place b.kind b.identifier b.stands in
      record { path = b.path; place = b.place; kind = b.kind; identifier = j; stands = e; stands_so = b.stands_so; named = text ∙ b.named; unmarked = empty; taken = sym (takers r b.path) ∙ b.taken }

  bound_as : (ways : Standing → Bool) (s : Path) (x : List ℕ) → BoundAs ways t s x → BoundAs ways u s x
  bound_as ways s x (r, way, b) = (r, way, bound s r x b)

  own : (x : List ℕ) (m : Option Path) → own_meaning t x m ≡ own_meaning u x m
  own x None = refl
  own x (Some []) = ap (λ b. cond (b && is_global_value x) None (Some [])) a.script_same
  own x (Some (i ∷ p)) = refl

first_there : (P Q : Round → Type 0) → ((z : Round) → P z → Q z) → ((z : Round) → Q z → P z) → (ss : List Round) (m : Option Path) → First P ss m → First Q ss m
first_there P Q f g [] m h = h
first_there P Q f g (z ∷ zs) m (inl (here, e)) = inl (f z here, e)
first_there P Q f g (z ∷ zs) m (inr (none, rest)) = inr (λ q. none (g z q), first_there P Q f g zs m rest)

-- the second's are those of the first, too
module _ (t u : Node) (a : Alike t u) (b : Alike u t) where
  passes : (ways : Standing → Bool) (x : List ℕ) (ss : List Round) → PassesNone ways t x ss → PassesNone ways u x ss
  passes ways x [] h = h
  passes ways x (z ∷ zs) (inl taken) = inl (subst (λ o. IsTrue (is_taken standing.Variable o)) (a.scopes_same z.0) taken)
  passes ways x (z ∷ zs) (inr (none, rest)) = inr (λ w. none (bound_as u t b ways z.0 x w), passes ways x zs rest)

  hoists : (s : Path) (x : List ℕ) → Hoists t s x → Hoists u s x
  hoists s x (none, passed, reach) = (
    λ w. none (bound_as u t b stops_in_block s x w),
    passes stops x (rounds program_place u s) (subst (PassesNone stops t x) (a.rounds_same s) passed),
    λ l e w. reach l (takers t u a standing.Variable s ∙ e) (bound_as u t b stops l x w),
  )

  hoisted : (s : Path) (x : List ℕ) → Hoisted t s x → Hoisted u s x
  unfolding bound
  hoisted s x h = record {
    block = h.block;
    bound = bound t u a h.block standing.SloppyFunction x h.bound;
    hoists = hoists h.block x h.hoists;
    reaches = sym (takers t u a standing.Variable h.bound.path) ∙ h.reaches;
  }

module _ (t u : Node) (a : Alike t u) (b : Alike u t) where
  declares : (s : Path) (x : List ℕ) → Declares t s x → Declares u s x
  declares s x (inl w) = inl (bound_as t u a is_settled s x w)
  declares s x (inr (inl (w, none))) = inr (inl (bound t u a s standing.SloppyFunction x w, λ h. none (hoists u t b a s x h)))
  declares s x (inr (inr h)) = inr (inr (hoisted t u a b s x h))

  declared_by : (p : Path) (r : Standing) (x : List ℕ) (s : Path) → DeclaredBy t p r x s → DeclaredBy u p r x s
  declared_by p standing.SloppyFunction x s (c, taken, inl (h, reaches)) =
      (c, sym (takers t u a standing.SloppyFunction p) ∙ taken, inl (hoists t u a b c x h, sym (takers t u a standing.Variable p) ∙ reaches))
  declared_by p standing.SloppyFunction x s (c, taken, inr (none, is)) = (c, sym (takers t u a standing.SloppyFunction p) ∙ taken, inr (λ h. none (hoists u t b a c x h), is))
  declared_by p r x s h = sym (takers t u a r p) ∙ h

  declares_for : (x : List ℕ) (z : Round) → DeclaresFor t x z → DeclaresFor u x z
  declares_for x (s, true) h = declares s x h
  declares_for x (s, false) h = bound_as t u a is_parameter s x h

module _ (t u : Node) (a : Alike t u) (b : Alike u t) where
  means : (p : Path) (x : List ℕ) (m : Option Path) → Means t p x m → Means u p x m
  means p x m h =
      first_there (DeclaresFor t x) (DeclaresFor u x) (declares_for t u a b x) (declares_for u t b a x) (rounds program_place u p) m
      (subst (λ ss. First (DeclaresFor t x) ss m) (a.rounds_same p) h)

  abbrev Stops : Node → List ℕ → Round → Type 0
  Stops t x z = IsTrue (is_taken standing.Variable (scope_at program_place t z.0)) ⊎ Bound t z.0 standing.CatchParameter x

  stops_there : (t u : Node) (a : Alike t u) (x : List ℕ) (z : Round) → Stops t x z → Stops u x z
  stops_there t u a x z (inl taken) = inl (subst (λ o. IsTrue (is_taken standing.Variable o)) (a.scopes_same z.0) taken)
  stops_there t u a x z (inr w) = inr (bound t u a z.0 standing.CatchParameter x w)

  meets : (p : Path) (x : List ℕ) (m : Option Path) → Meets t p x m → Meets u p x m
  meets p x m h =
      first_there (Stops t x) (Stops u x) (stops_there t u a x) (stops_there u t b x) (rounds program_place u p) m
      (subst (λ ss. First (Stops t x) ss m) (a.rounds_same p) h)

  stands : (p : Path) (r : Standing) (x : List ℕ) (o : Option Path) → StandsFor t p r x o → StandsFor u p r x o
  stands p r x o h = record {
    binding = λ f. let (s, d, e) = h.binding f in (s, declared_by t u a b p r x s d, e);
    reference = λ f. let (m, known, e) = h.reference f in (m, means p x m known, e ∙ own t u a x m);
  }

-- trees of one outline, with one text for each identifier
record OneText (t u : Node) : Type 0 where
  shape : outline t ≡ outline u
  others : OtherTextsStay t u
  names : NamesStay t u
  clean : IsClean t
  clean_too : IsClean u

module _ (t u : Node) (o : OneText t u) where
  -- an identifier of the one is one of the other, in the same place
  beside : (p : Path) (w v : Place) (k l : Kind) (i j : Ident) → place_at program_place t p ≡ Some (w, Identifier k i) → place_at program_place u p ≡ Some (v, Identifier l j) → w ≡ v
  beside p w v k l i j h g = let (b, e) = identifiers_alike t u o.shape p program_place w k i h in (one_there u p w v k l b j e g).0

  text : (p : Path) (w v : Place) (k l : Kind) (i j : Ident) → place_at program_place t p ≡ Some (w, Identifier k i) → place_at program_place u p ≡ Some (v, Identifier l j) → i.sym ≡ j.sym
  text p w v k l i j h g = by (is_name w.standing) refl
    where
      by : (b : Bool) → is_name w.standing ≡ b → i.sym ≡ j.sym
      by true e = o.names p i j (w, k, h, e) (v, l, g, ap (λ (w : Place). is_name w.standing) (sym (beside p w v k l i j h g)) ∙ e)
      by false e = o.others p w v k l i j h g (λ n. let wrong : true ≡ false = sym n ∙ e in absurd (cc))

  turned : OneText u t
  turned = record {
    shape = sym o.shape;
    others = λ p w v k l i j h g n. sym (text p v w l k j i g h);
    names = λ p i j (w, k, h, n) (v, l, g, m). sym (text p v w l k j i g h);
    clean = o.clean_too;
    clean_too = o.clean;
  }

  alike : Alike t u
  alike = record {
    rounds_same = rounds_alike t u o.shape program_place;
    scopes_same = scopes_alike t u o.shape program_place;
    script_same = bool_same (is_script t) (is_script u) (script_there t u o.shape) (script_there u t (sym o.shape));
    there = λ p w k i h.
        let (j, e) = identifiers_alike t u o.shape p program_place w k i h in
        (j, e, sym (text p w w k k i j h e), o.clean_too p w k j e);
  }

module _ (t u : Node) (o : OneText t u) where
  back : Alike u t
  back = alike u t (turned t u o)

  -- what is said of a name of the one is said of that of the other
  stands_there : (p : Path) (i a : Ident) (m : NameAt t p i) (x : NameAt u p a) (n : Option Path) → StandsFor t p m.0.standing i.sym n → StandsFor u p x.0.standing a.sym n
  stands_there p i a m x n h =
      subst (λ y. StandsFor u p x.0.standing y n) (o.names p i a m x)
      (subst (λ (w : Place). StandsFor u p w.standing i.sym n) (beside t u o p m.0 x.0 m.1 x.1 i a m.2 x.2) (stands t u (alike t u o) back p m.0.standing i.sym n h))

  one_there_too : (p q : Path) (i j a b : Ident) (m : NameAt t p i) (n : NameAt t q j) (x : NameAt u p a) (y : NameAt u q b) → StandForOne t p q i j m n → StandForOne u p q a b x y
  one_there_too p q i j a b m n x y (same, (s, h, k)) =
      (sym (o.names p i a m x) ∙ same ∙ o.names q j b n y, (s, stands_there p i a m x s h, stands_there q j b n y s k))

  writes_there : (p : Path) (i a : Ident) (m : NameAt t p i) (x : NameAt u p a) (n : Option Path) → Writes t p i m n → Writes u p a x n
  writes_there p i a m x n (is, meeting) = (
    ap (λ (w : Place). w.standing) (sym (beside t u o p m.0 x.0 m.1 x.1 i a m.2 x.2)) ∙ is,
    subst (λ y. Meets u p y n) (o.names p i a m x) (meets t u (alike t u o) back p i.sym n meeting),
  )

pub one_text_is_enough : OneTextIsEnough
one_text_is_enough t u clean clean_too shape others names = record {
  shape = shape;
  others = others;
  free = λ p i a m x. ((stands_there t u o p i a m x None, stands_there u t (turned t u o) p a i x m None), λ f. names p i a m x);
  meanings = λ p q i j a b m n x y. (one_there_too t u o p q i j a b m n x y, one_there_too u t (turned t u o) p q a b i j x y m n);
  writes = λ p i a m x n. (writes_there t u o p i a m x n, writes_there u t (turned t u o) p a i x m n);
}
  where
    o : OneText t u
    o = record { shape = shape; others = others; names = names; clean = clean; clean_too = clean_too }
