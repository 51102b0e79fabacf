-- The ids that resolvers find in two programs tell whether they are one but for names.
use Rattle.std.proofs.Common.{◌≡◌, IsTrue, Option, Some, None, [], ◌∷◌, refl, sym, ap, ◌∙◌, subst, ◌↔◌}
use Rattle.swc_tree_marks.specs.declared.ident.Ident.{Ident}
use Rattle.swc_tree_node.specs.declared.kind.Kind.{Kind}
use Rattle.swc_tree_node.specs.declared.node.Node.{Node, Identifier}
use Rattle.swc_tree_scoping.specs.declared.places.Standing.{Standing}
use Rattle.swc_tree_scoping.specs.declared.places.Standing.TheVariants as standing
use Rattle.swc_tree_scoping.specs.declared.places.Place.{Place}
use Rattle.swc_tree_scoping.specs.declared.places.Scope.{Scope}
use Rattle.swc_tree_scoping.specs.Places.{Path, place_at, program_place}
use Rattle.swc_tree_scoping.specs.Scopes.{IsScope, first_that, is_name, is_taken, rounds, scope_at, variable_scope}
use Rattle.swc_tree_scoping.specs.WellScoped.{NoCaughtVariable, Stands}
use Rattle.swc_tree_renaming.specs.Apart.{NameAt, nameless}
use Rattle.swc_tree_renaming.proofs.Shape.{nameless_remarked, same_scopes}
use Rattle.swc_tree_renaming.proofs.Whole.{stands_there}
use Rattle.swc_base_rename_laws.specs.NewNames.{outline}
use Rattle.swc_base_rename_laws.proofs.Outline.{identifiers_alike, rounds_alike, scopes_alike}
use Rattle.swc_base_alpha_laws.specs.Alpha.{Beside, HasFreeId, IdsCorrespond, IsFreeThere, AlphaVariants, StandsFor, Writes}
use Rattle.swc_base_alpha_laws.specs.Laws.{IdsDecide}
use Rattle.swc_base_alpha_laws.proofs.Equivalence.{one_there}
use Rattle.swc_base_alpha_laws.proofs.Ids.{Marked, Resolver, first_meets, mark, marked, meets_first, one_mark, one_stood_for, scope_of, stand_for_ids, stands_for}

-- a program and its answer
module _ (t u : Node) (g : Resolver t u) where
  -- an identifier of the answer is that of the program, with a context
  pub came_from : (p : Path) (w : Place) (k : Kind) (a : Ident) → place_at program_place u p ≡ Some (w, Identifier k a) → (i : Ident) × (l : Kind) × (place_at program_place t p ≡ Some (w, Identifier l i)) × (a.sym ≡ i.sym)
  came_from p w k a h =
      let (l, i, e) = (same_scopes t u (sym (nameless_remarked g.resolved.contexts t) ∙ ap nameless (sym g.resolved.only_contexts))).back p w k a h in
      (i, l, e, ap (λ (i : Ident). i.sym) (sym (one_there u p w w l k (record i { ctxt = g.resolved.contexts p }) a (stands_there t u g.resolved.contexts g.resolved.only_contexts p w l i e) h).1))

  pub came : (p : Path) (w : Place) (k : Kind) (i : Ident) → place_at program_place t p ≡ Some (w, Identifier k i) → (a : Ident) × (place_at program_place u p ≡ Some (w, Identifier k a)) × (a.sym ≡ i.sym)
  came p w k i h = (record i { ctxt = g.resolved.contexts p }, stands_there t u g.resolved.contexts g.resolved.only_contexts p w k i h, refl)

  module _ (uncaught : NoCaughtVariable t) where
    at : (p : Path) (i : Ident) (m : NameAt t p i) → Stands t p m.0.standing i.sym
    at p i m = record { place = m.0; kind = m.1; identifier = i; stands = m.2; stands_so = refl; named = refl }

    -- a name is free exactly if it got the mark of free names
    pub free_id : (p : Path) (i a : Ident) (m : NameAt t p i) → NameAt u p a → IsFreeThere t p i m ↔ HasFreeId g.unresolved a
    free_id p i a m x = (forth, back)
      where
        here : Marked t u g p m.0.standing i a
        here = marked t u g p i a m x

        stood : StandsFor t p m.0.standing i.sym here.owner
        stood = stands_for t uncaught p m.0.standing i.sym here.owner (at p i m) here.given

        forth : IsFreeThere t p i m → HasFreeId g.unresolved a
        forth f = here.context ∙ ap (mark t u g) (one_stood_for t p m.0.standing i.sym here.owner None m.3 stood f)

        back : HasFreeId g.unresolved a → IsFreeThere t p i m
        back e =
            subst (StandsFor t p m.0.standing i.sym)
            (one_mark t u g here.owner None (scope_of t u g p m.0.standing i.sym here.owner m.3 here.given) (λ s e. absurd (cc)) (sym here.context ∙ e)) stood

    -- ... and stands for what the program's own scope declares exactly if it got the top mark
    pub top_id : IsScope t [] → (p : Path) (i a : Ident) (m : NameAt t p i) → NameAt u p a → StandsFor t p m.0.standing i.sym (Some []) ↔ (a.ctxt ≡ g.top ∷ [])
    top_id opens p i a m x = (forth, back)
      where
        here : Marked t u g p m.0.standing i a
        here = marked t u g p i a m x

        stood : StandsFor t p m.0.standing i.sym here.owner
        stood = stands_for t uncaught p m.0.standing i.sym here.owner (at p i m) here.given

        top : mark t u g (Some []) ≡ g.top ∷ []
        top = ap (λ n. n ∷ []) g.resolved.program

        own : (s : Path) → Some [] ≡ Some s → IsScope t s
        own s e = let same : [] ≡ s = cc in subst (IsScope t) same opens

        forth : StandsFor t p m.0.standing i.sym (Some []) → a.ctxt ≡ g.top ∷ []
        forth f = here.context ∙ ap (mark t u g) (one_stood_for t p m.0.standing i.sym here.owner (Some []) m.3 stood f) ∙ top

        back : a.ctxt ≡ g.top ∷ [] → StandsFor t p m.0.standing i.sym (Some [])
        back e =
            subst (StandsFor t p m.0.standing i.sym)
            (one_mark t u g here.owner (Some []) (scope_of t u g p m.0.standing i.sym here.owner m.3 here.given) own (sym here.context ∙ e ∙ sym top)) stood

-- two programs of one outline
module _ (t s : Node) (shape : outline t ≡ outline s) (uncaught : NoCaughtVariable t) (uncaught_too : NoCaughtVariable s) where
  scopes_same : (p : Path) → variable_scope t p ≡ variable_scope s p
  scopes_same p =
      ap (first_that (λ z. is_taken standing.Variable (scope_at program_place t z.0))) (rounds_alike t s shape program_place p)
      ∙ ap (λ (f : Path → Option Scope). first_that (λ z. is_taken standing.Variable (f z.0)) (rounds program_place s p)) (λ i z. scopes_alike t s shape program_place z i)

  pub writes_there : (p : Path) (i a : Ident) (m : NameAt t p i) (x : NameAt s p a) (o : Option Path) → Writes t p i m o → Writes s p a x o
  writes_there p i a (w, k, h, n) (v, l, e, z) o (is, meets) =
      let (b, y) = identifiers_alike t s shape p program_place w k i h in
      let place : w ≡ v = (one_there s p w v k l b a y e).0 in
      let stands : v.standing ≡ standing.Variable = ap (λ (w : Place). w.standing) (sym place) ∙ is in
      let here : Stands t p standing.Variable i.sym = record { place = w; kind = k; identifier = i; stands = h; stands_so = is; named = refl } in
      let there : Stands s p standing.Variable a.sym = record { place = v; kind = l; identifier = a; stands = e; stands_so = stands; named = refl } in
      (stands, first_meets s a.sym (rounds program_place s p) o (uncaught_too p a.sym there) (meets_first t i.sym (rounds program_place t p) o (uncaught p i.sym here) meets ∙ scopes_same p))

module _ (t s u v : Node) (g : Resolver t u) (z : Resolver s v) where
  -- what stands beside one another in the answers stands so in the programs
  pub record Both (p : Path) (w : Place) (a b : Ident) : Type 0 where
    pub first : Ident
    pub second : Ident
    pub kind : Kind
    pub its_kind : Kind
    pub stands : place_at program_place t p ≡ Some (w, Identifier kind first)
    pub stands_there : place_at program_place s p ≡ Some (w, Identifier its_kind second)
    pub text : a.sym ≡ first.sym
    pub its_text : b.sym ≡ second.sym

  -- a place of one is that of the other
  pub both : outline t ≡ outline s → (r : Standing) (a b : Ident) (d : Beside u v r a b) → Both d.path d.place a b
  both shape r a b d =
      let (i, k, h, text) = came_from t u g d.path d.place d.kind a d.stands in
      let (j, l, e, its_text) = came_from s v z d.path d.other d.its_kind b d.stands_there in
      let (c, y) = identifiers_alike t s shape d.path program_place d.place k i h in
      let place : d.other ≡ d.place = sym (one_there s d.path d.place d.other k l c j y e).0 in
      record { first = i; second = j; kind = k; its_kind = l; stands = h; stands_there = subst (λ (w : Place). place_at program_place s d.path ≡ Some (w, Identifier l j)) place e; text = text; its_text = its_text }

module _ (t s u v : Node) (g : Resolver t u) (z : Resolver s v) (uncaught : NoCaughtVariable t) (uncaught_too : NoCaughtVariable s) where
  abbrev Ids : Type 0
  Ids = IdsCorrespond g.unresolved z.unresolved u v

  forth : AlphaVariants t s → (outline t ≡ outline s) × Ids
  forth same = (
    same.shape,
    record {
      others = λ r a b d n.
          let x = both t s u v g z same.shape r a b d in
          x.text ∙ same.others d.path d.place d.place x.kind x.its_kind x.first x.second x.stands x.stands_there (subst (λ r. ¬ IsTrue (is_name r)) (sym d.stands_so) n) ∙ sym x.its_text;
      free_both = λ r a b d n.
          let x = both t s u v g z same.shape r a b d in
          let here = free_id t u g uncaught d.path x.first a (name_in r a b d x n) (name_of r a b d n) in
          let there = free_id s v z uncaught_too d.path x.second b (name_there r a b d x n) (name_by r a b d x n) in
          let stays = (same.free d.path x.first x.second (name_in r a b d x n) (name_there r a b d x n)).0 in
          (λ f. there.0 (stays.0 (here.1 f)), λ f. here.0 (stays.1 (there.1 f)));
      free_stays = λ r a b d n f.
          let x = both t s u v g z same.shape r a b d in
          let here = free_id t u g uncaught d.path x.first a (name_in r a b d x n) (name_of r a b d n) in
          x.text ∙ (same.free d.path x.first x.second (name_in r a b d x n) (name_there r a b d x n)).1 (here.1 f) ∙ sym x.its_text;
      one_to_one = λ r q a b c e d n k l.
          let x = both t s u v g z same.shape r a b d in
          let y = both t s u v g z same.shape q c e k in
          let here = stand_for_ids t u g uncaught d.path k.path x.first y.first a c (name_in r a b d x n) (name_in q c e k y l) (name_of r a b d n) (name_of q c e k l) in
          let there = stand_for_ids s v z uncaught_too d.path k.path x.second y.second b e (name_there r a b d x n) (name_there q c e k y l) (name_by r a b d x n) (name_by q c e k y l) in
          let stays = same.meanings d.path k.path x.first y.first x.second y.second (name_in r a b d x n) (name_in q c e k y l) (name_there r a b d x n) (name_there q c e k y l) in
          (λ f. there.0 (stays.0 (here.1 f)), λ f. here.0 (stays.1 (there.1 f)));
    },
  )
    where
      is_one : (r : Standing) (a b : Ident) (d : Beside u v r a b) → IsTrue (is_name r) → IsTrue (is_name d.place.standing)
      is_one r a b d n = subst (λ r. IsTrue (is_name r)) (sym d.stands_so) n

      name_of : (r : Standing) (a b : Ident) (d : Beside u v r a b) → IsTrue (is_name r) → NameAt u d.path a
      name_of r a b d n = (d.place, d.kind, d.stands, is_one r a b d n)

      name_in : (r : Standing) (a b : Ident) (d : Beside u v r a b) (x : Both t s u v g z d.path d.place a b) → IsTrue (is_name r) → NameAt t d.path x.first
      name_in r a b d x n = (d.place, x.kind, x.stands, is_one r a b d n)

      name_there : (r : Standing) (a b : Ident) (d : Beside u v r a b) (x : Both t s u v g z d.path d.place a b) → IsTrue (is_name r) → NameAt s d.path x.second
      name_there r a b d x n = (d.place, x.its_kind, x.stands_there, is_one r a b d n)

      name_by : (r : Standing) (a b : Ident) (d : Beside u v r a b) (x : Both t s u v g z d.path d.place a b) → IsTrue (is_name r) → NameAt v d.path b
      name_by r a b d x n =
          let (c, e, text) = came s v z d.path d.place x.its_kind x.second x.stands_there in
          let place : d.place ≡ d.other = (one_there v d.path d.place d.other x.its_kind d.its_kind c b e d.stands_there).0 in
          (d.other, d.its_kind, d.stands_there, subst (λ (w : Place). IsTrue (is_name w.standing)) place (is_one r a b d n))

  -- the other way round: a name of the programs is one of the answers
  back : (outline t ≡ outline s) × Ids → AlphaVariants t s
  back (shape, ids) = record {
    shape = shape;
    others = λ p w y k l i j h e n.
        let (a, f, text) = came t u g p w k i h in
        let (b, d, its_text) = came s v z p y l j e in
        sym text ∙ ids.others w.standing a b (record { path = p; place = w; kind = k; other = y; its_kind = l; stands = f; stands_there = d; stands_so = refl }) n ∙ its_text;
    free = λ p i j m x.
        let (a, f, text) = came t u g p m.0 m.1 i m.2 in
        let (b, d, its_text) = came s v z p x.0 x.1 j x.2 in
        let here = free_id t u g uncaught p i a m (m.0, m.1, f, m.3) in
        let there = free_id s v z uncaught_too p j b x (x.0, x.1, d, x.3) in
        let beside : Beside u v m.0.standing a b = record { path = p; place = m.0; kind = m.1; other = x.0; its_kind = x.1; stands = f; stands_there = d; stands_so = refl } in
        let free = ids.free_both m.0.standing a b beside m.3 in (
          (λ f. there.1 (free.0 (here.0 f)), λ f. here.1 (free.1 (there.0 f))),
          λ f. sym text ∙ ids.free_stays m.0.standing a b beside m.3 (here.0 f) ∙ its_text,
        );
    meanings = λ p q i j c e m n x y.
        let (a, f, text) = came t u g p m.0 m.1 i m.2 in
        let (b, d, its_text) = came s v z p x.0 x.1 c x.2 in
        let (k, h, other) = came t u g q n.0 n.1 j n.2 in
        let (l, o, its_other) = came s v z q y.0 y.1 e y.2 in
        let here = stand_for_ids t u g uncaught p q i j a k m n (m.0, m.1, f, m.3) (n.0, n.1, h, n.3) in
        let there = stand_for_ids s v z uncaught_too p q c e b l x y (x.0, x.1, d, x.3) (y.0, y.1, o, y.3) in
        let first : Beside u v m.0.standing a b = record { path = p; place = m.0; kind = m.1; other = x.0; its_kind = x.1; stands = f; stands_there = d; stands_so = refl } in
        let second : Beside u v n.0.standing k l = record { path = q; place = n.0; kind = n.1; other = y.0; its_kind = y.1; stands = h; stands_there = o; stands_so = refl } in
        let one = ids.one_to_one m.0.standing n.0.standing a b k l first m.3 second n.3 in
        (λ f. there.1 (one.0 (here.0 f)), λ f. here.1 (one.1 (there.0 f)));
    writes = λ p i a m x o. (writes_there t s shape uncaught uncaught_too p i a m x o, writes_there s t (sym shape) uncaught_too uncaught p a i x m o);
  }

pub ids_decide : IdsDecide
ids_decide t s u v unresolved top free whole old new before after clean clean_too uncaught uncaught_too known apart resolved known_too apart_too resolved_too = (forth t s u v g z uncaught uncaught_too, back t s u v g z uncaught uncaught_too)
  where
    g : Resolver t u
    g = record { unresolved = unresolved; top = top; old = old; new = new; clean = clean; known = known; apart = apart; resolved = resolved }

    z : Resolver s v
    z = record { unresolved = free; top = whole; old = before; new = after; clean = clean_too; known = known_too; apart = apart_too; resolved = resolved_too }
