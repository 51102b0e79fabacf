-- A free name of a source keeps its text.
use Rattle.std.proofs.Common.{◌≡◌, ◌⊎◌, ℕ, true, IsTrue, inl, inr, ⊎_elim, Some, None, List, refl, sym, ap, ◌∙◌, subst}
use Rattle.swc_tree_marks.specs.declared.ident.Ident.{Ident}
use Rattle.swc_tree_node.specs.declared.kind.Kind.{Kind}
use Rattle.swc_tree_node.specs.declared.node.Node.{Node, Identifier}
use Rattle.swc_tree_scoping.specs.declared.places.Standing.{Standing}
use Rattle.swc_tree_scoping.specs.declared.places.Place.{Place}
use Rattle.swc_tree_scoping.specs.Places.{Path, place_at, program_place}
use Rattle.swc_tree_scoping.specs.Scopes.{is_binding, is_reference, rounds}
use Rattle.swc_tree_scoping.specs.Readings.{by_ids, id_name}
use Rattle.swc_tree_scoping.specs.WellScoped.{EachInOneScope, IsDeclared, IsFree, Stands}
use Rattle.swc_tree_renaming.specs.Apart.{Belongs, IsPlainProgram, NameAt, SameId}
use Rattle.swc_tree_renaming.proofs.Shape.{nameless_by_ids}
use Rattle.swc_tree_renaming.proofs.Whole.{by_id, from_ids, id_name_apart, module_too, script_too, stands_by_id}
use Rattle.swc_tree_grammar.specs.Normal.{normal_form}
use Rattle.swc_tree_sites.specs.Sites.{Binding}
use Rattle.swc_tree_sites.specs.Smaller.{In, IsCopy, IsLeftOf, IsPlain}
use Rattle.swc_tree_sites.proofs.Round.{entry_of, env_is, taken_by}
use Rattle.swc_tree_sites.proofs.Transport.{OneTaker, binding_names, bound_binds, entry_from, flat_from, found, in_bound, reference_names, refers_so, region, there, up}
use Rattle.swc_tree_sites.proofs.Whole.{one_taker, one_taker_of_fewer}
use Rattle.swc_tree_sites_laws.proofs.LeftIds.{clean_ids, plain_clean, settled}
use Rattle.swc_base_alpha_laws.proofs.Equivalence.{one_there}
use Rattle.swc_ecma_transforms_base_laws.proofs.Meanings.{names_mean_their_ids, plain, refers}
use Rattle.swc_ecma_transforms_base_laws.proofs.SourceNamesSources.{Laws, Origin, same_normal}
use Rattle.swc_ecma_transforms_base_laws.proofs.Variants.{one_belonging, stood}

plain_ids : (t : Node) → IsPlainProgram t → IsPlain (by_ids t)
plain_ids t h = plain_clean (by_ids t) (⊎_elim (λ m. inl (module_too t (by_ids t) (sym (nameless_by_ids t)) m)) (λ s. inr (script_too t (by_ids t) (sym (nameless_by_ids t)) s)) h.0, settled t h) (clean_ids t)

-- ---- a name that nothing declares in what is left of a tree is free in the tree

-- a reference of a tree by a name that nothing declares
record Loose (t : Node) (x : List ℕ) : Type 0 where
  path : Path
  standing : Standing
  at : Stands t path standing x
  refers : IsTrue (is_reference standing)
  undeclared : ¬ IsDeclared t x

-- ... read by ids, is one to a free id
free_id : (t : Node) (b : Ident) → Loose (by_ids t) (id_name b) → (j : Ident) × IsFree t j × SameId j b
free_id t b g =
    let (l, j, e, is) = from_ids t g.path g.at.place g.at.kind g.at.identifier g.at.stands in
    let name : id_name j ≡ id_name b = sym (ap (λ (i : Ident). i.sym) is) ∙ g.at.named in (
      j,
      record {
        path = g.path;
        place = g.at.place;
        kind = l;
        stands = e;
        refers = subst (λ r. IsTrue (is_reference r)) (sym g.at.stands_so) g.refers;
        undeclared = subst (λ x. ¬ IsDeclared (by_ids t) x) (sym name) g.undeclared;
      },
      id_name_apart j b name,
    )

module _ (t n : Node) (plain_t : IsPlain t) (plain_n : IsPlain n) (left : IsLeftOf n t) (each : EachInOneScope t) where
  one : OneTaker n
  one = one_taker_of_fewer t n left.scopes (one_taker t plain_t each)

  declared : (x : List ℕ) (s : Path) (b : Binding) → In b (taken_by program_place n s) → b.1.sym ≡ x → IsDeclared n x
  declared x s b h named =
      let y = in_bound n plain_n s b h in
      (y.path, b.0, record { at = record { place = y.place; kind = y.kind; identifier = y.identifier; stands = y.stands; stands_so = y.stands_so; named = y.named ∙ named }; binds = bound_binds n s b.0 b.1.sym y })

  loose : (p : Path) (r : Standing) (x : List ℕ) → Stands n p r x → IsTrue (is_reference r) → ¬ IsDeclared n x → Loose t x
  loose p r x at f undeclared = ⊎_elim
      (λ z.
      let (q, v, st, counts, env) = up t n plain_t plain_n left.names one each p r x at z in
      let refers = refers_so v r counts f in
      record {
        path = q;
        standing = v;
        at = st;
        refers = refers;
        undeclared = λ d.
            let o = each x d in
            let (u, inside, b, i, named) = region t n plain_t plain_n left.names one each p q x o.scope env (o.references q v refers st) in
            undeclared (declared x u b i named);
      })
      (λ z. absurd (copied z))
      (left.names (there t n plain_t plain_n left.names one each p r x at) (found t n plain_t plain_n left.names one each p r x at (reference_names r f)))
    where
      copied : IsCopy (there t n plain_t plain_n left.names one each p r x at) → ⊥
      copied z =
          let (s, k, e) = flat_from (entry_of program_place n) (z.taken, true) (rounds program_place n p) (subst (In (z.taken, true)) (sym z.env ∙ env_is p program_place n) (inl refl)) in
          let (sets, views) = entry_from (taken_by program_place n s.0) z.taken s.1 true e in
          undeclared (declared x s.0 (z.way, z.bound) (subst (In (z.way, z.bound)) (sym sets) z.within) (z.same.0 ∙ at.named))

-- ---- a free name of a source

module _ (laws : Laws) (source program : Node) (o : Origin source program) where
  abbrev M : Node
  M = normal_form program

  -- no binding has the id of a free name
  none_bound : (p : Path) (i b : Ident) (m : NameAt (normal_form source) p i) → NameAt M p b → Belongs (normal_form source) p m.0.standing i.sym None
      → (q : Path) (w : Place) (k : Kind) (j : Ident) → place_at program_place M q ≡ Some (w, Identifier k j) → IsTrue (is_binding w.standing) → SameId b j → ⊥
  none_bound p i b m x free q w k j e binds same =
      let names = binding_names w.standing binds in
      let (l, c, f) = (same_normal laws source program o).back q w k j e in
      let (text, (s, here, owned)) = (names_mean_their_ids laws source program o p q i c b j m (w, l, f, names) x (w, k, e, names)).1 same in
      let is : s ≡ None = one_belonging (normal_form source) (plain laws source program o) p m.0.standing i.sym s None (stood (normal_form source) p i m) m.3 here free in
      let (z, d, some) = owned.binding binds in
      let never : None ≡ Some z = sym is ∙ some in
      absurd (cc)

  none_declared : (p : Path) (i b : Ident) (m : NameAt (normal_form source) p i) → NameAt M p b → Belongs (normal_form source) p m.0.standing i.sym None → ¬ IsDeclared (by_ids M) (id_name b)
  none_declared p i b m x free (q, r, d) =
      let (l, j, e, is) = from_ids M q d.at.place d.at.kind d.at.identifier d.at.stands in
      none_bound p i b m x free q d.at.place l j e (subst (λ r. IsTrue (is_binding r)) (sym d.at.stands_so) d.binds) (id_name_apart b j (sym d.at.named ∙ ap (λ (i : Ident). i.sym) is))

  -- its id is free in the program
  pub still_free : IsPlainProgram program → IsPlainProgram M → IsLeftOf (by_ids M) (by_ids program) → EachInOneScope (by_ids program)
      → (p : Path) (i b : Ident) (m : NameAt (normal_form source) p i) → NameAt M p b → Belongs (normal_form source) p m.0.standing i.sym None → (j : Ident) × IsFree program j × SameId j b
  still_free whole normal left each p i b m (w, k, h, names) free =
      let f = refers laws source program o p i m free in
      let place = one_place p i b m (w, k, h, names) in
      let at : Stands (by_ids M) p w.standing (id_name b) = record { place = w; kind = k; identifier = by_id b; stands = stands_by_id M p w k b h; stands_so = refl; named = refl } in
      free_id program b
      (loose (by_ids program) (by_ids M) (plain_ids program whole) (plain_ids M normal) left each p w.standing (id_name b) at (subst (λ (w : Place). IsTrue (is_reference w.standing)) place f) (none_declared p i b m (w, k, h, names) free))
    where
      one_place : (p : Path) (i b : Ident) (m : NameAt (normal_form source) p i) (x : NameAt M p b) → m.0 ≡ x.0
      one_place p i b (w, k, h, n) (v, l, e, z) =
          let (c, j, f) = (same_normal laws source program o).forth p w k i h in
          (one_there M p w v c l j b f e).0
