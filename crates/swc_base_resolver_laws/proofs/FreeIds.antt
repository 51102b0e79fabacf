-- Free ids have the unresolved mark.
use Rattle.std.proofs.Common.{◌≡◌, ℕ, Option, Some, None, List, [], ◌∷◌, refl, sym, ap, ◌∙◌, subst}
use Rattle.std.specs.Option.{option_map}
use Rattle.swc_tree_marks.specs.declared.ident.Ident.{Ident}
use Rattle.swc_tree_node.specs.declared.kind.Kind.{Kind}
use Rattle.swc_tree_node.specs.declared.node.Node.{Node, Identifier}
use Rattle.swc_tree_node.specs.declared.node.Node.TheVariants.{outs-Identifier}
use Rattle.swc_tree_scoping.specs.declared.places.Place.{Place}
use Rattle.swc_tree_scoping.specs.Places.{Path, program_place}
use Rattle.swc_tree_scoping.specs.Scopes.{rounds}
use Rattle.swc_tree_scoping.specs.Declares.{DeclaresFor, Means}
use Rattle.swc_tree_scoping.specs.Readings.{by_ids, id_name}
use Rattle.swc_tree_scoping.specs.Resolved.{mark_in}
use Rattle.swc_tree_scoping.specs.WellScoped.{FreeApart, IsFree, Stands}
use Rattle.swc_tree_scoping.proofs.Remarked.{identifier_is}
use Rattle.swc_tree_renaming.proofs.Blank.{layer, out_is, place_at_same}
use Rattle.swc_base_resolver_laws.proofs.Lists.{found}
use Rattle.swc_base_resolver_laws.proofs.Names.{Resolving, by_id, contexts, marks, name_apart, name_is, name_of, reference_context, stands_back, stands_forth, taken_bound, text_at}
use Rattle.swc_base_resolver_laws.proofs.Declared.{bound_mark, declares_bound, stands_of}

-- an identifier, read by ids
by_id_is : (k : Kind) (i : Ident) → by_ids (Identifier k i) ≡ Identifier k (by_id i)
by_id_is k i = identifier_is (by_ids (Identifier k i)) k (by_id i) (out_is by_id (Identifier k i) ∙ ap (layer by_id) (outs-Identifier k i))

module _ (t u : Node) (g : Resolving t u) where
  free_stands : (i : Ident) (f : IsFree u i) → Stands (by_ids u) f.path f.place.standing (id_name i)
  free_stands i f = record {
    place = f.place;
    kind = f.kind;
    identifier = by_id i;
    stands = place_at_same by_id f.path program_place u ∙ ap (option_map {U = Place × Node} (λ (q : Place × Node). (q.0, by_ids q.1))) f.stands ∙ ap (λ n. Some (f.place, n)) (by_id_is f.kind i);
    stands_so = refl;
    named = refl;
  }

  -- what means a scope is declared by it
  meant : (i : Ident) (f : IsFree u i) (x : List ℕ) (s : Path) → id_name i ≡ name_of x (marks t u g s ∷ []) → Means t f.path x (Some s) → ⊥
  meant i f x s name means =
      let (whole, there, declares) = found (DeclaresFor t x) (rounds program_place t f.path) s means in
      let (r, b) = declares_bound t u g x (s, whole) declares in
      let st = stands_forth t u g b.path r x (stands_of t s r x b) in
      let is : name_of x (contexts t u g b.path) ≡ id_name i = ap (name_of x) (bound_mark t u g s r x b) ∙ sym name in
      f.undeclared (b.path, r, record { at = subst (λ n. Stands (by_ids u) b.path r n) is st; binds = taken_bound t u g r b.path s b.taken })

  pub free_context : (i : Ident) → IsFree u i → i.ctxt ≡ g.unresolved ∷ []
  free_context i f =
      let (m, means, its) = reference_context t u g f.path f.place.standing x (stands_back t u g f.path f.place.standing (id_name i) (free_stands i f)) f.refers in
      at m means its
    where
      x : List ℕ
      x = text_at t u g f.path f.place.standing (id_name i) (free_stands i f)

      name : id_name i ≡ name_of x (contexts t u g f.path)
      name = name_is t u g f.path f.place.standing (id_name i) (free_stands i f)

      at : (m : Option Path) → Means t f.path x m → contexts t u g f.path ≡ mark_in (marks t u g) g.unresolved m ∷ [] → i.ctxt ≡ g.unresolved ∷ []
      at None means its = (name_apart i.sym x i.ctxt (contexts t u g f.path) name).1 ∙ its
      at (Some s) means its = absurd (meant i f x s (name ∙ ap (name_of x) its) means)

  pub free_apart : FreeApart u
  free_apart = record {
    apart = λ i j a b e. free_context i a ∙ sym (free_context j b);
    marked = λ i a e. let z = sym (free_context i a) ∙ e in absurd (cc);
  }
