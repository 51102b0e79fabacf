-- A program that two others make up is made up of them with each identifier changed, too.
use Rattle.std.proofs.Common.{◌≡◌, Bool, inl, inr, ⊎_elim, Some, Contains, map, sym, ap, ◌∙◌, subst}
use Rattle.std.specs.Option.{option_map}
use Rattle.swc_tree_marks.specs.declared.ident.Ident.{Ident}
use Rattle.swc_tree_node.specs.declared.kind.Kind.{Kind}
use Rattle.swc_tree_node.specs.declared.node.Node.{Node, Identifier}
use Rattle.swc_tree_scoping.specs.declared.places.Place.{Place}
use Rattle.swc_tree_scoping.specs.Places.{Path, place_at, program_place}
use Rattle.swc_tree_scoping.specs.Readings.{with_identifiers}
use Rattle.swc_tree_scoping.specs.WellScoped.{InExportList, IsArrowOrMethod, IsAt, has_unique_parameters, is_method}
use Rattle.swc_tree_renaming.proofs.Blank.{place_at_same, rounds_same, scope_at_same}
use Rattle.swc_base_tables_laws.proofs.Declarers.{some_same}
use Rattle.swc_base_tables_laws.proofs.Inside.{Inside, moved}
use Rattle.swc_base_tables_laws.proofs.Joined.{IsFrom, Joined}
use Rattle.swc_base_tables_laws.proofs.Readings.{changed_before, is_module_too, layer_too, tree_stands, tree_stood, was_module}

module _ (f : Ident → Ident) where
  abbrev F : Node → Node
  F = with_identifiers f

  -- what stands in the changed tree stood there
  stood : (t : Node) (p : Path) (w : Place) (k : Kind) (i : Ident) → place_at program_place (F t) p ≡ Some (w, Identifier k i) → (l : Kind) × (j : Ident) × (place_at program_place t p ≡ Some (w, Identifier l j)) × (F (Identifier l j) ≡ Identifier k i)
  stood t p w k i h =
      let (l, j, e, is) = changed_before f (place_at program_place t p) w k i (sym (place_at_same f p program_place t) ∙ h) in
      let there : place_at program_place (F t) p ≡ Some (w, F (Identifier l j)) = place_at_same f p program_place t ∙ ap (option_map {U = Place × Node} (λ (q : Place × Node). (q.0, F q.1))) e in
      (l, j, e, ap (λ (q : Place × Node). q.1) (some_same (w, F (Identifier l j)) (w, Identifier k i) (sym there ∙ h)))

  stands : (t : Node) (p : Path) (w : Place) (k l : Kind) (i j : Ident) → place_at program_place t p ≡ Some (w, Identifier l j) → F (Identifier l j) ≡ Identifier k i → place_at program_place (F t) p ≡ Some (w, Identifier k i)
  stands t p w k l i j e same = place_at_same f p program_place t ∙ ap (option_map {U = Place × Node} (λ (q : Place × Node). (q.0, F q.1))) e ∙ ap (λ c. Some (w, c)) same

  pub list_stood : (t : Node) (p : Path) → InExportList (F t) p → InExportList t p
  list_stood t p (q, below, i, w, k, ts, e, there, exports) = let (us, stood) = tree_stood f program_place w t q k ts there in (q, below, i, w, k, us, e, stood, exports)

  list_stands : (t : Node) (p : Path) → InExportList t p → InExportList (F t) p
  list_stands t p (q, below, i, w, k, us, e, there, exports) = (q, below, i, w, k, map F us, e, tree_stands f program_place w t q k us there, exports)

  at_stood : (kinds : Kind → Bool) (t : Node) (p : Path) → IsAt kinds (F t) p → IsAt kinds t p
  at_stood kinds t p (w, k, ts, there, is) = let (us, stood) = tree_stood f program_place w t p k ts there in (w, k, us, stood, is)

  at_stands : (kinds : Kind → Bool) (t : Node) (p : Path) → IsAt kinds t p → IsAt kinds (F t) p
  at_stands kinds t p (w, k, us, there, is) = (w, k, map F us, tree_stands f program_place w t p k us there, is)

  arrow_stood : (t : Node) (p : Path) → IsArrowOrMethod (F t) p → IsArrowOrMethod t p
  arrow_stood t p (inl is) = inl (at_stood has_unique_parameters t p is)
  arrow_stood t p (inr (q, i, e, is)) = inr (q, i, e, at_stood is_method t q is)

  arrow_stands : (t : Node) (p : Path) → IsArrowOrMethod t p → IsArrowOrMethod (F t) p
  arrow_stands t p (inl is) = inl (at_stands has_unique_parameters t p is)
  arrow_stands t p (inr (q, i, e, is)) = inr (q, i, e, at_stands is_method t q is)

  pub inside_changed : (t u : Node) (g : Path → Path) (In : Path → Type 0) → Inside t u g In → Inside (F t) (F u) g In
  inside_changed t u g In inside = record {
    placed = λ p w k i h. let (l, j, e, same) = stood t p w k i h in inside.placed p w l j e;
    kept = λ p w k i h.
        let (l, j, e, same) = stood t p w k i h in
        let (v, there, alike) = inside.kept p w l j e in
        (v, stands u (g p) v k l i j there same, alike);
    rounds_kept = λ p i. rounds_same f (g p) program_place u ∙ inside.rounds_kept p i ∙ ap (map (moved g)) (sym (rounds_same f p program_place t));
    scopes_kept = λ p i. scope_at_same f program_place u (g p) ∙ inside.scopes_kept p i ∙ sym (scope_at_same f program_place t p);
    round_in = λ p s i there. inside.round_in p s i (subst (λ l. Contains l s) (rounds_same f p program_place t) there);
    one = inside.one;
    top = inside.top;
    root = inside.root;
    listed = λ p w k i h list.
        let (l, j, e, same) = stood t p w k i h in
        let (before, stays) = inside.listed p w l j e (list_stood u (g p) list) in
        (list_stands t p before, stands u (g p) w k l i j stays same);
    arrows = λ p i arrow. arrow_stands t p (inside.arrows p i (arrow_stood u (g p) arrow));
  }

  from_changed : (t : Node) (g : Path → Path) (p : Path) (w : Place) (k l : Kind) (i j : Ident) → F (Identifier l j) ≡ Identifier k i → IsFrom t g p w l j → IsFrom (F t) g p w k i
  from_changed t g p w k l i j same (q, y, e, there, alike) = (q, y, e, stands t q y k l i j there same, alike)

  pub joined_changed : (t v u : Node) → Joined t v u → Joined (F t) (F v) (F u)
  joined_changed t v u join = record {
    f = join.f;
    g = join.g;
    Here = join.Here;
    There = join.There;
    first = inside_changed t u join.f join.Here join.first;
    second = inside_changed v u join.g join.There join.second;
    covered = λ p w k i h.
        let (l, j, e, same) = stood u p w k i h in
        ⊎_elim (λ (a : IsFrom t join.f p w l j). inl (from_changed t join.f p w k l i j same a)) (λ (a : IsFrom v join.g p w l j). inr (from_changed v join.g p w k l i j same a)) (join.covered p w l j e);
    whole = layer_too f u join.whole;
    first_goal = λ h. is_module_too f t (join.first_goal (was_module f u h));
    second_goal = λ h. is_module_too f v (join.second_goal (was_module f u h));
  }
