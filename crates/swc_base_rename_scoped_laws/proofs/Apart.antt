-- The names of a well-scoped module are apart, where no body of a `for` statement declares.
use Rattle.std.proofs.Common.{◌≡◌, ◌≢◌, ℕ, Bool, true, false, ◌||◌, IsTrue, ◌⊎◌, inl, inr, ⊎_elim, Option, Some, None, List, [], ◌∷◌, ◌++◌, map, Contains, refl, sym, ap, ◌∙◌, subst, codes, Less, Equal, Greater, Ordering}
use Rattle.std.specs.Option.{option_map, unwrap_or}
use Rattle.std.specs.Ordering.{ordering_reverse}
use Rattle.swc_tree_marks.specs.declared.ident.Ident.{Ident}
use Rattle.swc_tree_node.specs.declared.kind.Kind.{Kind}
use Rattle.swc_tree_node.specs.declared.slot.Slot.{Slot}
use Rattle.swc_tree_node.specs.declared.node.Node.{Node, Identifier, Tree, out-Node}
use Rattle.swc_tree_node.specs.declared.node.Node.TheVariants.{outs-Identifier, outs-Tree}
use Rattle.swc_tree_node.specs.Fits.{Fits}
use Rattle.swc_tree_scoping.specs.declared.places.Standing.{Standing}
use Rattle.swc_tree_scoping.specs.declared.places.Standing.TheVariants as standing
use Rattle.swc_tree_scoping.specs.declared.places.Place.{Place}
use Rattle.swc_tree_scoping.specs.Places.{Path, child, place_below, program_place}
use Rattle.swc_tree_scoping.specs.Scopes.{is_binding, is_name, is_reference, is_taken, rounds, scope_at, taker}
use Rattle.swc_tree_scoping.specs.BoundNames.{Id}
use Rattle.swc_tree_scoping.specs.Declares.{Bound, Declares as DeclaresIt}
use Rattle.swc_tree_scoping.specs.Readings.{by_ids, by_texts, id_name, with_identifiers}
use Rattle.swc_tree_scoping.specs.Resolved.{is_script}
use Rattle.swc_tree_scoping.specs.WellScoped.{InExportList, IsDeclared, IsFree, WellScoped, is_module}
use Rattle.swc_tree_scoping.proofs.Remarked.{identifier_is, tree_is}
use Rattle.swc_tree_scoping.proofs.Under.{no_place_under}
use Rattle.swc_tree_renaming.specs.Apart.{DeclaredIn, FreeApartFromDeclared, DeclaredApart, IsAtOrAbove, IsPlainProgram, IsRound, NamesApart, OccursIn}
use Rattle.swc_tree_renaming.proofs.Blank.{layer, out_is, place_at_same}
use Rattle.swc_tree_renaming.proofs.Core.{declared_taker, first_in, taken_binds}
use Rattle.swc_tree_renaming.proofs.Shape.{some_same}
use Rattle.swc_tree_renaming.proofs.Whole.{module_layer, script_layer}
use Rattle.swc_tree_sites.proofs.Loose.{lowered, or_else}
use Rattle.swc_base_rename_analysis.specs.Analysis.{Declares, IsRound as IsAround, OccursIn as Occurs, first_taking, is_for_body, opened_round, scopes_round}
use Rattle.swc_base_rename_analysis.specs.Ids.{IsBound, id_at}
use Rattle.swc_base_rename_analysis.specs.Laws.{is_body_at}
use Rattle.swc_base_rename_analysis.specs.Named.{IsNamedAt, Named, Renaming, all_count}
use Rattle.swc_base_rename_analysis.specs.Order.{IsBefore, Site, site_cmp}
use Rattle.swc_base_rename_analysis.specs.Preserved.{IsLoose, IsPreserved, is_name_or_label}
use Rattle.swc_base_rename_analysis.proofs.InOrder.{by_earlier}
use Rattle.swc_base_rename_analysis.proofs.Level.{each_in_order}
use Rattle.swc_base_rename_analysis_laws.proofs.Rounded.{round_goes_on}
use Rattle.swc_base_rename_analysis_laws.proofs.Rounds.{taken_is_round}
use Rattle.swc_base_rename_scoped_laws.specs.Laws.{HasNewTexts, KeepsApart, NoBodyDeclares, PreservesNone}
use Rattle.swc_base_rename_scoped_laws.proofs.Around.{IsSeen, seen, seen_from, surrounds}
use Rattle.swc_base_rename_scoped_laws.proofs.ByIds.{IsAt, by_id, from_id, from_ids, id_of, one_id, one_name, rounds_by_ids, taker_by_ids, to_id, to_ids}
use Rattle.swc_base_rename_scoped_laws.proofs.Homes.{declared, home, settled}
use Rattle.swc_base_rename_scoped_laws.proofs.Takers.{IsHeld, analysed_in, analysed_under, takers_held}

-- nothing in an export list stands as the body of a function
abbrev pub NoBodyExported : Node → Type 0
NoBodyExported t = (p : Path) (i : Ident) → InExportList t p → IsAt t p standing.Body i → ⊥

regrouped : (xs ys zs : Path) → (xs ++ ys) ++ zs ≡ xs ++ (ys ++ zs)
regrouped [] ys zs = refl
regrouped (x ∷ xs) ys zs = ap (λ l. x ∷ l) (regrouped xs ys zs)

no_place : (z : Place × Node) → Some z ≡ None → ⊥
no_place z e = absurd (cc)

some_path : {a b : Path} → Some a ≡ Some b → a ≡ b
some_path e = cc

no_order : Less ≡ Greater → ⊥
no_order e = absurd (cc)

-- a name that is no binding is a reference
refers : (r : Standing) → IsTrue (is_name r) → (IsTrue (is_binding r) → ⊥) → IsTrue (is_reference r)
refers r n b = by (is_binding r) refl n
  where
    by : (x : Bool) → is_binding r ≡ x → IsTrue (x || is_reference r) → IsTrue (is_reference r)
    by true e h = absurd (b e)
    by false e h = h

reference_named : (r : Standing) → IsTrue (is_reference r) → IsTrue (is_name_or_label r)
reference_named standing.Reference h = refl
reference_named standing.Body h = refl
reference_named _ h = absurd (cc)

reference_cases : (r : Standing) → IsTrue (is_reference r) → (r ≡ standing.Reference) ⊎ (r ≡ standing.Body)
reference_cases standing.Reference h = inl refl
reference_cases standing.Body h = inr refl
reference_cases _ h = absurd (cc)

with_identifier : (f : Ident → Ident) (k : Kind) (i : Ident) → with_identifiers f (Identifier k i) ≡ Identifier k (f i)
with_identifier f k i = identifier_is (with_identifiers f (Identifier k i)) k (f i) (out_is f (Identifier k i) ∙ ap (layer f) (outs-Identifier k i))

-- what is bound is declared, read by texts too
text_declared : (t : Node) (p : Path) (r : Standing) (i : Ident) → IsAt t p r i → IsTrue (is_binding r) → IsDeclared (by_texts t) i.sym
text_declared t p r i a b = (
  p,
  r,
  record {
    at = record {
      place = a.place;
      kind = a.kind;
      identifier = record i { ctxt = [] };
      stands = place_at_same (λ i. record i { ctxt = [] }) p program_place t
          ∙ ap (option_map {U = Place × Node} (λ (q : Place × Node). (q.0, by_texts q.1))) a.stands
          ∙ ap (λ c. Some (a.place, c)) (with_identifier (λ i. record i { ctxt = [] }) a.kind i);
      stands_so = a.stands_so;
      named = refl;
    };
    binds = b;
  },
)

bound_declared : (t : Node) (s : Path) (r : Standing) (x : List ℕ) → Bound t s r x → IsDeclared t x
bound_declared t s r x b =
    let (whole, c, e) = first_in (λ s. is_taken r (scope_at program_place t s.0)) (rounds program_place t b.path) s b.taken in
    (b.path, r, record { at = record { place = b.place; kind = b.kind; identifier = b.identifier; stands = b.stands; stands_so = b.stands_so; named = b.named }; binds = taken_binds r (scope_at program_place t s) e })

declares_declared : (t : Node) (s : Path) (x : List ℕ) → DeclaresIt t s x → IsDeclared t x
declares_declared t s x (inl (r, z, b)) = bound_declared t s r x b
declares_declared t s x (inr (inl (b, n))) = bound_declared t s standing.SloppyFunction x b
declares_declared t s x (inr (inr h)) = bound_declared t h.block standing.SloppyFunction x h.bound

-- export lists, read by ids
exported_by_ids : (t : Node) (p : Path) → InExportList t p → InExportList (by_ids t) p
exported_by_ids t p (q, below, i, w, k, ts, path, there, listed) = (
  q,
  below,
  i,
  w,
  k,
  map by_ids ts,
  path,
  place_at_same by_id q program_place t
      ∙ ap (option_map {U = Place × Node} (λ (q : Place × Node). (q.0, by_ids q.1))) there
      ∙ ap (λ c. Some (w, c)) (tree_is (by_ids (Tree k ts)) k (map by_ids ts) (out_is by_id (Tree k ts) ∙ ap (layer by_id) (outs-Tree k ts))),
  listed,
)

some_id : {a b : Standing × Id} → Some a ≡ Some b → a.1 ≡ b.1
some_id e = cc

module _ (t : Node) (s : Slot) (fit : Fits t s) (plain : IsPlainProgram t) (scoped : WellScoped t) (none : NoBodyDeclares t) where
  abbrev A : Node
  A = by_ids t

  -- what stands in it stands in the scope of the analysis that declares the id
  inside : (u p q : Path) (r : Standing) (i : Ident) (home_is : Path) → IsAt t p r i → IsTrue (is_binding r) → taker r t p ≡ Some home_is → first_taking r (scopes_round t p) ≡ Some u → IsSeen t home_is q
      → IsAround t u q
  inside u p q r i v a b taken found there = by (takers_held p false program_place t s (r, i) a.place a.kind fit (λ e. absurd (cc)) a.stands a.stands_so b)
    where
      by : IsHeld t false r (taker r t p) (first_taking r (scopes_round t p)) → IsAround t u q
      by h = at (subst (λ y. IsHeld t false r (Some v) y) found (subst (λ x. IsHeld t false r x (first_taking r (scopes_round t p))) taken h))
        where
          from_there : IsSeen t v p
          from_there = let (whole, c, e) = first_in (λ s. is_taken r (scope_at program_place t s.0)) (rounds program_place t p) v taken in seen t v p whole c

          at : IsHeld t false r (Some v) (Some u) → IsAround t u q
          at (inl (rest, e)) = surrounds t u rest p q (taken_is_round t r u p found) (subst (λ v. IsSeen t v p) e from_there) (subst (λ v. IsSeen t v q) e there)
          at (inr (j, e, body, l)) =
              let (m, n, go_on) = round_goes_on t u p (taken_is_round t r u p found) in
              let b = subst (λ r. IsAt t p r i) l a in
              absurd (none p v (m ∷ n) j i (b.place) b.kind b.stands b.stands_so (subst (λ r. taker r t p ≡ Some v) l taken) (go_on ∙ ap (λ u. u ++ (m ∷ n)) e ∙ regrouped v (j ∷ []) (m ∷ n)) (subst (λ u. is_body_at false t u ≡ true) e body))

  -- the analysis has a scope for each binding, as the program takes all
  program_takes : (r : Standing) (j : ℕ) → first_taking r (opened_round false program_place (out-Node t) j) ≡ Some []
  program_takes r j = ⊎_elim
      (λ (h : IsTrue (is_module t)). let (ts, o) = module_layer t h in ap (λ y. first_taking r (opened_round false program_place y j)) o)
      (λ (h : IsTrue (is_script t)). let (ts, o) = script_layer t h in ap (λ y. first_taking r (opened_round false program_place y j)) o) plain.0

  or_root : (x : Option Path) → (u : Path) × (or_else x (Some []) ≡ Some u)
  or_root None = ([], refl)
  or_root (Some u) = (u, refl)

  found_there : (p : Path) (r : Standing) (i : Ident) → IsAt t p r i → IsTrue (is_binding r) → (u : Path) × (first_taking r (scopes_round t p) ≡ Some u)
  found_there [] r i a b =
      let here : program_place ≡ a.place = ap (λ (q : Place × Node). q.0) (some_same (program_place, t) (a.place, Identifier a.kind i) a.stands) in
      let plain : false ≡ true = subst (λ r. IsTrue (is_binding r)) (sym a.stands_so ∙ ap (λ (w : Place). w.standing) (sym here)) b in
      absurd (cc)
  found_there (j ∷ p) r i a b = by (child t j) refl
    where
      by : (o : Option Node) → child t j ≡ o → (u : Path) × (first_taking r (scopes_round t (j ∷ p)) ≡ Some u)
      by None e = absurd (no_place (a.place, Identifier a.kind i) (sym a.stands ∙ no_place_under program_place t j p e))
      by (Some c) e =
          let x = lowered j (analysed_in (is_for_body (out-Node t) j) (place_below program_place t j) c r p) in
          let (u, h) = or_root x in
          (u, analysed_under false program_place t c r j p e ∙ ap (or_else x) (program_takes r j) ∙ h)

  bound_text : (p : Path) (r : Standing) (i : Ident) → IsAt t p r i → IsTrue (is_binding r) → (i.sym ≢ codes "eval") × (i.sym ≢ codes "arguments")
  bound_text p r i a b = (
    λ e. scoped.no_eval_or_arguments.0 (subst (IsDeclared (by_texts t)) e (text_declared t p r i a b)),
    λ e. scoped.no_eval_or_arguments.1 (subst (IsDeclared (by_texts t)) e (text_declared t p r i a b)),
  )

  declares : (p : Path) (r : Standing) (i : Ident) → IsAt t p r i → IsTrue (is_binding r) → (u : Path) × Declares t u p (id_of i)
  declares p r i a b =
      let (u, h) = found_there p r i a b in
      (u, record { standing = r; stands = to_id t p r i a; binds = b; analysed = (bound_text p r i a b).1; taken = h })

  -- what declares an id is declared
  declared_id : (i : Ident) (u p : Path) → Declares t u p (id_of i) → IsDeclared A (id_name i)
  declared_id i u p d = let (j, a, e) = from_id t p d.standing (id_of i) d.stands in subst (IsDeclared A) (one_name j i e) (declared t p d.standing j a d.binds)

  bound_id : (i : Ident) → IsBound t (id_of i) → IsDeclared A (id_name i)
  bound_id i (p, r, h, b) = let (j, a, e) = from_id t p r (id_of i) h in subst (IsDeclared A) (one_name j i e) (declared t p r j a b)

  module _ (r : Renaming) (new_texts : Id → Option (List ℕ)) (text : List ℕ → List ℕ) (keeps : KeepsApart r t) (named : Named t r (IsPreserved t r.preserves) all_count new_texts) (texts : HasNewTexts new_texts text) (lists : NoBodyExported t) where
    -- each id that is declared gets a name, if it is not preserved
    no_name : (i : Ident) → ¬ IsTrue (r.preserves (id_of i)) → new_texts (id_of i) ≡ None → (a : Site) → Declares t a.0 a.1 (id_of i) → ⊥
    no_name i renamed e = by_earlier t (λ a. Declares t a.0 a.1 (id_of i) → ⊥)
        (λ a before d.
        let (j, at, same) = from_id t a.1 d.standing (id_of i) d.stands in
        let n : IsNamedAt t r a (id_of i) = record {
          declared = d;
          first = λ b f less. before b less f;
          not_preserved = renamed;
          not_eval = λ z. (bound_text a.1 d.standing j at d.binds).0 (ap (λ (x : Id). x.0) same ∙ z);
        } in
        let z : None ≡ Some (r.text (id_of i) (named.taken (id_of i))) = sym e ∙ (named.each a (id_of i) n).1 in
        absurd (cc))

    abbrev taken_text : Ident → List ℕ
    taken_text i = r.text (id_of i) (named.taken (id_of i))

    abbrev HasName : Ident → Type 0
    HasName i = (a : Site) × IsNamedAt t r a (id_of i) × (text (id_name i) ≡ taken_text i)

    -- ... or keeps its text
    abbrev Keeps : Ident → Type 0
    Keeps i = IsTrue (r.preserves (id_of i)) × (text (id_name i) ≡ i.sym)

    has_name : (p : Path) (v : Standing) (i : Ident) → IsAt t p v i → IsTrue (is_binding v) → HasName i ⊎ Keeps i
    has_name p v i at b = by (new_texts (id_of i)) refl
      where
        unnamed : (c : Bool) → r.preserves (id_of i) ≡ c → new_texts (id_of i) ≡ None → HasName i ⊎ Keeps i
        unnamed true h e = inr (h, texts i ∙ ap (λ o. unwrap_or o i.sym) e)
        unnamed false h e = let (u, d) = declares p v i at b in absurd (no_name i (λ k. let z : true ≡ false = sym k ∙ h in absurd (cc)) e (u, p) d)

        by : (o : Option (List ℕ)) → new_texts (id_of i) ≡ o → HasName i ⊎ Keeps i
        by None e = unnamed (r.preserves (id_of i)) refl e
        by (Some y) e = let (a, n) = named.no_other (id_of i) y e in inl (a, n, texts i ∙ ap (λ o. unwrap_or o i.sym) (named.each a (id_of i) n).1)

    -- an id that occurs where another is declared, or below it, occurs at the scope that declares that one
    occurs : (s u : Path) (x y : List ℕ) (i j : Ident) (a b : Site) → OccursIn A s y → DeclaredIn A u x → IsAtOrAbove A u s → id_name i ≡ x → id_name j ≡ y → IsNamedAt t r a (id_of i) → IsNamedAt t r b (id_of j) → Occurs t a.0 (id_of j)
    occurs s u x y i j a b o d above name_i name_j n m =
        let (l, at_l, name_l) = from_ids t o.path o.standing y o.at in
        record { path = o.path; standing = o.standing; stands = to_id t o.path o.standing l at_l ∙ ap (λ x. Some (o.standing, x)) (one_id l j (name_l ∙ sym name_j)); names = o.names; analysed = m.declared.analysed; inside = inl round }
      where
        seen_here : IsSeen t u o.path
        seen_here = ⊎_elim (λ (e : u ≡ s). subst (λ s. IsSeen t s o.path) (sym e) inner) (λ (h : IsRound A u s). seen_from t u s o.path (seen t u s h.0 (subst (λ l. Contains l (u, h.0)) (rounds_by_ids t s) h.1)) inner) above
          where
            inner : IsSeen t s o.path
            inner = seen t s o.path o.inside.0 (subst (λ l. Contains l (s, o.inside.0)) (rounds_by_ids t o.path) o.inside.1)

        round : IsAround t a.0 o.path
        round =
            let (q, at_q, name_q) = from_ids t d.path d.standing x d.binds.at in
            let (k, at_k, same) = from_id t a.1 n.declared.standing (id_of i) n.declared.stands in
            let (v, is_home, sees) = home t plain.1 scoped d.path d.standing q at_q d.binds.binds in
            let one : v ≡ u = some_path (sym (is_home d.path d.standing q refl at_q d.binds.binds) ∙ sym (taker_by_ids t d.standing d.path) ∙ declared_taker A d.standing d.path u x (settled t plain.1 d.path d.standing q at_q) d.declared) in
            let taken : taker n.declared.standing t a.1 ≡ Some u = is_home a.1 n.declared.standing k (one_name k i same ∙ name_i ∙ sym name_q) at_k n.declared.binds ∙ ap (λ v. Some v) one in
            inside a.0 a.1 o.path n.declared.standing k u at_k n.declared.binds taken n.declared.taken seen_here

    held_apart : (a b : Site) (i j : Ident) → IsNamedAt t r a (id_of i) → IsNamedAt t r b (id_of j) → IsBefore t a b → Occurs t b.0 (id_of i) → taken_text i ≡ taken_text j → ⊥
    held_apart a b i j n m less o e = (named.each b (id_of j) m).0.free.not_held a (id_of i) (record { named = n; before = less }) tt o e

    declared_apart : DeclaredApart A text
    declared_apart s u v x y ox oy dx dy ux vy e = by (from_ids t dx.path dx.standing x dx.binds.at) (from_ids t dy.path dy.standing y dy.binds.at)
      where
        by : (i : Ident) × IsAt t dx.path dx.standing i × (id_name i ≡ x) → (j : Ident) × IsAt t dy.path dy.standing j × (id_name j ≡ y) → x ≡ y
        by (i, at_i, name_i) (j, at_j, name_j) = both (has_name dx.path dx.standing i at_i dx.binds.binds) (has_name dy.path dy.standing j at_j dy.binds.binds)
          where
            both : HasName i ⊎ Keeps i → HasName j ⊎ Keeps j → x ≡ y
            both (inr (k, ti)) (inr (l, tj)) =
                sym name_i
                ∙ keeps.declared_apart s u v i j k l (subst (OccursIn A s) (sym name_i) ox) (subst (OccursIn A s) (sym name_j) oy) (subst (DeclaredIn A u) (sym name_i) dx) (subst (DeclaredIn A v) (sym name_j) dy) ux vy
                (sym ti ∙ ap text name_i ∙ e ∙ ap text (sym name_j) ∙ tj)
                ∙ name_j
            both (inl (a, n, ti)) (inr (l, tj)) = absurd ((named.each a (id_of i) n).0.free.not_preserved (id_of j, sym tj ∙ ap text name_j ∙ sym e ∙ ap text (sym name_i) ∙ ti, inr l))
            both (inr (k, ti)) (inl (b, m, tj)) = absurd ((named.each b (id_of j) m).0.free.not_preserved (id_of i, sym ti ∙ ap text name_i ∙ e ∙ ap text (sym name_j) ∙ tj, inr k))
            both (inl (a, n, ti)) (inl (b, m, tj)) = compared (site_cmp t a b) refl
              where
                same_text : taken_text i ≡ taken_text j
                same_text = sym ti ∙ ap text name_i ∙ e ∙ ap text (sym name_j) ∙ tj

                compared : (o : Ordering) → site_cmp t a b ≡ o → x ≡ y
                compared Less c = absurd (held_apart a b i j n m c (occurs s v y x j i b a ox dy vy name_j name_i m n) same_text)
                compared Greater c =
                    absurd (held_apart b a j i m n ((each_in_order t).total.antisymm b a ∙ ap ordering_reverse c) (occurs s u x y i j a b oy dx ux name_i name_j n m) (sym same_text))
                compared Equal c =
                    let one : a ≡ b = (each_in_order t).none_level a b (id_of i) (id_of j) n.declared m.declared c in
                    let same = some_id (sym n.declared.stands ∙ ap (λ (z : Site). id_at t z.1) one ∙ m.declared.stands) in
                    sym name_i ∙ one_name i j same ∙ name_j

    -- free ids
    no_new_text : (i : Ident) → IsFree t i → new_texts (id_of i) ≡ None
    no_new_text i f = by (new_texts (id_of i)) refl
      where
        by : (o : Option (List ℕ)) → new_texts (id_of i) ≡ o → new_texts (id_of i) ≡ None
        by None e = e
        by (Some y) e = let (a, n) = named.no_other (id_of i) y e in absurd (f.undeclared (declared_id i a.0 a.1 n.declared))

    free_kept : (i : Ident) → IsFree t i → text (id_name i) ≡ i.sym
    free_kept i f = texts i ∙ ap (λ o. unwrap_or o i.sym) (no_new_text i f)

    not_listed : (p : Path) (v : Standing) (i : Ident) → IsAt t p v i → IsTrue (is_reference v) → (IsDeclared A (id_name i) → ⊥) → InExportList t p → ⊥
    not_listed p v i at refers_it n h = ⊎_elim
        (λ (e : v ≡ standing.Reference).
        n (declares_declared A [] (id_name i) (scoped.exports_declared p (id_name i) (exported_by_ids t p h) (to_ids t p standing.Reference i (subst (λ v. IsAt t p v i) e at)))))
        (λ (e : v ≡ standing.Body). lists p i h (subst (λ v. IsAt t p v i) e at)) (reference_cases v refers_it)

    free_apart : FreeApartFromDeclared A text
    free_apart s x y o n d e = by (from_ids t o.path o.standing x o.at) (from_ids t d.path d.standing y d.binds.at)
      where
        by : (i : Ident) × IsAt t o.path o.standing i × (id_name i ≡ x) → (j : Ident) × IsAt t d.path d.standing j × (id_name j ≡ y) → ⊥
        by (i, at_i, name_i) (j, at_j, name_j) = has (has_name d.path d.standing j at_j d.binds.binds)
          where
            undeclared : IsDeclared A (id_name i) → ⊥
            undeclared h = n (subst (IsDeclared A) name_i h)

            reference : IsTrue (is_reference o.standing)
            reference = refers o.standing o.names (λ b. undeclared (declared t o.path o.standing i at_i b))

            free : IsFree t i
            free = record { path = o.path; place = at_i.place; kind = at_i.kind; stands = at_i.stands; refers = subst (λ r. IsTrue (is_reference r)) (sym at_i.stands_so) reference; undeclared = undeclared }

            loose : IsLoose t (id_of i)
            loose = record {
              path = o.path;
              standing = o.standing;
              stands = to_id t o.path o.standing i at_i;
              named = reference_named o.standing reference;
              outside = not_listed o.path o.standing i at_i reference undeclared;
              marked = scoped.free_apart.marked i free;
              unbound = λ h. undeclared (bound_id i h);
            }

            has : HasName j ⊎ Keeps j → ⊥
            has (inr (l, tj)) = keeps.free_apart s i j l (subst (OccursIn A s) (sym name_i) o) undeclared (subst (DeclaredIn A s) (sym name_j) d) (sym (free_kept i free) ∙ ap text name_i ∙ e ∙ ap text (sym name_j) ∙ tj)
            has (inl (b, m, tj)) = (named.each b (id_of j) m).0.free.not_preserved (id_of i, sym (free_kept i free) ∙ ap text name_i ∙ e ∙ ap text (sym name_j) ∙ tj, inl loose)

    pub names_apart : NamesApart t text
    names_apart = record { declared_apart = declared_apart; free_apart = free_apart; free_kept = free_kept }

-- where none is preserved, the preserved ids are apart
pub none_preserved : (t : Node) (r : Renaming) → PreservesNone r → KeepsApart r t
none_preserved t r none = record { declared_apart = λ s u v i j k l. no (i.sym, i.ctxt) k; free_apart = λ s i j l o n d e. no (j.sym, j.ctxt) l }
  where
    no : {X : Type 0} (x : Id) → IsTrue (r.preserves x) → X
    no x h = let z : true ≡ false = sym h ∙ none x in absurd (cc)
