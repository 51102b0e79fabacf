-- An id that is loose in the resolved answer has a label whose id was loose in the program.
use Rattle.std.proofs.Common.{◌≡◌, ◌⊎◌, ⊎_elim, inl, inr, ℕ, Bool, true, false, IsTrue, Some, List, [], map, refl, sym, ap, ◌∙◌, subst}
use Rattle.std.specs.Prelude.{option_map}
use Rattle.swc_tree_marks.specs.declared.ident.Ident.{Ident}
use Rattle.swc_tree_node.specs.declared.kind.Kind.{Kind}
use Rattle.swc_tree_node.specs.declared.slot.Slot.{Slot}
use Rattle.swc_tree_node.specs.declared.node.Node.{Node, Identifier, Tree}
use Rattle.swc_tree_node.specs.declared.node.Node.TheVariants.{outs-Tree}
use Rattle.swc_tree_node.specs.Fits.{Fits}
use Rattle.swc_tree_scoping.specs.declared.places.Standing.{Standing}
use Rattle.swc_tree_scoping.specs.declared.places.Standing.TheVariants as standing
use Rattle.swc_tree_scoping.specs.declared.places.Place.{Place}
use Rattle.swc_tree_scoping.specs.Places.{Path, place_at, program_place}
use Rattle.swc_tree_scoping.specs.Readings.{by_ids, by_texts, id_name}
use Rattle.swc_tree_scoping.specs.Scopes.{is_binding, is_name, is_reference, is_taken, rounds, scope_at}
use Rattle.swc_tree_scoping.specs.BoundNames.{Id}
use Rattle.swc_tree_scoping.specs.Declares.{Bound, Declares}
use Rattle.swc_tree_scoping.specs.Resolved.{HasContext}
use Rattle.swc_tree_scoping.specs.WellScoped.{EachInOneScope, InExportList, IsClean, IsDeclared, IsFree, Stands, WellScoped}
use Rattle.swc_tree_scoping.proofs.Remarked.{tree_is}
use Rattle.swc_tree_renaming.specs.Apart.{IsFreeName, IsPlainProgram, NameAt, SameId, SameScopes, nameless}
use Rattle.swc_tree_renaming.proofs.Blank.{layer, out_is, place_at_same}
use Rattle.swc_tree_renaming.proofs.Core.{first_in, taken_binds}
use Rattle.swc_tree_renaming.proofs.Shape.{nameless_remarked, same_scopes}
use Rattle.swc_tree_renaming.proofs.Whole.{by_id, id_name_apart, stands_there}
use Rattle.swc_tree_grammar_texts.specs.Laws.{TextsAreAsWritable}
use Rattle.swc_tree_grammar_texts.proofs.Cleared.{bare}
use Rattle.swc_tree_sites.specs.Smaller.{In, IsLeftOf, IsPlain}
use Rattle.swc_tree_sites.proofs.Found.{env_at}
use Rattle.swc_tree_sites.proofs.Kept.{S}
use Rattle.swc_tree_sites.proofs.Round.{taken_is}
use Rattle.swc_tree_sites.proofs.Transport.{OneTaker, binding_names, found, reference_names, refers_so, region, there, up}
use Rattle.swc_tree_sites.proofs.Whole.{one_taker, one_taker_of_fewer}
use Rattle.swc_tree_sites_laws.proofs.LeftIds.{clean_ids, plain_clean}
use Rattle.swc_tree_sites_kept.specs.Scripts.{FixedScriptsLoseNoName}
use Rattle.swc_base_fixer_laws.specs.Laws.{FixedFitsTable, TargetsStandBare}
use Rattle.swc_base_rename_analysis.specs.Ids.{IsBound}
use Rattle.swc_base_rename_analysis.specs.Preserved.{IsLoose, is_name_or_label}
use Rattle.swc_base_rename_scoped_laws.proofs.ByIds.{IsAt, from_id, id_of, one_name as one_id_name, to_id, to_ids}
use Rattle.swc_base_rename_scoped_laws.proofs.Exports.{no_body_exported}
use Rattle.swc_base_rename_scoped_laws.proofs.Homes.{declared}
use Rattle.swc_base_renaming_laws.specs.Contexts.{id_of_label}
use Rattle.swc_base_renaming_laws.specs.LabelledLabels.{meant, unlabelled}
use Rattle.swc_base_renaming_laws.specs.Labelled.{FixedNamesAreLeft, HasNewLabels, IsReady, IsResolvedSo, LabelsAreIds, LooseNamesWereLoose, WasLoose}
use Rattle.swc_base_renaming_laws.proofs.LabelledChanged.{changed_there, from_changed, nameless_changed, one_name}
use Rattle.swc_base_renaming_laws.proofs.Meant.{fits_meant, is_left, plain_before, plain_meant}
use Rattle.swc_base_renaming_laws.proofs.LabelledPrograms.{plain_changed}
use Rattle.swc_base_renaming_laws.proofs.Texts.{copied}

false_true : {X : Type 0} → false ≡ true → X
false_true e = absurd (cc)

-- ---- declared names

bound_declared : (t : Node) (s : Path) (r : Standing) (x : List ℕ) → Bound t s r x → IsDeclared t x
bound_declared t s r x b =
    let (whole, c, e) = first_in (λ s. is_taken r (scope_at program_place t s.0)) (rounds program_place t b.path) s b.taken in
    (b.path, r, record { at = record { place = b.place; kind = b.kind; identifier = b.identifier; stands = b.stands; stands_so = b.stands_so; named = b.named }; binds = taken_binds r (scope_at program_place t s) e })

declares_declared : (t : Node) (s : Path) (x : List ℕ) → Declares t s x → IsDeclared t x
declares_declared t s x (inl (r, z, b)) = bound_declared t s r x b
declares_declared t s x (inr (inl (b, n))) = bound_declared t s standing.SloppyFunction x b
declares_declared t s x (inr (inr h)) = bound_declared t h.block standing.SloppyFunction x h.bound

-- export lists, read by ids
exported_by_ids : (t : Node) (p : Path) → InExportList t p → InExportList (by_ids t) p
exported_by_ids t p (q, below, i, w, k, ts, path, stands, listed) = (
  q,
  below,
  i,
  w,
  k,
  map by_ids ts,
  path,
  place_at_same by_id q program_place t
      ∙ ap (option_map {U = Place × Node} (λ (q : Place × Node). (q.0, by_ids q.1))) stands
      ∙ ap (λ c. Some (w, c)) (tree_is (by_ids (Tree k ts)) k (map by_ids ts) (out_is by_id (Tree k ts) ∙ ap (layer by_id) (outs-Tree k ts))),
  listed,
)

reference_named : (r : Standing) → IsTrue (is_reference r) → IsTrue (is_name_or_label r)
reference_named standing.Reference h = refl
reference_named standing.Body h = refl
reference_named _ h = absurd (cc)

reference_cases : (r : Standing) → IsTrue (is_reference r) → (r ≡ standing.Reference) ⊎ (r ≡ standing.Body)
reference_cases standing.Reference h = inl refl
reference_cases standing.Body h = inr refl
reference_cases _ h = absurd (cc)

-- ---- a free name of a program is loose

module _ (t : Node) (place : Slot) (fits : Fits t place) (scoped : WellScoped t) (q : Path) (v : Standing) (i : Ident) (at : IsAt t q v i) (refers : IsTrue (is_reference v)) (undeclared : ¬ IsDeclared (by_ids t) (id_name i)) where
  not_listed : InExportList t q → ⊥
  not_listed h = ⊎_elim
      (λ (e : v ≡ standing.Reference).
      undeclared (declares_declared (by_ids t) [] (id_name i) (scoped.exports_declared q (id_name i) (exported_by_ids t q h) (to_ids t q standing.Reference i (subst (λ v. IsAt t q v i) e at)))))
      (λ (e : v ≡ standing.Body). no_body_exported t place fits q i h (subst (λ v. IsAt t q v i) e at)) (reference_cases v refers)

  unbound : IsBound t (id_of i) → ⊥
  unbound (p, r, h, b) = let (j, a, e) = from_id t p r (id_of i) h in undeclared (subst (IsDeclared (by_ids t)) (one_id_name j i e) (declared t p r j a b))

  free : IsFree t i
  free = record { path = q; place = at.place; kind = at.kind; stands = at.stands; refers = subst (λ r. IsTrue (is_reference r)) (sym at.stands_so) refers; undeclared = undeclared }

  pub free_is_loose : IsLoose t (id_of i)
  free_is_loose = record { path = q; standing = v; stands = to_id t q v i at; named = reference_named v refers; outside = not_listed; marked = scoped.free_apart.marked i free; unbound = unbound }

-- ---- names that are free in what is left

module _ (t n : Node) (plain_t : IsPlainProgram t) (plain_n : IsPlainProgram n) (clean_t : IsClean t) (clean_n : IsClean n) (left : IsLeftOf n t) (each : EachInOneScope t) where
  whole : IsPlain t
  whole = plain_clean t plain_t clean_t

  plain : IsPlain n
  plain = plain_clean n plain_n clean_n

  one : OneTaker n
  one = one_taker_of_fewer t n left.scopes (one_taker t whole each)

  -- a free name of what is left is a free name of the whole
  pub free_up : (x : List ℕ) → IsFreeName n x → IsFreeName t x
  free_up x f = ⊎_elim
      (λ z.
      let (q, v, st, counts, env) = up t n whole plain left.names one each f.path f.standing x f.at z in
      let refers = refers_so v f.standing counts f.refers in
      record { path = q; standing = v; at = st; refers = refers; undeclared = λ d. still q v st refers env d })
      (λ c.
      let (q, w, k, stands, binds) = copied n (there t n whole plain left.names one each f.path f.standing x f.at) here c in
      absurd (f.undeclared (q, w.standing, record { at = record { place = w; kind = k; identifier = c.bound; stands = stands; stands_so = refl; named = c.same.0 ∙ f.at.named }; binds = binds })))
      (left.names (there t n whole plain left.names one each f.path f.standing x f.at) here)
    where
      here : In (there t n whole plain left.names one each f.path f.standing x f.at) (S program_place n).sites
      here = found t n whole plain left.names one each f.path f.standing x f.at (reference_names f.standing f.refers)

      still : (q : Path) (v : Standing) (st : Stands t q v x) → IsTrue (is_reference v) → env_at program_place t q ≡ env_at program_place n f.path → IsDeclared t x → ⊥
      still q v st refers env d =
          let o = each x d in
          let (u, inside, b, i, named) = region t n whole plain left.names one each f.path q x o.scope env (o.references q v refers st) in
          let y = (taken_is u program_place n b).0 i in
          f.undeclared (y.path, b.0, record { at = record { place = y.place; kind = y.kind; identifier = b.1; stands = y.stands; stands_so = y.stands_so; named = named }; binds = y.binds })

-- ---- loose ids

module _ (left : FixedNamesAreLeft) (fits_table : FixedFitsTable) (bare_targets : TargetsStandBare) (lose : FixedScriptsLoseNoName) (texts : TextsAreAsWritable) (ids : LabelsAreIds) (goal : Slot) (before labels u : Node) (ready : IsReady goal before)
    (h : HasNewLabels goal before labels)
    (r : IsResolvedSo labels u) where
  abbrev M : Node
  M = unlabelled labels

  abbrev answer : Node
  answer = by_texts labels

  same : SameScopes M u
  same = same_scopes M u (nameless_changed meant labels ∙ sym (nameless_changed bare labels) ∙ sym (nameless_remarked r.resolved.contexts answer) ∙ ap nameless (sym r.resolved.only_contexts))

  plain_ids : IsPlainProgram (by_ids M)
  plain_ids = plain_changed goal ready.program by_id M (fits_meant left fits_table bare_targets lose texts goal before labels ready h) (plain_meant left fits_table bare_targets lose texts goal before labels ready h).1

  plain_whole : IsPlainProgram (by_ids before)
  plain_whole = plain_changed goal ready.program by_id before ready.fits (plain_before goal before ready).1

  up_there : (x : List ℕ) → IsFreeName (by_ids M) x → IsFreeName (by_ids before) x
  up_there = free_up (by_ids before) (by_ids M) plain_whole plain_ids (clean_ids before) (clean_ids M) (is_left left fits_table bare_targets lose texts goal before labels ready h) ready.scoped.each_in_one_scope

  module _ (y : Id) (l : IsLoose u y) (i : Ident) (at : IsAt u l.path l.standing i) (is : id_of i ≡ y) where
    -- the name in the answer with labels
    record Labelled : Type 0 where
      kind : Kind
      name : Ident
      stands : place_at program_place labels l.path ≡ Some (at.place, Identifier kind name)
      context : i.ctxt ≡ r.resolved.contexts l.path
      told : HasContext r.resolved.marks r.unresolved answer l.path name.sym at.place.standing (r.resolved.contexts l.path)

    label_there : Labelled
    label_there =
        let (k, j, e) = same.back l.path at.place at.kind i at.stands in
        let (c, x, stands, one) = from_changed meant labels l.path at.place k j e in
        let bare_stands = changed_there bare labels l.path at.place c x stands in
        let resolved_stands = stands_there answer u r.resolved.contexts r.resolved.only_contexts l.path at.place c (bare x) bare_stands in
        let marked : i ≡ record (bare x) { ctxt = r.resolved.contexts l.path }
        = one_name (place_at program_place u l.path) at.place at.place at.kind c i (record (bare x) { ctxt = r.resolved.contexts l.path }) at.stands resolved_stands in
        record { kind = c; name = x; stands = stands; context = ap (λ (i : Ident). i.ctxt) marked; told = r.resolved.resolved l.path at.place c (bare x) bare_stands refl }

    -- it is a reference: nothing binds the id, and what is neither bound nor referred to has no context
    refers : IsTrue (is_reference at.place.standing)
    refers = by (is_binding at.place.standing) refl (is_reference at.place.standing) refl
      where
        bound : is_binding at.place.standing ≡ true → IsBound u y
        bound b = (l.path, l.standing, l.stands, ap is_binding (sym at.stands_so) ∙ b)

        by : (b : Bool) → is_binding at.place.standing ≡ b → (c : Bool) → is_reference at.place.standing ≡ c → is_reference at.place.standing ≡ true
        by true b c d = absurd (l.unbound (bound b))
        by false b true d = d
        by false b false d =
            let none : r.resolved.contexts l.path ≡ [] = label_there.told.other (λ z. false_true (sym d ∙ z)) (λ z. false_true (sym b ∙ z)) in
            absurd (l.marked (ap (λ (x : Id). x.1) (sym is) ∙ label_there.context ∙ none))

    abbrev z : Ident
    z = meant label_there.name

    name_there : NameAt M l.path z
    name_there = (at.place, label_there.kind, changed_there meant labels l.path at.place label_there.kind label_there.name label_there.stands, reference_names at.place.standing refers)

    -- where the label's id is bound the id is bound
    undeclared : ¬ IsDeclared (by_ids M) (id_name z)
    undeclared (q, v, b) =
        let (c, x, stands, one) = from_changed by_id M q b.at.place b.at.kind b.at.identifier b.at.stands in
        let names : is_name b.at.place.standing ≡ true = ap is_name b.at.stands_so ∙ binding_names v b.binds in
        let (d, j, bound) = same.forth q b.at.place c x stands in
        let one_label : SameId x z = id_name_apart x z (ap (λ (i : Ident). i.sym) (sym one) ∙ b.at.named) in
        let one_id : SameId j i = (ids goal before labels u ready h r q l.path x z j i (b.at.place, c, stands, names) name_there (b.at.place, d, bound, names) (at.place, at.kind, at.stands, reference_names at.place.standing refers)).1 one_label in
        let one_so : id_of j ≡ id_of i = λ n. (one_id.0 n, one_id.1 n) in
        l.unbound (q, v, to_id u q v j (record { place = b.at.place; kind = d; stands = bound; stands_so = b.at.stands_so }) ∙ ap (λ (x : Id). Some (v, x)) (one_so ∙ is), b.binds)

    stands_free : IsFreeName (by_ids M) (id_name z)
    stands_free = record {
      path = l.path;
      standing = at.place.standing;
      at = record { place = at.place; kind = label_there.kind; identifier = by_id z; stands = changed_there by_id M l.path at.place label_there.kind z (changed_there meant labels l.path at.place label_there.kind label_there.name label_there.stands); stands_so = refl; named = refl };
      refers = refers;
      undeclared = undeclared;
    }

    was_loose : WasLoose before labels l.path
    was_loose =
        let f = up_there (id_name z) stands_free in
        let (c, j, stands, one) = from_changed by_id before f.path f.at.place f.at.kind f.at.identifier f.at.stands in
        let name : id_name j ≡ id_name z = ap (λ (i : Ident). i.sym) (sym one) ∙ f.at.named in
        let one_id = id_name_apart j z name in
        let loose : IsLoose before (id_of j)
        = free_is_loose before goal ready.fits ready.scoped f.path f.standing j (record { place = f.at.place; kind = c; stands = stands; stands_so = f.at.stands_so }) f.refers (λ d. f.undeclared (subst (IsDeclared (by_ids before)) name d)) in
        let id_is : id_of j ≡ id_of_label label_there.name.ctxt = λ n. (one_id.0 n, one_id.1 n) in
        record {
          name = label_there.name;
          stands = (at.place, label_there.kind, label_there.stands, reference_names at.place.standing refers);
          loose = subst (IsLoose before) id_is loose;
        }

pub loose_names_were_loose : FixedNamesAreLeft → FixedFitsTable → TargetsStandBare → FixedScriptsLoseNoName → TextsAreAsWritable → LabelsAreIds → LooseNamesWereLoose
loose_names_were_loose left fits_table bare_targets lose texts ids goal before labels u ready h r y l =
    let (i, at, is) = from_id u l.path l.standing y l.stands in
    was_loose left fits_table bare_targets lose texts ids goal before labels u ready h r y l i at is
