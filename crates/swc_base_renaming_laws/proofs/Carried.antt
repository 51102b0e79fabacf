-- The resolved answer carries the ids of the program as labels, so its own texts are apart where its ids meet.
use Rattle.std.proofs.Common.{◌≡◌, ◌↔◌, ℕ, IsTrue, Option, Some, None, List, [], refl, sym, ap, ◌∙◌, subst}
use Rattle.std.specs.Prelude.{unwrap_or, option_map}
use Rattle.swc_tree_marks.specs.declared.ident.Ident.{Ident}
use Rattle.swc_tree_node.specs.declared.slot.Slot.{Slot}
use Rattle.swc_tree_node.specs.declared.node.Node.{Node}
use Rattle.swc_tree_scoping.specs.declared.places.Standing.{Standing}
use Rattle.swc_tree_scoping.specs.declared.places.Place.{Place}
use Rattle.swc_tree_scoping.specs.Places.{Path, place_at, program_place}
use Rattle.swc_tree_scoping.specs.Readings.{by_texts, id_name}
use Rattle.swc_tree_scoping.specs.Scopes.{is_name}
use Rattle.swc_tree_scoping.specs.BoundNames.{Id}
use Rattle.swc_tree_renaming.specs.Apart.{NameAt, SameId, SameScopes, nameless}
use Rattle.swc_tree_renaming.proofs.Shape.{nameless_remarked, same_scopes}
use Rattle.swc_tree_renaming.proofs.Whole.{stands_there}
use Rattle.swc_tree_grammar_texts.proofs.Cleared.{bare}
use Rattle.swc_tree_sites.specs.Smaller.{In}
use Rattle.swc_tree_sites.proofs.Transport.{binding_names}
use Rattle.swc_base_rename_substitution.specs.Names.{if_other_text}
use Rattle.swc_base_rename_analysis.specs.Analysis.{Declares, IsAnalysed, OccursIn}
use Rattle.swc_base_rename_analysis.specs.Ids.{id_at}
use Rattle.swc_base_rename_analysis.specs.Named.{Named, all_count}
use Rattle.swc_base_rename_analysis.specs.Preserved.{IsLoose, IsPreserved}
use Rattle.swc_base_rename_program.specs.Renamed.{hygiene_renaming}
use Rattle.swc_base_rename_scoped_laws.proofs.ByIds.{from_id, id_of, to_id}
use Rattle.swc_base_renaming_laws.specs.SettledLabels.{Carries, IsNameAt, LabelsCarryApart}
use Rattle.swc_base_renaming_laws.specs.Settled.{HygieneTellsMetApart, MeetingsAreMet, PairsMeet, given_text}
use Rattle.swc_base_renaming_laws.specs.Meetings.{met}
use Rattle.swc_base_renaming_laws.specs.Contexts.{id_of_label, labelled_changes}
use Rattle.swc_base_renaming_laws.specs.LabelledLabels.{label, labelled, meant, unlabelled}
use Rattle.swc_base_renaming_laws.specs.Labelled.{HasNewLabels, IsReady, IsResolvedSo, LabelsAreIds, LabelsTellTexts, LooseNamesWereLoose, WasLoose}
use Rattle.swc_base_renaming_laws.proofs.LabelledChanged.{changed_there, from_changed, nameless_changed, one_name, one_place}
use Rattle.swc_base_renaming_laws.proofs.Meant.{keeps, plain_before}
use Rattle.swc_base_renaming_laws.proofs.Texts.{label_means}
use Rattle.swc_base_renaming_laws.specs.Carried.{LabelledAnswersAreApartGiven, LabelsMeetAsTheOld}
use Rattle.swc_base_renaming_laws.proofs.Around.{declares_alike, occurs_alike}

-- the id at a path, if one is there
abbrev id_in : Option (Standing × Id) → Id
id_in None = ([], [])
id_in (Some q) = q.1

abbrev label_in : Node → Path → Id
label_in labels p = id_in (id_at (unlabelled labels) p)

id_same : (i j : Ident) → SameId i j → id_of i ≡ id_of j
id_same i j s = λ n. (s.0 n, s.1 n)

same_id : (i j : Ident) → id_of i ≡ id_of j → SameId i j
same_id i j e = (ap (λ (x : Id). x.0) e, ap (λ (x : Id). x.1) e)

-- ---- a new id has the label of the old one, and is no `arguments` unless that was

module _ (new_texts : Id → Option (List ℕ)) where
  new_label : (x y : Id) → unwrap_or (labelled_changes new_texts x) x ≡ y → y.1 ≡ x.1
  new_label x y e = at (labelled_changes new_texts x) refl e
    where
      at : (o : Option Id) → labelled_changes new_texts x ≡ o → unwrap_or o x ≡ y → y.1 ≡ x.1
      at None h e = ap (λ (y : Id). y.1) (sym e)
      at (Some z) h e = ap (λ (y : Id). y.1) (sym e) ∙ keeps new_texts x z h

  old_analysed : (before : Node) → Named before hygiene_renaming (IsPreserved before hygiene_renaming.preserves) all_count new_texts → (x y : Id) → unwrap_or (labelled_changes new_texts x) x ≡ y → IsAnalysed y → IsAnalysed x
  old_analysed before named x y e analysed same = at (new_texts (x.0, (id_of_label x.1).1)) refl e
    where
      at : (o : Option (List ℕ)) → new_texts (x.0, (id_of_label x.1).1) ≡ o → unwrap_or (if_other_text x (option_map (λ text. (text, x.1)) o)) x ≡ y → ⊥
      at None h e = analysed (ap (λ (y : Id). y.0) (sym e) ∙ same)
      at (Some text) h e = let (a, n) = named.no_other (x.0, (id_of_label x.1).1) text h in n.declared.analysed same

-- ---- the answer with labels, and the one that is resolved

module _ (goal : Slot) (before labels u : Node) (ready : IsReady goal before) (h : HasNewLabels goal before labels) (r : IsResolvedSo labels u) where
  abbrev answer : Node
  answer = by_texts labels

  abbrev M : Node
  M = unlabelled labels

  resolved_shape : nameless answer ≡ nameless u
  resolved_shape = sym (nameless_remarked r.resolved.contexts answer) ∙ ap nameless (sym r.resolved.only_contexts)

  shape : nameless labels ≡ nameless u
  shape = sym (nameless_changed bare labels) ∙ resolved_shape

  same : SameScopes labels u
  same = same_scopes labels u shape

  -- a name of the resolved answer, by its id, and the labelled one that stands there
  record Labelled (p : Path) (x : Id) (w : Standing) : Type 0 where
    name : Ident
    ident : Ident
    there : NameAt labels p name
    here : NameAt u p ident
    stands : id_at labels p ≡ Some (w, id_of name)
    is : id_of ident ≡ x
    text : name.sym ≡ x.0
    label_is : label_in labels p ≡ id_of_label name.ctxt

  label_at : (p : Path) (w : Standing) (x : Id) → id_at u p ≡ Some (w, x) → IsTrue (is_name w) → Labelled p x w
  label_at p w x e n =
      let (i, at, one) = from_id u p w x e in
      let named : IsTrue (is_name at.place.standing) = ap is_name at.stands_so ∙ n in
      let (k, j, found) = same.back p at.place at.kind i at.stands in
      let marked : i ≡ record (bare j) { ctxt = r.resolved.contexts p }
      = one_name (place_at program_place u p) at.place at.place at.kind k i (record (bare j) { ctxt = r.resolved.contexts p }) at.stands
      (stands_there answer u r.resolved.contexts r.resolved.only_contexts p at.place k (bare j) (changed_there bare labels p at.place k j found)) in
      record {
        name = j;
        ident = i;
        there = (at.place, k, found, named);
        here = (at.place, at.kind, at.stands, named);
        stands = to_id labels p w j (record { place = at.place; kind = k; stands = found; stands_so = at.stands_so });
        is = one;
        text = sym (ap (λ (i : Ident). i.sym) marked) ∙ ap (λ (x : Id). x.0) one;
        label_is = ap id_in (to_id M p w (meant j) (record { place = at.place; kind = k; stands = changed_there meant labels p at.place k j found; stands_so = at.stands_so }));
      }

  -- ---- ids

  texts_told : LabelsTellTexts → (p : Path) (x : Id) → IsNameAt u p x → given_text h.new_texts (label_in labels p) ≡ x.0
  texts_told tell p x (w, e, n) = let l = label_at p w x e n in ap (given_text h.new_texts) l.label_is ∙ sym (tell goal before labels ready h p l.name l.there) ∙ l.text

  meant_there : (p : Path) (i : Ident) → NameAt labels p i → NameAt M p (meant i)
  meant_there p i (w, k, e, n) = (w, k, changed_there meant labels p w k i e, n)

  ids_told : LabelsAreIds → (p q : Path) (x y : Id) → IsNameAt u p x → IsNameAt u q y → x ≡ y ↔ label_in labels p ≡ label_in labels q
  ids_told ids p q x y (w, e, n) (v, g, z) =
      let a = label_at p w x e n in
      let b = label_at q v y g z in
      let both = ids goal before labels u ready h r p q (meant a.name) (meant b.name) a.ident b.ident (meant_there p a.name a.there) (meant_there q b.name b.there) a.here b.here in (
        (λ s. a.label_is ∙ id_same (meant a.name) (meant b.name) (both.0 (same_id a.ident b.ident (a.is ∙ s ∙ sym b.is))) ∙ sym b.label_is),
        (λ s. sym a.is ∙ id_same a.ident b.ident (both.1 (same_id (meant a.name) (meant b.name) (sym a.label_is ∙ s ∙ b.label_is))) ∙ b.is),
      )

  -- ---- meetings

  -- ids that meet in the resolved answer have labels that meet in the labelled one
  met_there : MeetingsAreMet → (s p : Path) (x y : Id) (d : Declares u s p x) (o : OccursIn u s y) (n : IsTrue (is_name d.standing))
      → In {X = Id × Id} (id_of (label_at p d.standing x d.stands n).name, id_of (label_at o.path o.standing y o.stands o.names).name) (met labels).pairs
  met_there law s p x y d o n =
      let a = label_at p d.standing x d.stands n in
      let b = label_at o.path o.standing y o.stands o.names in
      law labels s p (id_of a.name) (id_of b.name)
      (declares_alike u labels (sym shape) s p x (id_of a.name) d a.stands (λ e. d.analysed (sym a.text ∙ e)))
      (occurs_alike u labels (sym shape) s y (id_of b.name) o b.stands (λ e. o.analysed (sym b.text ∙ e)))

  -- an id with a label that is declared, or occurs, in the program with labels does so in the program
  from_label : (q : Path) (w : Standing) (x : Id) → id_at (labelled before) q ≡ Some (w, x) → IsAnalysed x → (y : Id) × (id_at before q ≡ Some (w, y)) × IsAnalysed y × (id_of_label x.1 ≡ y)
  from_label q w x e analysed =
      let (i, at, is) = from_id (labelled before) q w x e in
      let (k, j, there, one) = from_changed label before q at.place at.kind i at.stands in
      let text : j.sym ≡ x.0 = ap (λ (i : Ident). i.sym) (sym one) ∙ ap (λ (x : Id). x.0) is in
      let context : x.1 ≡ id_name j = ap (λ (x : Id). x.1) (sym is) ∙ ap (λ (i : Ident). i.ctxt) one in
      (id_of j, to_id before q w j (record { place = at.place; kind = k; stands = there; stands_so = at.stands_so }), (λ e. analysed (sym text ∙ e)), ap id_of_label context ∙ label_means j)

  label_shape : nameless (labelled before) ≡ nameless before
  label_shape = nameless_changed label before

  declared_before : (s q : Path) (x : Id) → Declares (labelled before) s q x → Declares before s q (id_of_label x.1)
  declared_before s q x d =
      let (y, stands, analysed, is) = from_label q d.standing x d.stands d.analysed in
      subst (Declares before s q) (sym is) (declares_alike (labelled before) before label_shape s q x y d stands analysed)

  occurs_before : (s : Path) (x : Id) → OccursIn (labelled before) s x → OccursIn before s (id_of_label x.1)
  occurs_before s x o =
      let (y, stands, analysed, is) = from_label o.path o.standing x o.stands o.analysed in
      subst (OccursIn before s) (sym is) (occurs_alike (labelled before) before label_shape s x y o stands analysed)

  -- ---- loose ids

  loose_text : (x : Id) → IsLoose before x → given_text h.new_texts x ≡ x.0
  loose_text x l = at (h.new_texts x) refl
    where
      at : (o : Option (List ℕ)) → h.new_texts x ≡ o → given_text h.new_texts x ≡ x.0
      at None e = ap (λ o. unwrap_or o x.0) e
      at (Some text) e = let (a, n) = h.named.no_other x text e in absurd (l.unbound (a.1, n.declared.standing, n.declared.stands, n.declared.binds))

  -- the labels of names that are loose were loose
  module _ (loose : LooseNamesWereLoose) (y : Id) (l : IsLoose u y) where
    abbrev was : WasLoose before labels l.path
    was = loose goal before labels u ready h r y l

    names : IsTrue (is_name l.standing)
    names =
        let (w, k, e, n) = was.stands in
        let (c, j, g) = same.forth l.path w k was.name e in
        let (i, at, is) = from_id u l.path l.standing y l.stands in
        ap is_name (sym at.stands_so ∙ ap (λ (w : Place). w.standing) (one_place (place_at program_place u l.path) at.place w at.kind c i j at.stands g)) ∙ n

    label_was : label_in labels l.path ≡ id_of_label was.name.ctxt
    label_was =
        let c = label_at l.path l.standing y l.stands names in
        let (w, k, e, n) = c.there in
        let (v, m, g, z) = was.stands in
        c.label_is ∙ ap (λ (i : Ident). id_of_label i.ctxt) (one_name (place_at program_place labels l.path) w v k m c.name was.name e g)

    loose_told : IsNameAt u l.path y × IsLoose before (label_in labels l.path) × (given_text h.new_texts (label_in labels l.path) ≡ (label_in labels l.path).0)
    loose_told =
        let there = subst (IsLoose before) (sym label_was) was.loose in
        ((l.standing, l.stands, names), there, loose_text (label_in labels l.path) there)

  module _ (tell : LabelsTellTexts) (ids : LabelsAreIds) (loose : LooseNamesWereLoose) (meetings : MeetingsAreMet) (pairs_meet : PairsMeet) (old_pairs : LabelsMeetAsTheOld) where
    met_before : (s p : Path) (x y : Id) → Declares u s p x → (o : OccursIn u s y) → (v q : Path) × Declares before v q (label_in labels p) × OccursIn before v (label_in labels o.path)
    met_before s p x y d o =
        let n = binding_names d.standing d.binds in
        let a = label_at p d.standing x d.stands n in
        let b = label_at o.path o.standing y o.stands o.names in
        let (z, w, i, e, g) = old_pairs goal before labels ready h (id_of a.name) (id_of b.name) (met_there meetings s p x y d o n) in
        let first = old_analysed h.new_texts before h.named z (id_of a.name) e (λ c. d.analysed (sym a.text ∙ c)) in
        let second = old_analysed h.new_texts before h.named w (id_of b.name) g (λ c. o.analysed (sym b.text ∙ c)) in
        let (v, q, declared, occurs) = pairs_meet (labelled before) z w i first second in (
          v,
          q,
          subst (Declares before v q) (sym (a.label_is ∙ ap id_of_label (new_label h.new_texts z (id_of a.name) e))) (declared_before v q z declared),
          subst (OccursIn before v) (sym (b.label_is ∙ ap id_of_label (new_label h.new_texts w (id_of b.name) g))) (occurs_before v w occurs),
        )

    pub carries : Carries before u (given_text h.new_texts) (label_in labels)
    carries = record { texts = texts_told tell; same = ids_told ids; meet = met_before; loose = loose_told loose }

pub labelled_answers_are_apart : HygieneTellsMetApart → LabelsCarryApart → LabelsTellTexts → LabelsAreIds → LooseNamesWereLoose → MeetingsAreMet → PairsMeet → LabelledAnswersAreApartGiven
labelled_answers_are_apart told_apart carry tell ids loose meetings pairs_meet old_pairs goal before labels u ready h r =
    carry before u (given_text h.new_texts) (label_in labels) (carries goal before labels u ready h r tell ids loose meetings pairs_meet old_pairs)
    (told_apart before goal h.new_texts ready.fits (plain_before goal before ready) ready.scoped h.named)
