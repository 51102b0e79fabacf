-- What the labels of the fixer's answer stand for: its names' texts, and what they mean.
use Rattle.std.proofs.Common.{◌≡◌, ℕ, Bool, true, false, Option, Some, None, List, [], ◌∷◌, ◌++◌, length, refl, sym, ap, ◌∙◌, subst}
use Rattle.std.specs.Prelude.{option_map, if◌then◌else◌}
use Rattle.swc_tree_marks.specs.declared.ident.Ident.{Ident}
use Rattle.swc_tree_node.specs.declared.slot.Slot.{Slot}
use Rattle.swc_tree_node.specs.declared.node.Node.{Node, Identifier}
use Rattle.swc_tree_node.specs.Fits.{Fits}
use Rattle.swc_tree_scoping.specs.Places.{place_at, program_place}
use Rattle.swc_tree_scoping.specs.Readings.{by_ids, by_texts, with_identifiers}
use Rattle.swc_tree_scoping.specs.WellScoped.{IsClean}
use Rattle.swc_tree_renaming.specs.Apart.{CapturesNone, HasNoSloppy, HasTexts, IsPlainProgram, MeanTheirIds, SameScopes}
use Rattle.swc_tree_renaming.proofs.Global.{plain_of_goal}
use Rattle.swc_tree_renaming.proofs.Shape.{same_scopes, twice}
use Rattle.swc_tree_renaming.proofs.Whole.{by_id, captures_none}
use Rattle.swc_tree_grammar.specs.Fixed.{fixed}
use Rattle.swc_tree_grammar.specs.Normal.{normal_form}
use Rattle.swc_tree_grammar_texts.specs.Laws.{TextsAreAsWritable}
use Rattle.swc_tree_grammar_texts.proofs.Cleared.{bare}
use Rattle.swc_tree_sites.specs.Sites.{Site, counted}
use Rattle.swc_tree_sites.specs.Smaller.{In, IsLeftOf}
use Rattle.swc_tree_sites.proofs.Found.{env_at, finds}
use Rattle.swc_tree_sites.proofs.Kept.{S}
use Rattle.swc_tree_sites_laws.specs.Laws.{LeftMeanTheirIds}
use Rattle.swc_tree_sites_kept.specs.Scripts.{FixedScriptsLoseNoName}
use Rattle.swc_base_fixer_laws.specs.Laws.{FixedFitsTable, TargetsStandBare}
use Rattle.swc_base_resolver_laws.specs.Laws.{ResolvedNamesMeanTheirIds}
use Rattle.swc_base_rename_substitution.specs.Names.{Id, if_other_text, same_text}
use Rattle.swc_base_renaming_laws.proofs.KeepsNormal.{is_program}
use Rattle.swc_base_rename_program.specs.Renamed.{hygiene_renaming}
use Rattle.swc_base_rename_scoped_laws.specs.Laws.{NamesAreApart}
use Rattle.swc_base_rename_scoped_laws.proofs.Apart.{none_preserved}
use Rattle.swc_base_rename_scoped_laws.proofs.TextsByName.{text_by, text_of_id}
use Rattle.swc_base_renaming_laws.specs.Contexts.{id_of_label, labelled_changes}
use Rattle.swc_base_renaming_laws.specs.LabelledLabels.{KeepsContexts, by_contexts, label, labelled, meant, name_of_label, named_by, unlabelled}
use Rattle.swc_base_renaming_laws.specs.Labelled.{FixedNamesAreLeft, HasNewLabels, IsReady, IsWrittenOf, LabelsAreIds, LabelsAreMeant, LabelsTellTexts}
use Rattle.swc_base_renaming_laws.proofs.LabelledChanged.{changed_there, fits_changed, from_changed, nameless_changed, one_name}
use Rattle.swc_base_renaming_laws.proofs.Left.{Laws, answer_in_normal}
use Rattle.swc_base_renaming_laws.proofs.LabelledPrograms.{fixed_fits, fixed_is_plain, normal_left, plain_changed, settled_changed, settled_of_plain}
use Rattle.swc_base_renaming_laws.proofs.Texts.{fits_labelled, label_means, labelled_own, left_own, told, writable_labelled}

-- ---- a program with labels

-- it can be written down as the program can
written_labelled : TextsAreAsWritable → (goal : Slot) (before : Node) → IsReady goal before → IsWrittenOf goal (labelled before)
written_labelled texts goal before ready = record {
  fits = fits_labelled before goal ready.fits;
  writable = writable_labelled texts before ready.writable;
  settled = settled_changed label before (settled_of_plain before ready.plain);
}

pub plain_before : (goal : Slot) (before : Node) → IsReady goal before → IsPlainProgram before
plain_before goal before ready = plain_of_goal goal before ready.program ready.fits ready.plain

-- ---- texts

-- a name of the answer is one of the normal form
pub labels_tell_texts : Laws → TextsAreAsWritable → LabelsTellTexts
labels_tell_texts laws texts goal before labels ready h p i (w, k, there, names) =
    let first = written_labelled texts goal before ready in
    let inside = answer_in_normal laws h.place goal ready.program h.given h.written in
    let stands : place_at program_place (fixed h.place h.given) p ≡ Some (w, Identifier k i) = ap (λ t. place_at program_place t p) (sym h.fixed_so) ∙ there in
    let site : Site = (counted w.standing, i, env_at program_place (fixed h.place h.given) p) in
    let found : In site (S program_place (fixed h.place h.given)).sites
    = (finds (fixed h.place h.given) program_place site).1 (record { path = p; place = w; kind = k; stands = stands; stands_so = refl; names = names; env = refl }) in
    told h.new_texts (normal_form (labelled before)) (normal_form h.given) (laws.new_names (labelled_changes h.new_texts) (labelled before) h.given (is_program goal (labelled before) ready.program first.fits) first.writable h.substituted)
    (left_own (normal_form (labelled before)) (labelled before) (normal_left laws.modules_left laws.scripts_left goal ready.program (labelled before) first) (labelled_own before)) site (inside.names site found)

-- ---- contexts stay

pub keeps : (new_texts : Id → Option (List ℕ)) → KeepsContexts (labelled_changes new_texts)
keeps new_texts x y e = at (new_texts (x.0, (id_of_label x.1).1)) e
  where
    by : (text : List ℕ) (b : Bool) → (if b then None else Some (text, x.1)) ≡ Some y → y.1 ≡ x.1
    by text true e = absurd (cc)
    by text false e = let same : (text, x.1) ≡ y = cc in ap (λ (y : Id). y.1) (sym same)

    at : (o : Option (List ℕ)) → if_other_text x (option_map (λ text. (text, x.1)) o) ≡ Some y → y.1 ≡ x.1
    at None e = absurd (cc)
    at (Some text) e = by text (same_text (text, x.1) x) e

-- ---- what is left of the program, by ids

by_labels : (t : Node) → by_contexts name_of_label (labelled t) ≡ by_ids t
by_labels t = twice label (named_by name_of_label) t ∙ ap (λ (f : Ident → Ident). with_identifiers f t) (λ n i. record i { sym = ap (λ (x : Id). length x.0 ∷ (x.0 ++ x.1)) (label_means i) n; ctxt = [] })

pub clean_texts : (t : Node) → IsClean (by_texts t)
clean_texts t p w k i h = let (l, j, e, is) = from_changed bare t p w k i h in ap (λ (i : Ident). i.ctxt) is

module _ (left : FixedNamesAreLeft) (fits_table : FixedFitsTable) (bare_targets : TargetsStandBare) (lose : FixedScriptsLoseNoName) (texts : TextsAreAsWritable) (goal : Slot) (before labels : Node) (ready : IsReady goal before) (h : HasNewLabels goal before labels) where
  abbrev pub A : Node
  A = by_ids (unlabelled labels)

  pub is_left : IsLeftOf A (by_ids before)
  is_left =
      subst (IsLeftOf A) (by_labels before)
      (subst (λ n. IsLeftOf n (by_contexts name_of_label (labelled before))) (ap (by_contexts name_of_label) (sym h.fixed_so) ∙ sym (twice meant by_id labels))
      (left (labelled_changes h.new_texts) name_of_label h.place goal (labelled before) h.given (keeps h.new_texts) ready.program (written_labelled texts goal before ready) h.substituted h.written))

  fits_labels : Fits labels goal
  fits_labels = subst (λ t. Fits t goal) (sym h.fixed_so) (fixed_fits fits_table bare_targets h.place goal ready.program h.given h.written)

  none_sloppy : HasNoSloppy labels
  none_sloppy = subst HasNoSloppy (sym h.fixed_so) (fixed_is_plain fits_table bare_targets h.place goal ready.program h.given h.written lose)

  pub fits_meant : Fits (unlabelled labels) goal
  fits_meant = fits_changed meant labels goal ∙ fits_labels

  pub fits_texts : Fits (by_texts labels) goal
  fits_texts = fits_changed bare labels goal ∙ fits_labels

  pub plain_meant : IsPlainProgram (unlabelled labels)
  plain_meant = plain_changed goal ready.program meant labels fits_labels none_sloppy

  plain_texts : IsPlainProgram (by_texts labels)
  plain_texts = plain_changed goal ready.program bare labels fits_labels none_sloppy

  -- the labels' answer, by ids, and without labels
  shape : SameScopes A (by_texts labels)
  shape = same_scopes A (by_texts labels) (nameless_changed by_id (unlabelled labels) ∙ nameless_changed meant labels ∙ sym (nameless_changed bare labels))

  abbrev text : List ℕ → List ℕ
  text = text_by h.new_texts

  none : NamesAreApart → CapturesNone (by_ids before) text
  none apart =
      let plain = plain_before goal before ready in
      captures_none before text ready.scoped plain (apart before goal ready.fits plain ready.scoped ready.writable hygiene_renaming h.new_texts text (none_preserved before hygiene_renaming (λ x. refl)) h.named (text_of_id h.new_texts))

  has_texts : LabelsTellTexts → HasTexts A text (by_texts labels)
  has_texts tell p w v k l i j e g n =
      let (c, x, there, is) = from_changed by_id (unlabelled labels) p w k i e in
      let (d, y, here, one) = from_changed meant labels p w c x there in
      let bare_one : j ≡ bare y = one_name (place_at program_place (by_texts labels) p) v w l d j (bare y) g (changed_there bare labels p w d y here) in
      ap (λ (i : Ident). i.sym) bare_one ∙ tell goal before labels ready h p y (w, d, here, n) ∙ sym (text_of_id h.new_texts (meant y)) ∙ ap (λ (i : Ident). text i.sym) (sym (is ∙ ap by_id one))

  mean : NamesAreApart → LabelsTellTexts → LeftMeanTheirIds → MeanTheirIds (by_texts labels) (unlabelled labels)
  mean apart tell law =
      law before (unlabelled labels) (by_texts labels) text (plain_before goal before ready) plain_meant plain_texts ready.scoped.each_in_one_scope (none apart) is_left shape (clean_texts labels) (has_texts tell)

pub labels_are_meant : FixedNamesAreLeft → FixedFitsTable → TargetsStandBare → FixedScriptsLoseNoName → TextsAreAsWritable → NamesAreApart → LabelsTellTexts → LeftMeanTheirIds → LabelsAreMeant
labels_are_meant left fits_table bare_targets lose texts apart tell law goal before labels ready h = mean left fits_table bare_targets lose texts goal before labels ready h apart tell law

-- ---- ids

pub labels_are_ids : FixedNamesAreLeft → FixedFitsTable → TargetsStandBare → FixedScriptsLoseNoName → TextsAreAsWritable → LabelsAreMeant → ResolvedNamesMeanTheirIds → LabelsAreIds
labels_are_ids left fits_table bare_targets lose texts meaning resolved goal before labels u ready h r p q i j a b (w, k, e, n) (v, l, g, z) y x =
    let answer = by_texts labels in
    let fits_answer = fits_texts left fits_table bare_targets lose texts goal before labels ready h in
    let same : SameScopes (unlabelled labels) answer = same_scopes (unlabelled labels) answer (nameless_changed meant labels ∙ sym (nameless_changed bare labels)) in
    let (c, i0, first) = same.forth p w k i e in
    let (d, j0, second) = same.forth q v l j g in
    let one = meaning goal before labels ready h p q i0 j0 i j (w, c, first, n) (v, d, second, z) (w, k, e, n) (v, l, g, z) in
    let two = resolved goal answer u r.unresolved r.top r.old r.new ready.program fits_answer r.plain (clean_texts labels) r.fair r.known r.resolved p q i0 j0 a b (w, c, first, n) (v, d, second, z) y x in
    ((λ s. one.0 (two.1 s)), (λ s. two.0 (one.1 s)))
