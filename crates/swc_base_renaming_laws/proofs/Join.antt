-- The laws of what a renamer does put together: ids are kept.
use Rattle.std.proofs.Common.{◌≡◌, ℕ, IsTrue, inl, inr, Option, Some, List, [], refl, sym, ap, ◌∙◌, subst}
use Rattle.std.specs.Prelude.{if◌then◌else◌}
use Rattle.swc_tree_marks.specs.Globals.{Table}
use Rattle.swc_tree_marks.specs.declared.ident.Ident.{Ident}
use Rattle.swc_tree_node.specs.declared.kind.Kind.{Kind}
use Rattle.swc_tree_node.specs.declared.slot.Slot.{Slot}
use Rattle.swc_tree_node.specs.declared.node.Node.{Node, Identifier}
use Rattle.swc_tree_node.specs.Fits.{Fits, fits}
use Rattle.swc_tree_scoping.specs.declared.places.Place.{Place}
use Rattle.swc_tree_scoping.specs.Places.{Path, place_at, program_place}
use Rattle.swc_tree_scoping.specs.Scopes.{is_name}
use Rattle.swc_tree_scoping.specs.Readings.{by_ids, by_texts}
use Rattle.swc_tree_scoping.specs.Resolved.{Resolved, is_global_value, is_script}
use Rattle.swc_tree_scoping.specs.WellScoped.{IsClean, WellScoped}
use Rattle.swc_tree_scoping.proofs.Remarked.{fits-remarked}
use Rattle.swc_tree_renaming.specs.Apart.{CapturesNone, DeclaresNoGlobalValue, HasNoSloppy, HasTexts, IsPlainIfScript, IsPlainProgram, Knows, MeanTheirIds, SameId, SameIds, SameScopes, is_goal, nameless, no_name}
use Rattle.swc_tree_renaming.proofs.Core.{takers_same}
use Rattle.swc_tree_renaming.proofs.Global.{fits_goal, fits_script, means_no_global_value, module_settled, plain_of_goal}
use Rattle.swc_tree_renaming.proofs.Labels.{same_labels}
use Rattle.swc_tree_renaming.proofs.Shape.{nameless_by_ids, nameless_remarked, same_scopes, some_same, twice}
use Rattle.swc_tree_renaming.proofs.Whole.{captures_none, from_ids, identifier_same, script_too}
use Rattle.swc_tree_grammar.specs.Normal.{normal_form}
use Rattle.swc_tree_grammar.specs.Stripped.{stripped}
use Rattle.swc_tree_grammar.specs.Writable.{Writable}
use Rattle.swc_tree_grammar.proofs.Kept.{stripped_fits}
use Rattle.swc_tree_grammar_texts.specs.Laws.{TextsAreAsWritable}
use Rattle.swc_tree_grammar_texts.proofs.Cleared.{bare}
use Rattle.swc_tree_sites.specs.Sites.{taken_at}
use Rattle.swc_tree_sites.specs.Smaller.{IsLeftOf}
use Rattle.swc_tree_sites.proofs.Transport.{binding_names}
use Rattle.swc_tree_sites_laws.specs.Laws.{IdsAreLeft, LeftKeepsIds, LeftMeanTheirIds, StrippedTakesTheSame}
use Rattle.swc_tree_sites_kept.specs.Lower.swc_tree_sites_written.specs.Laws.{WrittenOutIsLeft}
use Rattle.swc_tree_sites_kept.specs.Tame.{WritableModulesAreTame, WritableNormalFormIsLeft}
use Rattle.swc_tree_sites_kept.specs.Scripts.{PlainScriptsAreLeft}
use Rattle.swc_base_fixer_laws.specs.Laws.{TargetsStandBare}
use Rattle.swc_base_rename_substitution.specs.declared.config.Config.{Config}
use Rattle.swc_base_rename_analysis.specs.Named.{Renaming}
use Rattle.swc_base_rename_program.specs.Renamed.{hygiene_renaming}
use Rattle.swc_base_rename_laws.specs.NewNames.{outline}
use Rattle.swc_base_rename_laws.proofs.Outline.{identifiers_alike, rounds_alike, scopes_alike}
use Rattle.swc_base_rename_scoped_laws.specs.Laws.{ChainedIsFlat, KeepsApart, NamesAreApart, new_text}
use Rattle.swc_base_rename_scoped_laws.proofs.Apart.{none_preserved}
use Rattle.swc_base_rename_scoped_laws.proofs.TextsByName.{text_by, text_of_id}
use Rattle.swc_base_renaming_laws.specs.NewTexts.{HasRenamedTexts, RenamingGivesNormalFormNewTexts}
use Rattle.swc_base_renaming_laws.proofs.Cleared.{bare_there}
use Rattle.swc_base_renaming_laws.proofs.Kept.{all_named, top_apart}
use Rattle.swc_base_renaming_laws.proofs.Words.{same_word, spared}
use Rattle.swc_base_renaming_laws.specs.Hygiene.{HygieneSparesGlobalValues, IsFinishable}
use Rattle.swc_base_renaming_laws.specs.Renamers.{IsRenamedAndCleared, SparesGlobalValues, SparesIfScript}
use Rattle.swc_base_renaming_laws.specs.Ids.{HygieneKeepsIds, HygieneKeepsMeanings, IsSettledIfScript, IsWrittenAs, RenamersKeepIds, RenamersKeepMeanings}
use Rattle.swc_base_renaming_laws.proofs.Exported.{normal_cleared, texts_again}
use Rattle.swc_base_renaming_laws.proofs.Globals.{TakesNone, settled_alike, takes_none_too}
use Rattle.swc_base_renaming_laws.proofs.IdsPrograms.{by_goal, module_place, normal_is_module, normal_is_program, script_of_goal, settled_of_goal}
use Rattle.swc_base_renaming_laws.proofs.IdsSpans.{one_id, one_outline}

-- ---- trees of one shape

through : (t u v : Node) → SameScopes t u → SameScopes u v → SameScopes t v
through t u v a b = record {
  rounds_same = λ p. a.rounds_same p ∙ b.rounds_same p;
  scopes_same = λ s. a.scopes_same s ∙ b.scopes_same s;
  forth = λ p w k i h. let (l, j, e) = a.forth p w k i h in b.forth p w l j e;
  back = λ p w l j h. let (k, i, e) = b.back p w l j h in a.back p w k i e;
}

nameless_texts : (t : Node) → nameless (by_texts t) ≡ nameless t
nameless_texts t = twice (λ i. record i { ctxt = [] }) (λ i. no_name) t

one_name : (w v : Place) (k l : Kind) (i j : Ident) (o : Option (Place × Node)) → o ≡ Some (w, Identifier k i) → o ≡ Some (v, Identifier l j) → i ≡ j
one_name w v k l i j o e g = identifier_same k l i j (ap (λ (q : Place × Node). q.1) (some_same (w, Identifier k i) (v, Identifier l j) (sym e ∙ g)))

-- ---- the laws

module _ (apart : NamesAreApart) (flat : ChainedIsFlat) (texts : RenamingGivesNormalFormNewTexts) (modules : WritableNormalFormIsLeft) (scripts : PlainScriptsAreLeft) (ids_left : IdsAreLeft) where
  left : (goal : Slot) → IsTrue (is_goal goal) → (t : Node) → Fits t goal → Writable t → IsSettledIfScript t → IsLeftOf (normal_form t) t
  left = by_goal (λ goal. (t : Node) → Fits t goal → Writable t → IsSettledIfScript t → IsLeftOf (normal_form t) t) (λ t f w s. modules t f w) (λ t f w s. (scripts t f w (s (fits_script t f))).left)

  normal_settled : (goal : Slot) → IsTrue (is_goal goal) → (t : Node) → Fits t goal → Writable t → IsSettledIfScript t → HasNoSloppy (normal_form t)
  normal_settled = by_goal (λ goal. (t : Node) → Fits t goal → Writable t → IsSettledIfScript t → HasNoSloppy (normal_form t))
      (λ t f w s. module_settled (normal_form t) (normal_is_module t f)) (λ t f w s. (scripts t f w (s (fits_script t f))).settled.0)

  module _ (renamer : Renaming) (table : Table) (config : Config) (goal : Slot) (before middle answer : Node) (keeps : KeepsApart renamer before) (is : IsTrue (is_goal goal)) (fits_before : Fits before goal) (first : IsFinishable config before) (plain_script : IsPlainIfScript before) (scoped : WellScoped before)
      (renamed : IsRenamedAndCleared table config renamer before middle) (last : IsWrittenAs goal middle answer) where
    abbrev N : Node
    N = normal_form before

    abbrev L : Node
    L = normal_form answer

    given : HasRenamedTexts renamer before middle
    given = texts renamer table config goal before middle (top_apart before scoped renamer keeps) is first.plain fits_before first.writable renamed

    abbrev text : List ℕ → List ℕ
    text = text_by given.new_texts

    shape : outline N ≡ outline L
    shape = given.normal.shape ∙ sym (one_outline L (normal_form middle) last.normal)

    same_shape : SameScopes N L
    same_shape = record {
      rounds_same = λ p. rounds_alike N L shape program_place p;
      scopes_same = λ s. scopes_alike N L shape program_place s;
      forth = λ p w k i h. let (j, e) = identifiers_alike N L shape p program_place w k i h in (k, j, e);
      back = λ p w k i h. let (j, e) = identifiers_alike L N (sym shape) p program_place w k i h in (k, j, e);
    }

    same_by_ids : SameScopes (by_ids N) L
    same_by_ids = through (by_ids N) N L (same_scopes (by_ids N) N (nameless_by_ids N)) same_shape

    settled_before : IsSettledIfScript before
    settled_before s = let p = plain_script s in (p.settled, p.unlabelled)

    -- each of them is a plain program
    plain_before : IsPlainProgram before
    plain_before = plain_of_goal goal before is fits_before plain_script

    plain_normal : IsPlainProgram N
    plain_normal = (normal_is_program goal is before fits_before, normal_settled goal is before fits_before first.writable settled_before)

    plain_answer : IsPlainProgram answer
    plain_answer = (fits_goal goal answer is last.fits, settled_of_goal goal is answer last.fits last.settled)

    plain_last : IsPlainProgram L
    plain_last = (normal_is_program goal is answer last.fits, settled_alike N L same_shape plain_normal.1)

    left_before : IsLeftOf N before
    left_before = left goal is before fits_before first.writable settled_before

    -- what stands there got its text, and has no context
    named : (p : Path) (w v : Place) (k l : Kind) (i j : Ident) → place_at program_place N p ≡ Some (w, Identifier k i) → place_at program_place L p ≡ Some (v, Identifier l j)
        → (IsTrue (is_name w.standing) → j.sym ≡ new_text given.new_texts i) × (j.ctxt ≡ [])
    named p w v k l i j e g =
        let (x, h, sym_is, ctxt_is) = given.normal.texts p w k i e in
        let same : SameId j x = one_id L (normal_form middle) last.normal p v w program_place l k j x g h in
        ((λ n. same.0 ∙ sym_is ∙ ap (λ b. if b then new_text given.new_texts i else i.sym) n), same.1 ∙ ctxt_is)

    clean_answer : IsClean L
    clean_answer p w l j g = let (k, i, e) = same_shape.back p w l j g in (named p w w k l i j e g).1

    new_texts : HasTexts (by_ids N) text L
    new_texts p w v k l i j e g n =
        let (c, x, h, is) = from_ids N p w k i e in
        (named p w v c l x j h g).0 n ∙ sym (text_of_id given.new_texts x) ∙ ap (λ (i : Ident). text i.sym) (sym is)

    no_capture : CapturesNone (by_ids before) text
    no_capture = captures_none before text scoped plain_before (apart before goal fits_before plain_before scoped first.writable renamer given.new_texts text keeps (all_named flat before goal renamer given.new_texts fits_before scoped given.named) (text_of_id given.new_texts))

    pub meanings_kept : LeftMeanTheirIds → MeanTheirIds L N
    meanings_kept law = law before N L text plain_before plain_normal plain_last scoped.each_in_one_scope no_capture (ids_left N before left_before) same_by_ids clean_answer new_texts

    -- a new text is that of a global value only where it is the old one
    takes_none_new : SparesGlobalValues renamer → TakesNone N → TakesNone L
    takes_none_new spares none p w l j g b global taken =
        let (k, i, e) = same_shape.back p w l j g in
        let own : i.sym ≡ j.sym = same_word before renamer _ _ given.new_texts given.named i j.sym (spared renamer spares j.sym global) (sym ((named p w w k l i j e g).0 (binding_names w.standing b))) in
        none p w k i e b (subst (λ x. IsTrue (is_global_value x)) (sym own) global) (takers_same N L same_shape w.standing p ∙ taken)

    module _ (targets : TargetsStandBare) (tame : WritableModulesAreTame) (written : WrittenOutIsLeft) (stripped_takes : StrippedTakesTheSame) (as_writable : TextsAreAsWritable) (left_keeps : LeftKeepsIds)
        (spares : SparesIfScript renamer before) (u : Node) (unresolved top : ℕ) (old new : List (ℕ × ℕ)) (knows : Knows old unresolved) (r : Resolved unresolved top old new answer u) where
      abbrev M : Node
      M = normal_form u

      fits_u : Fits u goal
      fits_u = ap (λ t. fits t goal) r.only_contexts ∙ fits-remarked r.contexts answer goal ∙ last.fits

      writable_u : Writable u
      writable_u = sym (as_writable u) ∙ subst Writable (sym (texts_again answer u r.contexts r.only_contexts last.clean)) last.writable

      same_but_contexts : nameless answer ≡ nameless u
      same_but_contexts = sym (ap nameless r.only_contexts ∙ nameless_remarked r.contexts answer)

      settled_u : IsSettledIfScript u
      settled_u s =
          let whole = last.settled (script_too u answer (sym same_but_contexts) s) in
          (settled_alike answer u (same_scopes answer u same_but_contexts) whole.0, sym (same_labels answer u same_but_contexts) ∙ whole.1)

      cleared : L ≡ by_texts M
      cleared = normal_cleared goal is unresolved top old new answer u last.clean last.fits r fits_u writable_u

      same_resolved : SameScopes L M
      same_resolved = same_scopes L M (ap nameless cleared ∙ nameless_texts M)

      kept_texts : HasTexts L (λ x. x) M
      kept_texts p w v k l i j e g n =
          ap (λ (i : Ident). i.sym) (one_name v w l k (bare j) i (place_at program_place L p) (ap (λ t. place_at program_place t p) cleared ∙ bare_there p program_place v M l j g) e)

      -- the program takes the same in the normal form
      takes : (t : Node) → Fits t goal → Writable t → IsSettledIfScript t → taken_at program_place (normal_form t) ≡ taken_at program_place t
      takes = by_goal (λ goal. (t : Node) → Fits t goal → Writable t → IsSettledIfScript t → taken_at program_place (normal_form t) ≡ taken_at program_place t)
          (λ t f w s. let b = targets t module_place f w in (written (stripped t) (stripped_fits t module_place b refl f) (tame t f w)).1 ∙ stripped_takes t f b)
          (λ t f w s. (scripts t f w (s (fits_script t f))).takes) goal is

      -- a script's answer takes no global value, since the script takes none
      none_last : IsTrue (is_script before) → TakesNone L
      none_last s = takes_none_new (spares s) (takes_none_too before N (takes before fits_before first.writable settled_before) (λ p w k i h. (plain_script s).no_global_value p w k i s h))

      declares_none : DeclaresNoGlobalValue answer
      declares_none p w k i s =
          takes_none_too L answer (sym (takes answer last.fits last.writable last.settled)) (none_last (script_of_goal goal is answer before last.fits fits_before (inl s))) p w k i

      declares_none_last : DeclaresNoGlobalValue L
      declares_none_last p w k i s = none_last (script_of_goal goal is answer before last.fits fits_before (inr s)) p w k i

      pub ids_kept : SameIds N M
      ids_kept =
          left_keeps before N answer L u M text unresolved top old new plain_before plain_normal plain_answer plain_last scoped.each_in_one_scope no_capture (ids_left N before left_before) same_by_ids clean_answer new_texts
          last.clean knows r (left goal is u fits_u writable_u settled_u) (takes u fits_u writable_u settled_u) same_resolved kept_texts
          (means_no_global_value answer plain_answer.1 declares_none) (means_no_global_value L plain_last.1 declares_none_last)

  pub renamers_keep_meanings : LeftMeanTheirIds → RenamersKeepMeanings
  renamers_keep_meanings law renamer table config goal before middle answer keeps is fits_before first plain scoped renamed last =
      meanings_kept renamer table config goal before middle answer keeps is fits_before first plain scoped renamed last law

  pub renamers_keep_ids : TargetsStandBare → WritableModulesAreTame → WrittenOutIsLeft → StrippedTakesTheSame → TextsAreAsWritable → LeftKeepsIds → RenamersKeepIds
  renamers_keep_ids targets tame written stripped_takes as_writable left_keeps renamer table config goal before middle answer u unresolved top old new keeps spares is fits_before first plain scoped renamed last knows r =
      ids_kept renamer table config goal before middle answer keeps is fits_before first plain scoped renamed last targets tame written stripped_takes as_writable left_keeps spares u unresolved top old new knows r

-- ---- hygiene

pub hygiene_keeps_meanings : RenamersKeepMeanings → HygieneKeepsMeanings
hygiene_keeps_meanings law table config goal before middle answer = law hygiene_renaming table config goal before middle answer (none_preserved before hygiene_renaming (λ x. refl))

pub hygiene_keeps_ids : RenamersKeepIds → HygieneSparesGlobalValues → HygieneKeepsIds
hygiene_keeps_ids law spares table config goal before middle answer u unresolved top old new =
    law hygiene_renaming table config goal before middle answer u unresolved top old new (none_preserved before hygiene_renaming (λ x. refl)) (λ s. spares)
