-- What a renamer whose preserved ids keep apart made of a program is one, but for names, with each source that the program comes from.
use Rattle.std.proofs.Common.{◌≡◌, ℕ, Bool, true, false, IsTrue, inr, Some, List, [], refl, sym, ap, ◌∙◌, subst}
use Rattle.std.specs.Prelude.{unwrap_or, if◌then◌else◌}
use Rattle.swc_tree_marks.specs.declared.ident.Ident.{Ident}
use Rattle.swc_tree_marks.specs.Globals.{Table}
use Rattle.swc_tree_node.specs.declared.kind.Kind.{Kind}
use Rattle.swc_tree_node.specs.declared.slot.Slot.{Slot}
use Rattle.swc_tree_node.specs.declared.node.Node.{Node, Identifier}
use Rattle.swc_tree_node.specs.Fits.{Fits}
use Rattle.swc_tree_scoping.specs.declared.places.Standing.TheVariants as standing
use Rattle.swc_tree_scoping.specs.declared.places.Place.{Place}
use Rattle.swc_tree_scoping.specs.Places.{Path, place_at, program_place}
use Rattle.swc_tree_scoping.specs.Scopes.{is_name, is_taken, rounds, scope_at}
use Rattle.swc_tree_scoping.specs.Declares.{IsUncaught, Meets}
use Rattle.swc_tree_scoping.specs.Readings.{by_ids, id_name}
use Rattle.swc_tree_scoping.specs.Resolved.{is_global_value, is_script}
use Rattle.swc_tree_scoping.specs.WellScoped.{IsClean, NoCaughtVariable, WellScoped}
use Rattle.swc_tree_renaming.specs.Apart.{CapturesNone, DeclaresNoGlobalValue, HasTexts, IsPlainIfScript, IsPlainProgram, MeansNoGlobalValue, NamesApart, SameId, SameScopes, is_goal}
use Rattle.swc_tree_renaming.proofs.Caught.{uncaught}
use Rattle.swc_tree_renaming.proofs.Core.{takers_same}
use Rattle.swc_tree_renaming.proofs.Global.{means_no_global_value, plain_of_goal}
use Rattle.swc_tree_renaming.proofs.Shape.{nameless_by_ids, same_scopes}
use Rattle.swc_tree_renaming.proofs.Whole.{captures_none, from_ids, id_name_same}
use Rattle.swc_tree_grammar.specs.Normal.{normal_form}
use Rattle.swc_tree_sites.specs.Smaller.{IsLeftOf, IsPlain}
use Rattle.swc_tree_sites.proofs.Marked.{taker_takes}
use Rattle.swc_tree_sites.proofs.Transport.{binding_names}
use Rattle.swc_tree_sites_laws.specs.Laws.{IdsAreLeft}
use Rattle.swc_tree_sites_laws.proofs.LeftIds.{captures, clean_ids, one_scope, plain_clean, settled}
use Rattle.swc_base_rename_substitution.specs.declared.config.Config.{Config}
use Rattle.swc_base_rename_substitution.specs.Identifiers.{id_of}
use Rattle.swc_base_rename_analysis.specs.Named.{Renaming}
use Rattle.swc_base_renaming_laws.specs.Lower.swc_base_rename_program.specs.Renamed.{hygiene_renaming}
use Rattle.swc_base_rename_laws.specs.NewNames.{outline}
use Rattle.swc_base_rename_laws.proofs.Outline.{identifiers_alike, rounds_alike, scopes_alike}
use Rattle.swc_base_rename_scoped_laws.specs.Laws.{ChainedIsFlat, KeepsApart, NamesAreApart}
use Rattle.swc_base_rename_scoped_laws.proofs.Apart.{none_preserved}
use Rattle.swc_base_rename_scoped_laws.proofs.TextsByName.{text_by, text_of_id}
use Rattle.swc_base_renaming_laws.specs.NewTexts.{HasRenamedTexts, RenamingGivesNormalFormNewTexts, text_anew}
use Rattle.swc_base_renaming_laws.proofs.Cleared.{outline_texts}
use Rattle.swc_base_renaming_laws.proofs.Words.{same_word, spared}
use Rattle.swc_base_renaming_laws.specs.Hygiene.{IsFinishable}
use Rattle.swc_base_renaming_laws.specs.Renamers.{IsRenamedAndCleared, SparesGlobalValues, SparesIfScript}
use Rattle.swc_base_renaming_laws.specs.Ids.{IsWrittenAs, RenamersKeepMeanings}
use Rattle.swc_base_renaming_laws.proofs.Globals.{TakesNone, takes_none_too}
use Rattle.swc_base_renaming_laws.proofs.Kept.{all_named, top_apart}
use Rattle.swc_base_renaming_laws.proofs.IdsPrograms.{script_of_goal}
use Rattle.swc_base_renaming_laws.proofs.IdsSpans.{one_id, one_outline}
use Rattle.swc_base_alpha_laws.specs.Alpha.{AlphaEquivalent, OtherTextsStay}
use Rattle.swc_ecma_transforms_base_laws.specs.SourceNames.{ComesFrom, HygieneKeepsSources, NormalFormsCatchNone, NormalNamesMeanTheirIds, RenamersKeepSources}
use Rattle.swc_ecma_transforms_base_laws.proofs.Caught.{passes_none}
use Rattle.swc_ecma_transforms_base_laws.proofs.Free.{still_free}
use Rattle.swc_ecma_transforms_base_laws.proofs.Meanings as source_names
use Rattle.swc_ecma_transforms_base_laws.proofs.SourceNamesSources.{Laws, Origin, bare_there, cleared, left_program, normal_means_none, normal_plain, same_normal, settled_program, takes}
use Rattle.swc_ecma_transforms_base_laws.proofs.Variants.{FreeTextsStay, Reads, variants}

not_true : (b : Bool) → ¬ IsTrue b → b ≡ false
not_true true n = absurd (n refl)
not_true false n = refl

module _ (laws : Laws) (apart : NamesAreApart) (flat : ChainedIsFlat) (renaming : RenamingGivesNormalFormNewTexts) (ids_left : IdsAreLeft) (meanings : RenamersKeepMeanings) where
  module _ (r : Renaming) (table : Table) (config : Config) (goal : Slot) (source before middle answer : Node) (keeps : KeepsApart r before) (spares : SparesIfScript r before) (is : IsTrue (is_goal goal))
      (fits_before : Fits before goal) (first : IsFinishable config before) (plain_script : IsPlainIfScript before) (scoped : WellScoped before) (renamed : IsRenamedAndCleared table config r before middle)
      (last : IsWrittenAs goal middle answer) (from : ComesFrom source before) where
    abbrev N : Node
    N = normal_form source

    abbrev M : Node
    M = normal_form before

    abbrev L : Node
    L = normal_form answer

    abbrev origin : Origin source before
    origin = record { goal = goal; is = is; fits_program = fits_before; writable_program = first.writable; plain = plain_script; from = from }

    given : HasRenamedTexts r before middle
    given = renaming r table config goal before middle (top_apart before scoped r keeps) is first.plain fits_before first.writable renamed

    abbrev text : List ℕ → List ℕ
    text = text_by given.new_texts

    shape : outline M ≡ outline L
    shape = given.normal.shape ∙ sym (one_outline L (normal_form middle) last.normal)

    same_shape : SameScopes M L
    same_shape = record {
      rounds_same = λ p. rounds_alike M L shape program_place p;
      scopes_same = λ s. scopes_alike M L shape program_place s;
      forth = λ p w k i h. let (j, e) = identifiers_alike M L shape p program_place w k i h in (k, j, e);
      back = λ p w k i h. let (j, e) = identifiers_alike L M (sym shape) p program_place w k i h in (k, j, e);
    }

    same_back : SameScopes L M
    same_back = record { rounds_same = λ p. sym (same_shape.rounds_same p); scopes_same = λ s. sym (same_shape.scopes_same s); forth = same_shape.back; back = same_shape.forth }

    -- what stands in the answer got its text, and has no context
    named : (p : Path) (w v : Place) (k l : Kind) (i j : Ident) → place_at program_place M p ≡ Some (w, Identifier k i) → place_at program_place L p ≡ Some (v, Identifier l j)
        → (j.sym ≡ text_anew given.new_texts w.standing i) × (j.ctxt ≡ [])
    named p w v k l i j e g =
        let (x, h, sym_is, ctxt_is) = given.normal.texts p w k i e in
        let same : SameId j x = one_id L (normal_form middle) last.normal p v w program_place l k j x g h in
        (same.0 ∙ sym_is, same.1 ∙ ctxt_is)

    -- the new text of a name
    new_name : (w : Place) (i : Ident) → IsTrue (is_name w.standing) → text_anew given.new_texts w.standing i ≡ unwrap_or (given.new_texts (id_of i)) i.sym
    new_name w i n = ap (λ b. if b then unwrap_or (given.new_texts (id_of i)) i.sym else i.sym) n

    clean_answer : IsClean L
    clean_answer p w l j g = let (k, i, e) = same_shape.back p w l j g in (named p w w k l i j e g).1

    -- ---- each of them is a plain program

    plain_before : IsPlainProgram before
    plain_before = plain_of_goal goal before is fits_before plain_script

    plain_normal : IsPlainProgram M
    plain_normal = normal_plain laws goal is before fits_before first.writable (settled_program laws source before origin)

    plain_last : IsPlainProgram L
    plain_last = normal_plain laws goal is answer last.fits last.writable last.settled

    plain_answer : IsPlain L
    plain_answer = plain_clean L plain_last clean_answer

    left_ids : IsLeftOf (by_ids M) (by_ids before)
    left_ids = ids_left M before (left_program laws source before origin)

    -- ---- no new text captures

    names_apart : NamesApart before text
    names_apart = apart before goal fits_before plain_before scoped first.writable r given.new_texts text keeps (all_named flat before goal r given.new_texts fits_before scoped given.named) (text_of_id given.new_texts)

    no_capture : CapturesNone (by_ids before) text
    no_capture = captures_none before text scoped plain_before names_apart

    same_by_ids : SameScopes (by_ids M) L
    same_by_ids =
        let same = same_scopes (by_ids M) M (nameless_by_ids M) in record {
          rounds_same = λ p. same.rounds_same p ∙ same_shape.rounds_same p;
          scopes_same = λ s. same.scopes_same s ∙ same_shape.scopes_same s;
          forth = λ p w k i h. let (l, j, e) = same.forth p w k i h in same_shape.forth p w l j e;
          back = λ p w l j h. let (k, i, e) = same_shape.back p w l j h in same.back p w k i e;
        }

    new_texts : HasTexts (by_ids M) text L
    new_texts p w v k l i j e g n =
        let (c, x, h, same) = from_ids M p w k i e in
        (named p w v c l x j h g).0 ∙ new_name w x n ∙ sym (text_of_id given.new_texts x) ∙ ap (λ (i : Ident). text i.sym) (sym same)

    uncaught_answer : NoCaughtVariable L
    uncaught_answer p x at =
        let (f, taken) = plain_answer.takes p standing.Variable x (record { at = at; binds = refl }) in
        let met : IsUncaught L p x
        = uncaught (by_ids M) L text same_by_ids (clean_ids M) clean_answer new_texts (settled M plain_normal) (one_scope before M text plain_before plain_normal scoped.each_in_one_scope no_capture left_ids)
        (captures before M text plain_before plain_normal scoped.each_in_one_scope no_capture left_ids) p f x at taken in
        passes_none L x (λ z. IsTrue (is_taken standing.Variable (scope_at program_place L z.0))) f (taker_takes L standing.Variable p f taken) (rounds program_place L p) (subst (Meets L p x) taken met)

    -- ---- no name of a global value is declared by the answer of a script

    none_before : IsTrue (is_script before) → TakesNone M
    none_before s = takes_none_too before M (takes laws goal is before fits_before first.writable (settled_program laws source before origin)) (λ p w k i h. (plain_script s).no_global_value p w k i s h)

    declares_none : DeclaresNoGlobalValue L
    declares_none p w l j script g binds global taken =
        let (k, i, e) = same_shape.back p w l j g in
        let script_before = script_of_goal goal is answer before last.fits fits_before (inr script) in
        let own : i.sym ≡ j.sym = same_word before r _ _ given.new_texts given.named i j.sym (spared r (spares script_before) j.sym global) (sym ((named p w w k l i j e g).0 ∙ new_name w i (binding_names w.standing binds))) in
        none_before script_before p w k i e binds (subst (λ x. IsTrue (is_global_value x)) (sym own) global) (takers_same M L same_shape w.standing p ∙ taken)

    means_none : MeansNoGlobalValue L
    means_none = means_no_global_value L plain_last.1 declares_none

    -- ---- names mean the program's ids in the source and in the answer

    source_reads : Reads N M
    source_reads = record {
      plain = source_names.plain laws source before origin;
      same = same_normal laws source before origin;
      means = source_names.names_mean_their_ids laws source before origin;
      no_global = normal_means_none laws source before origin;
      uncaught = source_names.uncaught laws source before origin;
    }

    answer_reads : Reads L M
    answer_reads = record {
      plain = plain_answer;
      same = same_back;
      means = meanings r table config goal before middle answer keeps is fits_before first plain_script scoped renamed last;
      no_global = means_none;
      uncaught = uncaught_answer;
    }

    -- ---- what keeps its text

    -- an identifier has in the source the text of its id
    same_text : (p : Path) (w v : Place) (k l : Kind) (i b : Ident) → place_at program_place N p ≡ Some (w, Identifier k i) → place_at program_place M p ≡ Some (v, Identifier l b) → i.sym ≡ b.sym
    same_text p w v k l i b e h = ap (λ (i : Ident). i.sym) (bare_there laws source before origin p w v k l i b e h)

    others : OtherTextsStay N L
    others p w v k l i j e g none =
        let (c, b, h) = source_reads.same.forth p w k i e in
        same_text p w w k c i b e h ∙ sym ((named p w v c l b j h g).0 ∙ ap (λ z. if z then unwrap_or (given.new_texts (id_of b)) b.sym else b.sym) (not_true (is_name w.standing) none))

    free_texts : FreeTextsStay N L
    free_texts p i a (w, k, e, n) (v, l, g, z) free =
        let (c, b, h) = source_reads.same.forth p w k i e in
        let (j, is_free, same) = still_free laws source before origin plain_before plain_normal left_ids scoped.each_in_one_scope p i b (w, k, e, n) (w, c, h, n) free in
        let kept : text (id_name b) ≡ b.sym = ap text (sym (id_name_same j b same)) ∙ names_apart.free_kept j is_free ∙ same.0 in
        same_text p w w k c i b e h ∙ sym ((named p w v c l b a h g).0 ∙ new_name w b n ∙ sym (text_of_id given.new_texts b) ∙ kept)

    pub kept : AlphaEquivalent source answer
    kept = variants N L M source_reads answer_reads (ap outline (cleared laws source before origin) ∙ outline_texts M ∙ shape) others free_texts

  pub renamers_keep_sources : RenamersKeepSources
  renamers_keep_sources r table config goal source before middle answer keeps spares is fits_before first plain_script scoped renamed last from =
      kept r table config goal source before middle answer keeps spares is fits_before first plain_script scoped renamed last from

-- ---- hygiene

pub hygiene_keeps_sources : RenamersKeepSources → SparesGlobalValues hygiene_renaming → HygieneKeepsSources
hygiene_keeps_sources law spares table config goal source before middle answer = law hygiene_renaming table config goal source before middle answer (none_preserved before hygiene_renaming (λ x. refl)) (λ s. spares)

module _ (laws : Laws) where
  pub normal_forms_catch_none : NormalFormsCatchNone
  normal_forms_catch_none goal source program is f w plain from = source_names.uncaught laws source program (record { goal = goal; is = is; fits_program = f; writable_program = w; plain = plain; from = from })

  pub normal_names_mean_their_ids : NormalNamesMeanTheirIds
  normal_names_mean_their_ids goal source program is f w plain from = source_names.names_mean_their_ids laws source program (record { goal = goal; is = is; fits_program = f; writable_program = w; plain = plain; from = from })
