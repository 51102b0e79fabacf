-- What hygiene and then the fixer answer has texts apart where ids meet, once it is resolved: by the laws of labels.
use Rattle.std.proofs.Common.{◌≡◌, ℕ, Bool, true, false, IsTrue, inl, nat_eq, Option, Some, None, List, [], refl, sym, ap, ◌∙◌, subst}
use Rattle.std.specs.Prelude.{option_map, if◌then◌else◌}
use Rattle.std.specs.Cmp.Lexicographic.{pointwise}
use Rattle.std.proofs.Math.Seq.{drop-append_seam, take-append_seam}
use Rattle.swc_tree_node.specs.declared.node.Node.{Node}
use Rattle.swc_tree_node.specs.Fits.{Fits, fits}
use Rattle.swc_tree_scoping.specs.Readings.{by_texts}
use Rattle.swc_tree_scoping.specs.Resolved.{Resolved}
use Rattle.swc_tree_scoping.specs.BoundNames.{Id}
use Rattle.swc_tree_scoping.specs.WellScoped.{NoEarlyErrorOfNames}
use Rattle.swc_tree_renaming.specs.Apart.{IsPlainIfScript, nameless}
use Rattle.swc_tree_renaming.proofs.Global.{fits_goal}
use Rattle.swc_tree_grammar.specs.Blocks.{with_blocks}
use Rattle.swc_tree_grammar.specs.Fixed.{fixed}
use Rattle.swc_tree_grammar.specs.Stripped.{stripped}
use Rattle.swc_tree_grammar.specs.Writable.{is_writable}
use Rattle.swc_tree_grammar.proofs.BlocksKept.{blocks_fit}
use Rattle.swc_tree_grammar.proofs.Kept.{stripped_fits}
use Rattle.swc_tree_grammar_texts.specs.Laws.{TextsAreAsWritable}
use Rattle.swc_tree_grammar_texts.proofs.Cleared.{bare}
use Rattle.swc_tree_sites.specs.Smaller.{In}
use Rattle.swc_tree_sites.proofs.Found.{in_map}
use Rattle.swc_base_fixer_laws.specs.Laws.{TargetsStandBare}
use Rattle.swc_base_fixer_texts.specs.Laws.{FixingNeedsNoContexts}
use Rattle.swc_base_rename_substitution.specs.declared.place.Place.TheVariants as place
use Rattle.swc_base_rename_substitution.specs.Names.{if_other_text}
use Rattle.swc_base_rename_substitution.specs.Substituted.{substituted}
use Rattle.swc_base_rename_program.specs.Renamed.{hygiene_renaming, new_id_by}
use Rattle.swc_base_renaming_laws.specs.Hygiene.{HygieneStaysFitting, HygieneStaysSettled, HygieneStaysWritable}
use Rattle.swc_base_renaming_laws.proofs.StaysWritable.{plain_names}
use Rattle.swc_base_renaming_laws.proofs.NewTexts.{substituted_given}
use Rattle.swc_base_renaming_laws.specs.Errors.{AnswerHasNoEarlyErrorOfNames}
use Rattle.swc_base_renaming_laws.proofs.ErrorsPrograms.{goal_open}
use Rattle.swc_base_renaming_laws.specs.Ids.{IsSettledIfScript}
use Rattle.swc_base_renaming_laws.proofs.IdsPrograms.{script_of_goal}
use Rattle.swc_base_renaming_laws.specs.Contexts.{SubstitutionNeedsNoContexts, id_of_label, labelled_changes, new_text, own_label, with_label}
use Rattle.swc_base_renaming_laws.specs.KeptMeetings.{DuePairsKeepMeetings, StrippingAddsNoPairs}
use Rattle.swc_base_renaming_laws.specs.NamedMeetings.{SubstitutionKeepsMeetings, anew, other_pair}
use Rattle.swc_base_renaming_laws.specs.Settled.{BlocksAddNoPairs, ProgramsTakeAll}
use Rattle.swc_base_renaming_laws.specs.Meetings.{Met, met}
use Rattle.swc_base_renaming_laws.specs.LabelledLabels.{labelled}
use Rattle.swc_base_renaming_laws.specs.Labelled.{HasNewLabels, IsReady, IsResolvedSo}
use Rattle.swc_base_renaming_laws.proofs.LabelledChanged.{fits_changed, nameless_changed}
use Rattle.swc_base_renaming_laws.proofs.LabelledPrograms.{settled_shape}
use Rattle.swc_base_renaming_laws.proofs.Texts.{fits_labelled}
use Rattle.swc_base_renaming_laws.specs.Carried.{LabelledAnswersAreApartGiven, LabelsMeetAsTheOld}
use Rattle.swc_ecma_transforms_base_laws.specs.Settled.{AnswersAreApart, AnswersAreCleanPrograms, ChainChangesNothing, ChainChangesNothingGiven, ChainChangesSpans, ChainChangesSpansGiven}

-- ---- ids with labels meet as the old ones did

pub labels_meet_as_the_old : DuePairsKeepMeetings → BlocksAddNoPairs → StrippingAddsNoPairs → ProgramsTakeAll → SubstitutionKeepsMeetings → TargetsStandBare → LabelsMeetAsTheOld
labels_meet_as_the_old pairs blocks strips take keeps targets goal before labels ready h x y i =
    let is = ready.program in
    let first = fits_labelled before goal ready.fits in
    let bare_targets = targets h.given goal h.written.fits h.written.writable in
    let within : Fits (stripped h.given) goal = stripped_fits h.given goal bare_targets (goal_open goal is) h.written.fits in
    let blocked = blocks_fit (stripped h.given) goal within in
    let in_blocks : In {X = Id × Id} (x, y) (met (with_blocks (stripped h.given))).pairs
    = subst (λ (m : Met). In {X = Id × Id} (x, y) m.pairs) (ap met h.fixed_so ∙ pairs h.place goal (with_blocks (stripped h.given)) is blocked) i in
    let in_given = strips goal h.given is h.written.fits bare_targets (take h.given (fits_goal goal h.given is h.written.fits)) (x, y)
    (blocks (stripped h.given) (take (stripped h.given) (fits_goal goal (stripped h.given) is within)) (x, y) in_blocks) in
    let all = keeps (labelled_changes h.new_texts) goal (labelled before) h.given first (take (labelled before) (fits_goal goal (labelled before) is first)) h.substituted in
    let (z, j, e) = in_map (other_pair (anew (labelled_changes h.new_texts))) (x, y) (met (labelled before)).pairs (all.pairs (x, y) in_given) in
    (z.0, z.1, j, ap (λ (z : Id × Id). z.0) e, ap (λ (z : Id × Id). z.1) e)

-- ---- new names need no labels

module _ (new_texts : Id → Option (List ℕ)) (x : Id) where
  chosen : (text : List ℕ) (b : Bool) → new_text (if b then None else Some (text, own_label x)) ≡ new_text (if b then None else Some (text, []))
  chosen text true = refl
  chosen text false = refl

  given : (o : Option (List ℕ)) → new_text (if_other_text (x.0, own_label x) (option_map (λ text. (text, own_label x)) o)) ≡ new_text (if_other_text x (option_map (λ text. (text, [])) o))
  given None = refl
  given (Some text) = chosen text (pointwise nat_eq text x.0)

  same_text_given : new_text (labelled_changes new_texts (with_label own_label x)) ≡ new_text (new_id_by new_texts x)
  same_text_given = ap (λ c. new_text (if_other_text (x.0, own_label x) (option_map (λ text. (text, own_label x)) (new_texts (x.0, c))))) (drop-append_seam x.0 x.1) ∙ given (new_texts x)

own_id : (x : Id) → id_of_label (own_label x) ≡ x
own_id x = λ n. (take-append_seam x.0 x.1 n, drop-append_seam x.0 x.1 n)

needs_no_labels : SubstitutionNeedsNoContexts → (new_texts : Id → Option (List ℕ)) (t : Node) → by_texts (substituted (labelled_changes new_texts) false place.Other (labelled t)) ≡ by_texts (substituted (new_id_by new_texts) false place.Other t)
needs_no_labels needless new_texts t =
    needless own_label (new_id_by new_texts) (labelled_changes new_texts) false place.Other t (record { apart = λ x y e f. sym (own_id x) ∙ ap id_of_label f ∙ own_id y; texts = same_text_given new_texts })

-- ---- answers

pub answers_are_apart : HygieneStaysFitting → HygieneStaysWritable → HygieneStaysSettled → AnswerHasNoEarlyErrorOfNames → AnswersAreCleanPrograms → FixingNeedsNoContexts → SubstitutionNeedsNoContexts → TextsAreAsWritable → LabelsMeetAsTheOld → LabelledAnswersAreApartGiven
    → AnswersAreApart
answers_are_apart fitting stays stays_settled fair cleans fixing needless texts old_pairs law answer u unresolved top old new a known resolved =
    let (given, renamed, cleared) = a.hygienic in
    let names = plain_names hygiene_renaming a.table a.config a.before given a.finishable.plain renamed in
    let within : Fits a.middle a.goal = fitting a.table a.config a.goal a.before a.middle a.program a.finishable.plain a.stands a.hygienic in
    let writable : IsTrue (is_writable a.middle) = stays a.table a.config a.goal a.before a.middle a.finishable.plain a.stands a.finishable.writable a.hygienic in
    let settled : IsSettledIfScript a.middle
    = (λ s. let p = a.plain (script_of_goal a.goal a.program a.middle a.before within a.stands (inl s)) in stays_settled a.table a.config a.goal a.before a.middle a.program a.finishable.plain a.stands a.hygienic (p.settled, p.unlabelled)) in
    let v = substituted (labelled_changes names.new_texts) false place.Other (labelled a.before) in
    let text_of_v : by_texts v ≡ a.middle = needs_no_labels needless names.new_texts a.before ∙ ap by_texts (sym (substituted_given hygiene_renaming a.before given names)) ∙ sym cleared in
    let labels = fixed a.place v in
    let text_of_labels : by_texts labels ≡ answer = sym (fixing a.place v) ∙ ap (fixed a.place) text_of_v ∙ sym a.paired in
    let h : HasNewLabels a.goal a.before labels = record {
      new_texts = names.new_texts;
      named = names.named;
      place = a.place;
      given = v;
      substituted = refl;
      written = record {
        fits = sym (fits_changed bare v a.goal) ∙ ap (λ t. fits t a.goal) text_of_v ∙ within;
        writable = sym (texts v) ∙ ap is_writable text_of_v ∙ writable;
        settled = settled_shape a.middle v (ap nameless (sym text_of_v) ∙ nameless_changed bare v) settled;
      };
      fixed_so = refl;
    } in
    let ready : IsReady a.goal a.before = record { program = a.program; fits = a.stands; writable = a.finishable.writable; plain = a.plain; scoped = a.scoped } in
    let r : IsResolvedSo labels u = record {
      plain = subst IsPlainIfScript (sym text_of_labels) (cleans answer a).plain;
      fair = subst NoEarlyErrorOfNames (sym (text_of_labels ∙ a.paired)) (fair a.table a.config a.place a.goal a.before a.middle a.program a.stands a.finishable a.plain a.scoped a.hygienic);
      unresolved = unresolved;
      top = top;
      old = old;
      new = new;
      known = known;
      resolved = subst (λ t. Resolved unresolved top old new t u) (sym text_of_labels) resolved;
    } in
    law old_pairs a.goal a.before labels u ready h r

pub a_chain_changes_spans : ChainChangesSpansGiven → AnswersAreApart → ChainChangesSpans
a_chain_changes_spans chain apart = chain apart

pub a_chain_changes_nothing : ChainChangesNothingGiven → AnswersAreApart → ChainChangesNothing
a_chain_changes_nothing chain apart = chain apart
