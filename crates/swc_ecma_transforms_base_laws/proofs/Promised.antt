-- What is promised of a program that is renamed and finished, and of a source that is chained, by the laws of each.
use Rattle.std.proofs.Common.{◌∙◌}
use Rattle.swc_base_rename_program.specs.Renamed.{hygiene_renaming}
use Rattle.swc_base_renaming_laws.specs.Errors.{RenamedAnswerHasNoEarlyErrorOfNames}
use Rattle.swc_base_renaming_laws.specs.Hygiene.{HygieneIsLawful}
use Rattle.swc_base_renaming_laws.specs.Renamers.{SparesGlobalValues}
use Rattle.swc_ecma_transforms_base_laws.specs.SourceNames.{ComesFrom}
use Rattle.swc_ecma_transforms_base_laws.proofs.Caught.{fair_catches_none}
use Rattle.swc_ecma_transforms_base_laws.specs.Headline.{ChainingKeepsForms, ChainingKeepsSources, FinishingKeepsForms, FinishingKeepsPromises}
use Rattle.swc_ecma_transforms_base_laws.specs.Renamers.{FinishingRenamedKeepsIds, FinishingRenamedKeepsMeanings, FinishingRenamedKeepsPrograms, FinishingRenamedKeepsSources, FinishingRenamedKeepsSpans, FinishingRenamedMeetsNoTarget, LawfulRenamersKeepForms, LawfulRenamersKeepFormsOfSources, LawfulRenamersKeepPromises, LawfulRenamersKeepSources, RenamersThatPreserveNoneKeepPromises}
use Rattle.swc_ecma_transforms_base_laws.specs.Sources.{ResolvedSourcesAreReady, ResolvedSourcesHaveTheirForm}
use Rattle.swc_ecma_transforms_base_laws.proofs.FinishingKept.{hygiene_suits, none_suits}

pub renamers_keep_forms : FinishingRenamedKeepsPrograms → FinishingRenamedKeepsSpans → LawfulRenamersKeepForms
renamers_keep_forms programs spans r table config place goal before middle lawful top is f b h =
    let kept = programs r table config place goal before middle lawful top is f b h in
    record { derived = kept.derived; normal_form = kept.normal_form; spans = spans r table config place goal before middle top is f b h }

pub renamers_keep_promises : FinishingRenamedKeepsSources → LawfulRenamersKeepForms → FinishingRenamedKeepsIds → FinishingRenamedKeepsMeanings → RenamedAnswerHasNoEarlyErrorOfNames → LawfulRenamersKeepPromises
renamers_keep_promises sources forms ids means errors r table config place goal before middle lawful suits is f b plain h =
    let kept = forms r table config place goal before middle lawful suits.top_apart is f b h in
    record {
      alpha = λ scoped source from. sources r table config place goal source before middle lawful (suits.apart scoped) suits.spares is f b plain scoped h from;
      derived = kept.derived;
      normal_form = kept.normal_form;
      ids = λ scoped unresolved top old new u knows resolved. ids r table config place goal before middle u unresolved top old new lawful (suits.apart scoped) suits.spares is f b plain scoped h knows resolved;
      meanings = λ scoped. means r table config place goal before middle lawful (suits.apart scoped) is f b plain scoped h;
      no_early_error = λ scoped. errors r table config place goal before middle lawful (suits.apart scoped) is f b plain scoped h;
      spans = kept.spans;
    }

pub none_keeps_promises : LawfulRenamersKeepPromises → RenamersThatPreserveNoneKeepPromises
none_keeps_promises law r table config place goal before middle lawful none spares = law r table config place goal before middle lawful (none_suits r before none spares)

pub renamers_keep_forms_of_sources : ResolvedSourcesHaveTheirForm → LawfulRenamersKeepForms → FinishingRenamedMeetsNoTarget → LawfulRenamersKeepFormsOfSources
renamers_keep_forms_of_sources resolves forms bare r config place goal unresolved top old new source resolved middle lawful is f s marks h =
    let form = resolves config goal source resolved unresolved top old new is f s marks in (
      λ apart.
          let kept = forms r new config place goal resolved middle lawful apart is form.fits form.finishable h in
          record { derived = kept.derived; normal_form = form.same _ kept.normal_form; spans = form.placed ∙ kept.spans },
      bare r new config goal resolved middle lawful is form.fits form.finishable h,
    )

pub renamers_keep_sources : ResolvedSourcesAreReady → LawfulRenamersKeepPromises → LawfulRenamersKeepFormsOfSources → LawfulRenamersKeepSources
renamers_keep_sources resolves promises forms r config place goal unresolved top old new source resolved middle lawful suits is f s plain known marks h =
    let ready = resolves config goal source resolved unresolved top old new is f s plain known marks in
    let kept = promises r new config place goal resolved middle lawful suits is ready.form.fits ready.form.finishable ready.plain h in
    let whole = forms r config place goal unresolved top old new source resolved middle lawful is f s marks h in
    let form = whole.0 suits.top_apart in
    let from : ComesFrom source resolved = record { unresolved = unresolved; top = top; old = old; new = new; clean = s.clean; uncaught = fair_catches_none source s.clean s.fair; known = known; resolved = marks } in (
      record {
        alpha = kept.alpha ready.well_scoped source from;
        resolved = resolved;
        meant = marks;
        found = ready.found;
        derived = form.derived;
        normal_form = form.normal_form;
        ids = kept.ids ready.well_scoped;
        meanings = kept.meanings ready.well_scoped;
        no_early_error = kept.no_early_error ready.well_scoped;
        spans = form.spans;
        resolved_spans = kept.spans;
      },
      whole.1,
    )

-- ---- hygiene

pub keeps_forms : LawfulRenamersKeepForms → HygieneIsLawful → SparesGlobalValues hygiene_renaming → FinishingKeepsForms
keeps_forms law lawful spares table config place goal before middle = law hygiene_renaming table config place goal before middle lawful (hygiene_suits spares before).top_apart

pub keeps_promises : LawfulRenamersKeepPromises → HygieneIsLawful → SparesGlobalValues hygiene_renaming → FinishingKeepsPromises
keeps_promises law lawful spares table config place goal before middle = law hygiene_renaming table config place goal before middle lawful (hygiene_suits spares before)

pub chains_keep_forms : LawfulRenamersKeepFormsOfSources → HygieneIsLawful → SparesGlobalValues hygiene_renaming → ChainingKeepsForms
chains_keep_forms law lawful spares config place goal unresolved top old new source resolved middle is f s marks h =
    let whole = law hygiene_renaming config place goal unresolved top old new source resolved middle lawful is f s marks h in (whole.0 (hygiene_suits spares resolved).top_apart, whole.1)

pub keeps_sources : LawfulRenamersKeepSources → HygieneIsLawful → SparesGlobalValues hygiene_renaming → ChainingKeepsSources
keeps_sources law lawful spares config place goal unresolved top old new source resolved middle = law hygiene_renaming config place goal unresolved top old new source resolved middle lawful (hygiene_suits spares resolved)
