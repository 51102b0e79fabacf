-- What hygiene and then the fixer answer, the three passes in a chain answer again.
use Rattle.std.proofs.Common.{◌≡◌, ap, sym, ◌∙◌, subst}
use Rattle.swc_tree_node.specs.declared.node.Node.{Node}
use Rattle.swc_tree_node.specs.Fits.{Fits, fits}
use Rattle.swc_tree_scoping.specs.WellScoped.{NoEarlyErrorOfNames}
use Rattle.swc_tree_scoping.proofs.Remarked.{fits-remarked}
use Rattle.swc_tree_grammar.specs.Fixed.{fixed, recorded}
use Rattle.swc_tree_grammar.specs.Pairs.{pairs}
use Rattle.swc_tree_grammar.specs.Spanless.{SameButForSpans}
use Rattle.swc_base_fixer_laws.specs.Laws.{SecondRunChangesNothing, SecondRunChangesSpans}
use Rattle.swc_base_rename_units.specs.Eval.{HasEval}
use Rattle.swc_base_renaming_laws.specs.Hygiene.{HygieneStaysFitting, HygieneStaysWritable, IsPlain}
use Rattle.swc_base_renaming_laws.proofs.Exported.{texts_again}
use Rattle.swc_base_renaming_laws.specs.Source.{ReadersNeedNoContexts}
use Rattle.swc_base_renaming_laws.specs.Errors.{AnswerHasNoEarlyErrorOfNames}
use Rattle.swc_base_renaming_laws.proofs.ErrorsPrograms.{goal_open}
use Rattle.swc_base_resolver_laws.specs.Laws.{CleanProgramsBecomeWellScoped}
use Rattle.swc_ecma_transforms_base_laws.specs.Settled.{AnswersAreApart, AnswersAreCleanPrograms, AnswersReadNoNames, ChainChangesNothingGiven, ChainChangesSpansGiven, HygieneGivesAnswersBack, HygieneLeavesApart, IsAnswer}

given_back : AnswersReadNoNames → AnswersAreCleanPrograms → HygieneLeavesApart → CleanProgramsBecomeWellScoped → AnswerHasNoEarlyErrorOfNames → ReadersNeedNoContexts → AnswersAreApart → HygieneGivesAnswersBack
given_back reads cleans leaves becomes no_error readers apart table config answer u middle unresolved top old new a keeps known r hygienic =
    let w = cleans answer a in
    let clear = texts_again answer u r.contexts r.only_contexts w.clean in
    let fits_u : Fits u a.goal = ap (λ t. fits t a.goal) r.only_contexts ∙ fits-remarked r.contexts answer a.goal ∙ w.fits in
    let fair : NoEarlyErrorOfNames answer = subst NoEarlyErrorOfNames (sym a.paired) (no_error a.table a.config a.place a.goal a.before a.middle a.program a.stands a.finishable a.plain a.scoped a.hygienic) in
    let scoped_u = becomes a.goal answer u unresolved top old new a.program w.fits w.plain w.lists w.clean fair known r in
    let plain_u : IsPlain config u = record { renames_classes = keeps; unread = λ read. reads answer a (subst HasEval clear (readers u read.1)) } in
    leaves table config u middle a.goal plain_u fits_u scoped_u (apart answer u unresolved top old new a known r) hygienic ∙ clear

fits_middle : HygieneStaysFitting → {answer : Node} → (a : IsAnswer answer) → Fits a.middle a.goal
fits_middle fitting a = fitting a.table a.config a.goal a.before a.middle a.program a.finishable.plain a.stands a.hygienic

pub chain_changes_spans : HygieneStaysFitting → AnswersReadNoNames → AnswersAreCleanPrograms → HygieneLeavesApart → CleanProgramsBecomeWellScoped → AnswerHasNoEarlyErrorOfNames → ReadersNeedNoContexts → SecondRunChangesSpans → ChainChangesSpansGiven
chain_changes_spans fitting reads cleans leaves becomes no_error readers second apart table config place answer u middle unresolved top old new a keeps known r hygienic =
    let one = given_back reads cleans leaves becomes no_error readers apart table config answer u middle unresolved top old new a keeps known r hygienic in
    subst (λ t. SameButForSpans (fixed place middle) t) (sym a.paired)
    (subst (λ t. SameButForSpans (fixed place t) (fixed a.place a.middle)) (sym (one ∙ a.paired)) (second a.place place a.middle a.goal (fits_middle fitting a)))

pub chain_changes_nothing : HygieneStaysFitting → HygieneStaysWritable → AnswersReadNoNames → AnswersAreCleanPrograms → HygieneLeavesApart → CleanProgramsBecomeWellScoped → AnswerHasNoEarlyErrorOfNames → ReadersNeedNoContexts → SecondRunChangesNothing → ChainChangesNothingGiven
chain_changes_nothing fitting stays reads cleans leaves becomes no_error readers second apart table config answer u middle unresolved top old new a keeps known r hygienic =
    let one = given_back reads cleans leaves becomes no_error readers apart table config answer u middle unresolved top old new a keeps known r hygienic in
    let writable = stays a.table a.config a.goal a.before a.middle a.finishable.plain a.stands a.finishable.writable a.hygienic in
    ap (λ t. fixed (recorded (pairs t)) t) (one ∙ a.paired) ∙ second a.place a.middle a.goal (goal_open a.goal a.program) (fits_middle fitting a) writable ∙ sym a.paired
