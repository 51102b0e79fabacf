-- What is promised of what a command makes, by the laws of the passes.
use Rattle.std.proofs.Common.{◌≡◌, Bool, true, false, IsTrue, sym, subst}
use Rattle.swc_tree_marks.specs.declared.error.PassError.{PassError}
use Rattle.swc_tree_marks.specs.declared.error.PassError.TheVariants as refusal
use Rattle.swc_tree_node.specs.declared.node.Node.{Node}
use Rattle.swc_tree_node.specs.declared.slot.Slot.{Slot}
use Rattle.swc_tree_node.specs.Fits.{Fits}
use Rattle.swc_tree_renaming.specs.Apart.{is_goal}
use Rattle.swc_tree_grammar.specs.Fixed.{recorded}
use Rattle.swc_tree_grammar.specs.Normal.{normal_form}
use Rattle.swc_tree_grammar.specs.Pairs.{pairs}
use Rattle.swc_tree_grammar.specs.Targets.{all_bare}
use Rattle.swc_base_alpha_laws.specs.Alpha.{AlphaEquivalent, AlphaVariants}
use Rattle.swc_base_fixer_laws.specs.Laws.{NormalFormStays}
use Rattle.swc_base_fixer_program.specs.Answers.{answer_to}
use Rattle.swc_base_fixer.specs.Promises.{AnswersKeepPromises, Promises}
use Rattle.swc_base_mangle_laws.specs.Laws.{MangledSourcesAreKept, MangledSourcesKeepForms}
use Rattle.swc_base_mangle_laws.specs.Lower.swc_base_renaming_laws.proofs.ErrorsPrograms.{goal_open}
use Rattle.swc_base_renaming_laws.specs.Hygiene.{HygieneStaysFitting}
use Rattle.swc_base_mangle_laws.specs.Lower.swc_ecma_transforms_base_laws.specs.Headline.{ChainingKeepsForms, ChainingKeepsSources, KeepsItsForm, KeepsItsSource}
use Rattle.swc_base_mangle_laws.specs.Lower.swc_ecma_transforms_base_laws.specs.Sources.{IsSource, ResolvedSourcesHaveTheirForm}
use Rattle.text_kept_laws.specs.Pieces.{BoundNamesAloneDiffer}
use Rattle.mucwathi_settings.specs.declared.command.Command.{Command}
use Rattle.mucwathi_settings.specs.declared.command.Command.TheVariants as command
use Rattle.mucwathi_settings.specs.declared.command.Settings.{Settings}
use Rattle.mucwathi_passes.specs.Passes.{IsApart, IsRefusal, IsRenamedAndPaired, IsShort, Makes, config_of, own_table}
use Rattle.mucwathi_passes.proofs.Marks.{knows_free}
use Rattle.mucwathi_laws.specs.Promises.{IsCovered, IsSameProgram, Keeps, PromisesAreKept, SparesTargets, TargetsAreSpared}

-- parentheses that are set anew change no normal form, so that names apart are promised by what a chain is
module _ (sources : ChainingKeepsSources) (resolving : ResolvedSourcesHaveTheirForm) (fitting : HygieneStaysFitting) (stays : NormalFormStays) (s : Settings) (goal : Slot) (is_program : IsTrue (is_goal goal)) (t u : Node) (fits : Fits t goal) where
  apart : IsApart s t u → IsCovered s t → AlphaEquivalent t u
  apart is covered =
      let form = resolving (config_of s) goal t is.resolved 1 2 own_table is.table is_program fits covered.0 is.is_resolved in
      let fits_apart : Fits u goal = fitting is.table (config_of s) goal is.resolved u is_program form.finishable.plain form.fits is.hygienic in
      let promised = sources (config_of s) (recorded (pairs u)) goal 1 2 own_table is.table t is.resolved u is_program fits covered.0 covered.1 knows_free is.is_resolved is.hygienic in
      subst (λ (form : Node). AlphaVariants (normal_form t) form) (stays (recorded (pairs u)) u goal fits_apart) promised.0.alpha

module _ (forms : ChainingKeepsForms) (sources : ChainingKeepsSources) (short_forms : MangledSourcesKeepForms) (short_sources : MangledSourcesAreKept) (fixing : AnswersKeepPromises) (resolving : ResolvedSourcesHaveTheirForm) (fitting : HygieneStaysFitting) (stays : NormalFormStays) (names : BoundNamesAloneDiffer) (s : Settings) (goal : Slot) (is_program : IsTrue (is_goal goal)) (t u : Node) (fits : Fits t goal) where
  chained_form : (p : IsRenamedAndPaired (IsApart s) t u) → IsSource (config_of s) t → KeepsItsForm t u
  unfolding answer_to
  chained_form p source =
      subst (λ (u : Node). KeepsItsForm t u) (sym p.paired.1)
      (forms (config_of s) (recorded (pairs p.renamed)) goal 1 2 own_table p.is_renamed.table t p.is_renamed.resolved p.renamed is_program fits source p.is_renamed.is_resolved p.is_renamed.hygienic).0

  chained : (p : IsRenamedAndPaired (IsApart s) t u) → IsCovered s t → IsSameProgram t u
  unfolding answer_to
  chained p covered = (
    p.is_renamed.table,
    subst (λ (u : Node). KeepsItsSource 1 2 own_table p.is_renamed.table t u) (sym p.paired.1)
        (sources (config_of s) (recorded (pairs p.renamed)) goal 1 2 own_table p.is_renamed.table t p.is_renamed.resolved p.renamed is_program fits covered.0 covered.1 knows_free p.is_renamed.is_resolved p.is_renamed.hygienic).0,
  )

  mangled_form : (p : IsRenamedAndPaired (IsShort s) t u) → IsSource (config_of s) t → KeepsItsForm t u
  unfolding answer_to
  mangled_form p source =
      subst (λ (u : Node). KeepsItsForm t u) (sym p.paired.1)
      (short_forms (config_of s) s.keep_top (recorded (pairs p.renamed)) goal 1 2 own_table p.is_renamed.table t p.is_renamed.resolved p.renamed is_program fits source p.is_renamed.is_resolved p.is_renamed.mangled).0

  mangled : (p : IsRenamedAndPaired (IsShort s) t u) → IsCovered s t → IsSameProgram t u
  unfolding answer_to
  mangled p covered = (
    p.is_renamed.table,
    subst (λ (u : Node). KeepsItsSource 1 2 own_table p.is_renamed.table t u) (sym p.paired.1)
        (short_sources (config_of s) s.keep_top (recorded (pairs p.renamed)) goal 1 own_table p.is_renamed.table t p.is_renamed.resolved p.renamed is_program fits covered.0 covered.1 knows_free p.is_renamed.is_resolved p.is_renamed.mangled),
  )

  kept : (c : Command) → Makes c s t u → Keeps c s t u
  kept command.Chain p = record { same = chained p; form = chained_form p; tokens = λ source. names t u (chained_form p source).normal_form }
  kept command.Mangle p = record { same = mangled p; form = mangled_form p; tokens = λ source. names t u (mangled_form p source).normal_form }
  kept command.Hygiene p = apart sources resolving fitting stays s goal is_program t u fits p
  kept command.Fix p = subst (λ (u : Node). Promises t u) (sym p.1) (fixing t goal (goal_open goal is_program) fits)
  kept command.Unparen p = tt

pub promises_are_kept : ChainingKeepsForms → ChainingKeepsSources → MangledSourcesKeepForms → MangledSourcesAreKept → AnswersKeepPromises → ResolvedSourcesHaveTheirForm → HygieneStaysFitting → NormalFormStays → BoundNamesAloneDiffer → PromisesAreKept
promises_are_kept forms sources short_forms short_sources fixing resolving fitting stays names c s goal t u is_program fits made =
    kept forms sources short_forms short_sources fixing resolving fitting stays names s goal is_program t u fits c made

no_bare_target : (a : Bool) → a ≡ true → a ≡ false → ⊥
no_bare_target true h e = absurd (cc)
no_bare_target false h e = absurd (cc)

module _ (forms : ChainingKeepsForms) (short_forms : MangledSourcesKeepForms) (s : Settings) (goal : Slot) (is_program : IsTrue (is_goal goal)) (t : Node) (fits : Fits t goal) where
  chained_spares : (renamed : Node) → IsApart s t renamed → all_bare renamed ≡ false → IsSource (config_of s) t → ⊥
  chained_spares renamed is bare source =
      no_bare_target (all_bare renamed)
      (forms (config_of s) (recorded (pairs renamed)) goal 1 2 own_table is.table t is.resolved renamed is_program fits source is.is_resolved is.hygienic).1 bare

  mangled_spares : (renamed : Node) → IsShort s t renamed → all_bare renamed ≡ false → IsSource (config_of s) t → ⊥
  mangled_spares renamed is bare source =
      no_bare_target (all_bare renamed)
      (short_forms (config_of s) s.keep_top (recorded (pairs renamed)) goal 1 2 own_table is.table t is.resolved renamed is_program fits source is.is_resolved is.mangled).1 bare

  chain_spared : (e : PassError) → IsRefusal command.Chain s t e → SparesTargets command.Chain s t e
  chain_spared refusal.NotAssignable (none, (renamed, is, bare)) = chained_spares renamed is bare
  chain_spared refusal.NoMemory h = tt
  chain_spared refusal.MarksSpent h = tt
  chain_spared refusal.CounterSpent h = tt
  chain_spared refusal.TypesLeft h = tt

  mangle_spared : (e : PassError) → IsRefusal command.Mangle s t e → SparesTargets command.Mangle s t e
  mangle_spared refusal.NotAssignable (none, (renamed, is, bare)) = mangled_spares renamed is bare
  mangle_spared refusal.NoMemory h = tt
  mangle_spared refusal.MarksSpent h = tt
  mangle_spared refusal.CounterSpent h = tt
  mangle_spared refusal.TypesLeft h = tt

  spared : (c : Command) (e : PassError) → IsRefusal c s t e → SparesTargets c s t e
  spared command.Chain e h = chain_spared e h
  spared command.Mangle e h = mangle_spared e h
  spared command.Hygiene e h = tt
  spared command.Fix e h = tt
  spared command.Unparen e h = tt

pub targets_are_spared : ChainingKeepsForms → MangledSourcesKeepForms → TargetsAreSpared
targets_are_spared forms short_forms c s goal t e is_program fits h = spared forms short_forms s goal is_program t fits c e h
