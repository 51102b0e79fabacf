-- What a program keeps, by the laws of lawful renamers and of the fixer; hygiene is such a renamer.
use Rattle.std.proofs.Common.{◌≡◌, true, false, IsTrue, refl, sym, ap, ◌∙◌}
use Rattle.swc_tree_marks.specs.Globals.{Table}
use Rattle.swc_tree_node.specs.declared.node.Node.{Node}
use Rattle.swc_tree_node.specs.Fits.{Fits}
use Rattle.swc_tree_scoping.specs.BoundNames.{Id}
use Rattle.swc_tree_grammar.specs.Due.{Places}
use Rattle.swc_tree_node.specs.declared.slot.Slot.{Slot}
use Rattle.swc_tree_renaming.specs.Apart.{IsPlainIfScript, is_goal}
use Rattle.swc_tree_renaming.proofs.Global.{fits_module, fits_script, no_module_is_script}
use Rattle.swc_tree_grammar.specs.Fixed.{fixed}
use Rattle.swc_tree_grammar.specs.Normal.{normal_form}
use Rattle.swc_tree_grammar.specs.Same.{declared_names, same_tree}
use Rattle.swc_tree_grammar.specs.Spanless.{spanless}
use Rattle.swc_tree_grammar.specs.Writable.{Writable}
use Rattle.swc_base_renaming_laws.specs.Lower.swc_tree_sites_kept.specs.Scripts.{FixedScriptsLoseNoName, script_place}
use Rattle.swc_base_fixer_laws.specs.Laws.{FixedFits, FixedFitsTable, NormalFormStays, TargetsStandBare}
use Rattle.swc_base_fixer_sites.specs.Laws.{FixerStaysClean}
use Rattle.swc_base_renaming_laws.proofs.ErrorsPrograms.{goal_open}
use Rattle.swc_base_renaming_laws.specs.Hygiene.{HygieneIsLawful, IsFinishable, RenamingKeepsNormalForm, RenamingStaysFitting, RenamingStaysSettled, RenamingStaysWritable}
use Rattle.swc_base_renaming_laws.specs.Renamers.{IsLawful, IsRenamedAndCleared, SparesGlobalValues}
use Rattle.swc_base_rename_laws.specs.NewNames.{nameless}
use Rattle.swc_base_renaming_laws.specs.NewTexts.{RenamingKeepsSpans}
use Rattle.swc_base_rename_analysis.specs.Named.{Renaming}
use Rattle.swc_base_rename_program.specs.Renamed.{hygiene_renaming}
use Rattle.swc_base_rename_scoped_laws.specs.Laws.{KeepsApart, PreservesNone}
use Rattle.swc_base_rename_scoped_laws.proofs.Apart.{none_preserved}
use Rattle.swc_base_rename_substitution.specs.declared.config.Config.{Config}
use Rattle.swc_base_renaming_laws.specs.Ids.{IsSettledIfScript, IsWrittenAs, RenamersKeepIds, RenamersKeepMeanings}
use Rattle.swc_base_renaming_laws.proofs.IdsPrograms.{by_goal}
use Rattle.swc_ecma_transforms_base_laws.specs.SourceNames.{RenamersKeepSources}
use Rattle.swc_ecma_transforms_base_laws.specs.Finished.{FinishingKeepsIds, FinishingKeepsMeanings, FinishingKeepsPrograms, FinishingKeepsSources, FinishingKeepsSpans, FinishingMeetsNoTarget}
use Rattle.swc_ecma_transforms_base_laws.specs.Renamers.{FinishingRenamedKeepsIds, FinishingRenamedKeepsMeanings, FinishingRenamedKeepsPrograms, FinishingRenamedKeepsSources, FinishingRenamedKeepsSpans, FinishingRenamedMeetsNoTarget, RenamersThatPreserveNoneSuit, Suits}

pub renamed_keeps_programs : RenamingStaysFitting → RenamingStaysWritable → RenamingKeepsNormalForm → FixedFits → NormalFormStays → FinishingRenamedKeepsPrograms
renamed_keeps_programs fitting stays same fit normal r table config place goal before middle lawful top is f b h =
    let within = fitting r table config goal before middle is b.plain f h in
    let writable = stays r table config goal before middle lawful b.plain f b.writable h in
    let answer = fit place middle goal (goal_open goal is) within writable in
    record {
      writable = answer.0;
      derived = answer.1;
      normal_form = ap (λ n. same_tree (declared_names before) (normal_form before) n) (normal place middle goal within) ∙ same r table config goal before middle top is b.plain f b.writable h;
    }

pub renamed_keeps_spans : RenamingStaysFitting → RenamingKeepsSpans → NormalFormStays → FinishingRenamedKeepsSpans
renamed_keeps_spans fitting spans normal r table config place goal before middle top is f b h =
    spans r table config goal before middle top is b.plain f b.writable h ∙ sym (ap nameless (normal place middle goal (fitting r table config goal before middle is b.plain f h)))

pub renamed_meets_no_target : RenamingStaysFitting → RenamingStaysWritable → TargetsStandBare → FinishingRenamedMeetsNoTarget
renamed_meets_no_target fitting stays bare r table config goal before middle lawful is f b h =
    bare middle goal (fitting r table config goal before middle is b.plain f h) (stays r table config goal before middle lawful b.plain f b.writable h)

module _ (fitting : RenamingStaysFitting) (stays : RenamingStaysWritable) (stays_settled : RenamingStaysSettled) (bare : TargetsStandBare) (fit : FixedFits) (fits_table : FixedFitsTable) (stays_clean : FixerStaysClean) (lose : FixedScriptsLoseNoName) (normal : NormalFormStays) where
  -- the fixer's answer is such a script too
  answer_settled : (r : Renaming) (table : Table) (config : Config) (place : Places) (goal : Slot) (before middle : Node) → IsLawful r → IsTrue (is_goal goal) → Fits before goal → IsFinishable config before → IsPlainIfScript before
      → IsRenamedAndCleared table config r before middle → Fits middle goal → Writable middle → Fits (fixed place middle) goal → IsSettledIfScript (fixed place middle)
  answer_settled r table config place goal before middle lawful is f b plain h within writable stands =
      by_goal (λ goal. Fits before goal → Fits middle goal → Fits (fixed place middle) goal → IsSettledIfScript (fixed place middle))
      (λ f within stands s. absurd (no_module_is_script (fixed place middle) (fits_module (fixed place middle) stands) s))
      (λ f within stands s. let p = plain (fits_script before f) in (lose place middle within writable (stays_settled r table config script_place before middle lawful refl b.plain f h (p.settled, p.unlabelled))).settled)
      goal is f within stands

  -- what the fixer made of the renamed program is a way to write it down
  written_as : (r : Renaming) (table : Table) (config : Config) (place : Places) (goal : Slot) (before middle : Node) → IsLawful r → IsTrue (is_goal goal) → Fits before goal → IsFinishable config before → IsPlainIfScript before
      → IsRenamedAndCleared table config r before middle → IsWrittenAs goal middle (fixed place middle)
  written_as r table config place goal before middle lawful is f b plain h =
      let within = fitting r table config goal before middle is b.plain f h in
      let writable = stays r table config goal before middle lawful b.plain f b.writable h in
      let targets = bare middle goal within writable in
      let stands = fits_table place middle goal (goal_open goal is) within targets in
      record {
        fits = stands;
        clean = stays_clean place middle h.0 goal (goal_open goal is) within targets h.2;
        settled = answer_settled r table config place goal before middle lawful is f b plain h within writable stands;
        writable = (fit place middle goal (goal_open goal is) within writable).0;
        normal = ap spanless (normal place middle goal within);
      }

  pub renamed_keeps_ids : RenamersKeepIds → FinishingRenamedKeepsIds
  renamed_keeps_ids ids r table config place goal before middle u unresolved top old new lawful keeps spares is f b plain scoped h knows resolved =
      ids r table config goal before middle (fixed place middle) u unresolved top old new keeps spares is f b plain scoped h (written_as r table config place goal before middle lawful is f b plain h) knows resolved

  pub renamed_keeps_meanings : RenamersKeepMeanings → FinishingRenamedKeepsMeanings
  renamed_keeps_meanings meanings r table config place goal before middle lawful keeps is f b plain scoped h =
      meanings r table config goal before middle (fixed place middle) keeps is f b plain scoped h (written_as r table config place goal before middle lawful is f b plain h)

  pub renamed_keeps_sources : RenamersKeepSources → FinishingRenamedKeepsSources
  renamed_keeps_sources sources r table config place goal source before middle lawful keeps spares is f b plain scoped h from =
      sources r table config goal source before middle (fixed place middle) keeps spares is f b plain scoped h (written_as r table config place goal before middle lawful is f b plain h) from

-- ---- a renamer that preserves no id

no_id_kept : (r : Renaming) → PreservesNone r → (x : Id) → ¬ IsTrue (r.preserves x)
no_id_kept r none x h = let z : true ≡ false = sym h ∙ none x in absurd (cc)

pub none_suits : RenamersThatPreserveNoneSuit
none_suits r t none spares = record { top_apart = λ m x y d e kept_x. absurd (no_id_kept r none x kept_x); apart = λ scoped. none_preserved t r none; spares = spares }

-- ---- hygiene preserves none

hygiene_keeps : (t : Node) → KeepsApart hygiene_renaming t
hygiene_keeps t = none_preserved t hygiene_renaming (λ x. refl)

pub hygiene_suits : SparesGlobalValues hygiene_renaming → (t : Node) → Suits hygiene_renaming t
hygiene_suits spares t = none_suits hygiene_renaming t (λ x. refl) (λ s. spares)

pub keeps_programs : FinishingRenamedKeepsPrograms → HygieneIsLawful → SparesGlobalValues hygiene_renaming → FinishingKeepsPrograms
keeps_programs law lawful spares table config place goal before middle = law hygiene_renaming table config place goal before middle lawful (hygiene_suits spares before).top_apart

pub keeps_spans : FinishingRenamedKeepsSpans → SparesGlobalValues hygiene_renaming → FinishingKeepsSpans
keeps_spans law spares table config place goal before middle = law hygiene_renaming table config place goal before middle (hygiene_suits spares before).top_apart

pub meets_no_target : FinishingRenamedMeetsNoTarget → HygieneIsLawful → FinishingMeetsNoTarget
meets_no_target law lawful table config goal before middle = law hygiene_renaming table config goal before middle lawful

pub keeps_ids : FinishingRenamedKeepsIds → HygieneIsLawful → SparesGlobalValues hygiene_renaming → FinishingKeepsIds
keeps_ids law lawful spares table config place goal before middle u unresolved top old new = law hygiene_renaming table config place goal before middle u unresolved top old new lawful (hygiene_keeps before) (λ s. spares)

pub keeps_meanings : FinishingRenamedKeepsMeanings → HygieneIsLawful → FinishingKeepsMeanings
keeps_meanings law lawful table config place goal before middle = law hygiene_renaming table config place goal before middle lawful (hygiene_keeps before)

pub keeps_their_sources : FinishingRenamedKeepsSources → HygieneIsLawful → SparesGlobalValues hygiene_renaming → FinishingKeepsSources
keeps_their_sources law lawful spares table config place goal source before middle = law hygiene_renaming table config place goal source before middle lawful (hygiene_keeps before) (λ s. spares)
