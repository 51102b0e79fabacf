-- What a command makes has the tokens of the program.
use Rattle.std.proofs.Common.{IsTrue, refl, sym, subst}
use Rattle.swc_tree_node.specs.declared.kind.Class.TheVariants as class
use Rattle.swc_tree_node.specs.declared.slot.Content.TheVariants as content
use Rattle.swc_tree_node.specs.declared.node.Node.{Node}
use Rattle.swc_tree_node.specs.declared.slot.Slot.{Slot}
use Rattle.swc_tree_node.specs.declared.slot.Slot.TheVariants as slot
use Rattle.swc_tree_node.specs.Fits.{Fits}
use Rattle.swc_tree_renaming.specs.Apart.{is_goal}
use Rattle.swc_tree_grammar.specs.Fixed.{fixed, recorded}
use Rattle.swc_tree_grammar.specs.Pairs.{pairs}
use Rattle.swc_tree_grammar.specs.Same.{SameButForBoundNames}
use Rattle.swc_base_fixer_laws.specs.Laws.{TargetsStandBare}
use Rattle.swc_base_fixer_program.specs.Answers.{answer_to}
use Rattle.swc_base_mangle_laws.specs.Laws.{MangledSourcesKeepForms}
use Rattle.swc_base_renaming_laws.specs.Hygiene.{HygieneStaysFitting}
use Rattle.swc_base_rename_substitution.specs.Room.{has_room}
use Rattle.swc_base_mangle_laws.specs.Lower.swc_ecma_transforms_base_laws.specs.Headline.{ChainingKeepsForms}
use Rattle.swc_base_mangle_laws.specs.Lower.swc_ecma_transforms_base_laws.specs.Sources.{IsSource, ResolvedSourcesHaveTheirForm}
use Rattle.text_kept_laws.specs.Chain.{HasTexts, ShortNamesKeepTexts}
use Rattle.text_kept_laws.specs.Tokens.{ChainsKeepTokens}
use Rattle.text_kept_laws.specs.Written.{HasTokensOf}
use Rattle.mucwathi_settings.specs.declared.command.Command.{Command}
use Rattle.mucwathi_settings.specs.declared.command.Command.TheVariants as command
use Rattle.mucwathi_settings.specs.declared.command.Settings.{Settings}
use Rattle.mucwathi_passes.specs.Passes.{IsApart, IsPaired, IsRenamedAndPaired, IsShort, Makes, config_of, own_table}
use Rattle.mucwathi_laws.specs.Promises.{KeepsTokens, TokensAreKept}

goal_room : (goal : Slot) → IsTrue (is_goal goal) → IsTrue (has_room goal)
goal_room (slot.One (content.Node class.Module)) g = refl
goal_room (slot.One (content.Node class.Script)) g = refl
goal_room _ g = absurd (cc)

module _ (forms : ChainingKeepsForms) (short_forms : MangledSourcesKeepForms) (resolving : ResolvedSourcesHaveTheirForm) (fitting : HygieneStaysFitting) (short : ShortNamesKeepTexts) (bare : TargetsStandBare) (tokens : ChainsKeepTokens) (s : Settings) (goal : Slot) (is_program : IsTrue (is_goal goal)) (t u : Node) (texts : HasTexts goal t) where
  paired : (renamed : Node) → Fits renamed goal → IsPaired renamed u → SameButForBoundNames t (fixed (recorded (pairs renamed)) renamed) → IsSource (config_of s) t → HasTokensOf t u
  unfolding answer_to
  paired renamed fits p form source =
      subst (λ (u : Node). HasTokensOf t u) (sym p.1)
      (tokens (recorded (pairs renamed)) t renamed goal is_program texts.fits fits (bare t goal texts.fits source.writable) p.0 form)

  chained : (p : IsRenamedAndPaired (IsApart s) t u) → IsSource (config_of s) t → HasTokensOf t u
  chained p source =
      let is = p.is_renamed in
      let form = resolving (config_of s) goal t is.resolved 1 2 own_table is.table is_program texts.fits source is.is_resolved in
      let fits : Fits p.renamed goal = fitting is.table (config_of s) goal is.resolved p.renamed is_program form.finishable.plain form.fits is.hygienic in
      paired p.renamed fits p.paired
      (forms (config_of s) (recorded (pairs p.renamed)) goal 1 2 own_table is.table t is.resolved p.renamed is_program texts.fits source is.is_resolved is.hygienic).0.normal_form source

  mangled : (p : IsRenamedAndPaired (IsShort s) t u) → IsSource (config_of s) t → HasTokensOf t u
  mangled p source =
      let is = p.is_renamed in
      let renamed : HasTexts goal p.renamed = short (config_of s) s.keep_top goal 1 2 own_table is.table t is.resolved p.renamed (goal_room goal is_program) is.is_resolved is.mangled texts in
      paired p.renamed renamed.fits p.paired
      (short_forms (config_of s) s.keep_top (recorded (pairs p.renamed)) goal 1 2 own_table is.table t is.resolved p.renamed is_program texts.fits source is.is_resolved is.mangled).0.normal_form source

  kept : (c : Command) → Makes c s t u → KeepsTokens c s t u
  kept command.Chain p = chained p
  kept command.Mangle p = mangled p
  kept command.Hygiene p = tt
  kept command.Fix p = tt
  kept command.Unparen p = tt

pub tokens_are_kept : ChainingKeepsForms → MangledSourcesKeepForms → ResolvedSourcesHaveTheirForm → HygieneStaysFitting → ShortNamesKeepTexts → TargetsStandBare → ChainsKeepTokens → TokensAreKept
tokens_are_kept forms short_forms resolving fitting short bare tokens c s goal t u is_program texts made = kept forms short_forms resolving fitting short bare tokens s goal is_program t u texts c made
