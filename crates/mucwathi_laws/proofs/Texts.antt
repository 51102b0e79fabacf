-- What a command makes can be written, where the program can.
use Rattle.std.proofs.Common.{IsTrue, refl, sym, subst}
use Rattle.swc_tree_node.specs.declared.kind.Class.TheVariants as class
use Rattle.swc_tree_node.specs.declared.slot.Content.TheVariants as content
use Rattle.swc_tree_node.specs.declared.node.Node.{Node}
use Rattle.swc_tree_node.specs.declared.slot.Slot.{Slot}
use Rattle.swc_tree_node.specs.declared.slot.Slot.TheVariants as slot
use Rattle.swc_tree_renaming.specs.Apart.{is_goal}
use Rattle.swc_tree_grammar.specs.Fixed.{recorded}
use Rattle.swc_tree_grammar.specs.Pairs.{pairs}
use Rattle.swc_base_fixer_program.specs.Answers.{answer_to}
use Rattle.swc_base_mangle_laws.specs.Lower.swc_base_renaming_laws.proofs.ErrorsPrograms.{goal_open}
use Rattle.swc_base_rename_substitution.specs.Room.{has_room}
use Rattle.text_kept_laws.specs.Chain.{FixerKeepsTexts, HasTexts, HygieneKeepsTexts, ShortNamesKeepTexts, UnparenKeepsTexts}
use Rattle.mucwathi_settings.specs.declared.command.Command.{Command}
use Rattle.mucwathi_settings.specs.declared.command.Command.TheVariants as command
use Rattle.mucwathi_settings.specs.declared.command.Settings.{Settings}
use Rattle.mucwathi_passes.specs.Passes.{IsApart, IsBared, IsPaired, IsShort, Makes, config_of, own_table}
use Rattle.mucwathi_laws.specs.Promises.{TextsAreKept}

goal_room : (goal : Slot) → IsTrue (is_goal goal) → IsTrue (has_room goal)
goal_room (slot.One (content.Node class.Module)) g = refl
goal_room (slot.One (content.Node class.Script)) g = refl
goal_room _ g = absurd (cc)

module _ (hygiene : HygieneKeepsTexts) (short : ShortNamesKeepTexts) (fixer : FixerKeepsTexts) (unparen : UnparenKeepsTexts) (s : Settings) (goal : Slot) (is_program : IsTrue (is_goal goal)) where
  apart : (t u : Node) → IsApart s t u → HasTexts goal t → HasTexts goal u
  apart t u is h = hygiene (config_of s) goal 1 2 own_table is.table t is.resolved u (goal_room goal is_program) is.is_resolved is.hygienic h

  shortened : (t u : Node) → IsShort s t u → HasTexts goal t → HasTexts goal u
  shortened t u is h = short (config_of s) s.keep_top goal 1 2 own_table is.table t is.resolved u (goal_room goal is_program) is.is_resolved is.mangled h

  paired : (t u : Node) → IsPaired t u → HasTexts goal t → HasTexts goal u
  unfolding answer_to
  paired t u (bare, is) h = subst (HasTexts goal) (sym is) (fixer (recorded (pairs t)) t goal (goal_open goal is_program) bare h)

  bared : (t u : Node) → IsBared t u → HasTexts goal t → HasTexts goal u
  bared t u (bare, is) h = subst (HasTexts goal) (sym is) (unparen t goal (goal_open goal is_program) bare h)

  kept : (c : Command) (t u : Node) → Makes c s t u → HasTexts goal t → HasTexts goal u
  kept command.Chain t u p h = paired p.renamed u p.paired (apart t p.renamed p.is_renamed h)
  kept command.Mangle t u p h = paired p.renamed u p.paired (shortened t p.renamed p.is_renamed h)
  kept command.Hygiene t u p h = apart t u p h
  kept command.Fix t u p h = paired t u p h
  kept command.Unparen t u p h = bared t u p h

pub texts_are_kept : HygieneKeepsTexts → ShortNamesKeepTexts → FixerKeepsTexts → UnparenKeepsTexts → TextsAreKept
texts_are_kept hygiene short fixer unparen c s goal t u is_program made h = kept hygiene short fixer unparen s goal is_program c t u made h
