-- From what the parts answer to what is said of a program.
use Rattle.std.proofs.Common.{◌≡◌, Bool, true, false, ◌++◌, IsTrue, Option, Some, None}
use Rattle.swc_tree_node.specs.declared.kind.Class.TheVariants as class
use Rattle.swc_tree_node.specs.declared.node.Node.{Node}
use Rattle.swc_tree_node.specs.declared.slot.Content.TheVariants as content
use Rattle.swc_tree_node.specs.declared.slot.Slot.{Slot}
use Rattle.swc_tree_node.specs.declared.slot.Slot.TheVariants as slot
use Rattle.swc_tree_node.specs.Fits.{Fits}
use Rattle.swc_tree_scoping.specs.declared.places.Scope.TheVariants as scope
use Rattle.swc_tree_scoping.specs.Places.{opened, program_place}
use Rattle.swc_tree_scoping.proofs.Program.{module_opens, script_opens}
use Rattle.swc_tree_scoping.specs.Resolved.{is_script}
use Rattle.swc_tree_scoping.specs.WellScoped.{NoEarlyErrorOfNames}
use Rattle.swc_tree_renaming.specs.Apart.{IsPlainIfScript, is_goal}
use Rattle.swc_base_rename_substitution.specs.declared.config.Config.{Config}
use Rattle.swc_base_early_errors.specs.Errors.{AsksOfNames, AsksOfScripts, IsFirst, TellsOfNames, TellsOfScripts, name_errors, script_faults}
use Rattle.swc_base_early_errors.specs.declared.errors.NameError.{NameError}
use Rattle.swc_base_early_errors.specs.declared.errors.NameError.TheVariants as name
use Rattle.swc_base_early_errors.specs.declared.scripts.ScriptFault.{ScriptFault}
use Rattle.swc_base_early_errors.specs.declared.scripts.ScriptFault.TheVariants as script
use Rattle.swc_base_covers.specs.declared.gap.Cause.{Cause}
use Rattle.swc_base_covers.specs.declared.gap.Cause.TheVariants as cause
use Rattle.swc_base_covers.specs.Causes.{AllHold, Decides, DecidesNames, name_cause, name_causes, script_cause, script_causes, tree_causes}
use Rattle.swc_base_covers.specs.Covered.{Asks, IsCovered, causes}
use Rattle.swc_base_covers.proofs.Lists.{behind, fails, mapped, within}

module _ (config : Config) (t : Node) where
  name_forth : (e : NameError) → AsksOfNames e t → Asks config t (name_cause e)
  name_forth name.Export h = h
  name_forth name.Twice h = h
  name_forth name.Variable h = h
  name_forth name.Parameter h = h
  name_forth name.EvalOrArguments h = h

  name_back : (e : NameError) → Asks config t (name_cause e) → AsksOfNames e t
  name_back name.Export h = h
  name_back name.Twice h = h
  name_back name.Variable h = h
  name_back name.Parameter h = h
  name_back name.EvalOrArguments h = h

  script_forth : (e : ScriptFault) → AsksOfScripts e t → Asks config t (script_cause e)
  script_forth script.SloppyFunction h = λ s. h
  script_forth script.Label h = λ s. h
  script_forth script.GlobalValue h = λ s. h
  script_forth script.RepeatedParameter h = λ s. h

  script_back : IsTrue (is_script t) → (e : ScriptFault) → Asks config t (script_cause e) → AsksOfScripts e t
  script_back s script.SloppyFunction h = h s
  script_back s script.Label h = h s
  script_back s script.GlobalValue h = h s
  script_back s script.RepeatedParameter h = h s

  all_plain : IsPlainIfScript t → AllHold (Asks config t) script_causes
  all_plain h = (λ s. (h s).settled, (λ s. (h s).unlabelled, (λ s. (h s).no_global_value, (λ s. (h s).no_parameter_repeated, tt))))

  all_fair : NoEarlyErrorOfNames t → AllHold (Asks config t) name_causes
  all_fair h = (h.exports_declared, (h.no_redeclaration.none_twice, (h.no_redeclaration.no_variable_passes, (h.no_redeclaration.no_parameter_twice, (h.no_eval_or_arguments, tt)))))

  covered : AllHold (Asks config t) causes → IsCovered config t
  covered (types, (clean, (writable, (classes, (unread, (settled, (unlabelled, (global, (repeated, (exports, (twice, (passes, (parameter, (eval, _)))))))))))))) = record {
    no_types = types;
    clean = clean;
    writable = writable;
    renames_classes = classes;
    unread = unread;
    plain = λ s. record { settled = settled s; unlabelled = unlabelled s; no_global_value = global s; no_parameter_repeated = repeated s };
    fair = record {
      exports_declared = exports;
      no_redeclaration = record { none_twice = twice; no_variable_passes = passes; no_parameter_twice = parameter };
      no_eval_or_arguments = eval;
    };
  }

  each_asked : IsCovered config t → (c : Cause) → Asks config t c
  each_asked h cause.Types = h.no_types
  each_asked h cause.Context = h.clean
  each_asked h cause.Written = h.writable
  each_asked h cause.Classes = h.renames_classes
  each_asked h cause.Reads = h.unread
  each_asked h cause.Function = λ s. (h.plain s).settled
  each_asked h cause.Label = λ s. (h.plain s).unlabelled
  each_asked h cause.Global = λ s. (h.plain s).no_global_value
  each_asked h cause.Repeated = λ s. (h.plain s).no_parameter_repeated
  each_asked h cause.Export = h.fair.exports_declared
  each_asked h cause.Twice = h.fair.no_redeclaration.none_twice
  each_asked h cause.Variable = h.fair.no_redeclaration.no_variable_passes
  each_asked h cause.Parameter = h.fair.no_redeclaration.no_parameter_twice
  each_asked h cause.Eval = h.fair.no_eval_or_arguments

  pub uncovered : (c : Cause) → IsFirst (Asks config t) causes c → ¬ IsCovered config t
  uncovered c h whole = fails (Asks config t) causes c h (each_asked whole c)

  pub told_covered : Decides (Asks config t) causes None → IsCovered config t
  told_covered h = covered h

  pub tree_first : (c : Cause) → Decides (Asks config t) tree_causes (Some c) → Decides (Asks config t) causes (Some c)
  tree_first c h = within (Asks config t) tree_causes (script_causes ++ name_causes) c h

  pub tree_then : (o : Option Cause) → Decides (Asks config t) tree_causes None → DecidesNames t o → Decides (Asks config t) causes o
  tree_then o h rest = behind (Asks config t) tree_causes (script_causes ++ name_causes) o h (rest config)

  scripts_first : (e : ScriptFault) → TellsOfScripts t (Some e) → Decides (Asks config t) (script_causes ++ name_causes) (Some (script_cause e))
  scripts_first e (s, first) = within (Asks config t) script_causes name_causes (script_cause e) (mapped (λ e. AsksOfScripts e t) (Asks config t) script_cause script_forth (script_back s) script_faults e first)

  names_first : (e : NameError) → IsPlainIfScript t → TellsOfNames t (Some e) → Decides (Asks config t) (script_causes ++ name_causes) (Some (name_cause e))
  names_first e plain first = behind (Asks config t) script_causes name_causes (Some (name_cause e)) (all_plain plain) (mapped (λ e. AsksOfNames e t) (Asks config t) name_cause name_forth name_back name_errors e first)

  none_first : IsPlainIfScript t → NoEarlyErrorOfNames t → Decides (Asks config t) (script_causes ++ name_causes) None
  none_first plain fair = behind (Asks config t) script_causes name_causes None (all_plain plain) (all_fair fair)

pub script_told : (t : Node) (e : ScriptFault) → TellsOfScripts t (Some e) → DecidesNames t (Some (script_cause e))
script_told t e h config = scripts_first config t e h

pub name_told : (t : Node) (e : NameError) → IsPlainIfScript t → TellsOfNames t (Some e) → DecidesNames t (Some (name_cause e))
name_told t e plain h config = names_first config t e plain h

pub none_told : (t : Node) → IsPlainIfScript t → NoEarlyErrorOfNames t → DecidesNames t None
none_told t plain fair config = none_first config t plain fair

pub untrue : (b : Bool) → b ≡ true → b ≡ false → ⊥
untrue true h e = absurd (cc)
untrue false h e = absurd (cc)

never : {X : Type 0} → false ≡ true → X
never h = absurd (cc)

pub opens : (goal : Slot) (t : Node) → IsTrue (is_goal goal) → Fits t goal → opened program_place t ≡ Some scope.Program
opens (slot.One (content.Node class.Module)) t g h = module_opens t h
opens (slot.One (content.Node class.Script)) t g h = script_opens t h
opens _ t g h = never g
