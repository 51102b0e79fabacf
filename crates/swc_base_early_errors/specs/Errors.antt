-- What is asked of the names of a program, clause by clause, and which is the first that fails.
use Rattle.std.specs.Prelude.{◌≡◌, ◌⊎◌, IsTrue, Option, Some, None, List, [], ◌∷◌}
use Rattle.swc_tree_node.specs.declared.node.Node.{Node}
use Rattle.swc_tree_scoping.specs.Declares.{is_lexical}
use Rattle.swc_tree_scoping.specs.Readings.{by_ids, by_texts}
use Rattle.swc_tree_scoping.specs.Resolved.{is_script}
use Rattle.swc_tree_scoping.specs.WellScoped.{ExportsDeclared, NoEarlyErrorOfNames, NoEvalOrArguments, NoParameterTwice, NoVariablePasses, NoneTwice}
use Rattle.swc_tree_renaming.specs.Apart.{DeclaresNoGlobalValue, HasNoSloppy, IsPlainIfScript, NoParameterRepeated, labels_no_function}
use Rattle.swc_base_early_errors.specs.declared.errors.NameError.{NameError}
use Rattle.swc_base_early_errors.specs.declared.errors.NameError.TheVariants as error
use Rattle.swc_base_early_errors.specs.declared.scripts.ScriptFault.{ScriptFault}
use Rattle.swc_base_early_errors.specs.declared.scripts.ScriptFault.TheVariants as fault

-- what a program has where it lacks the error: the clauses of NoEarlyErrorOfNames
abbrev pub AsksOfNames : NameError → Node → Type 0
AsksOfNames error.Export t = ExportsDeclared (by_texts t)
AsksOfNames error.Twice t = NoneTwice (by_texts t)
AsksOfNames error.Variable t = NoVariablePasses is_lexical (by_texts t)
AsksOfNames error.Parameter t = NoParameterTwice (by_texts t)
AsksOfNames error.EvalOrArguments t = NoEvalOrArguments t

-- the first of a list of errors that a program has: it lacks what is asked there
abbrev pub IsFirst : {A : Type 0} → (A → Type 0) → List A → A → Type 0
IsFirst asks [] e = ⊥
IsFirst asks (d ∷ ds) e = (¬ asks d × (e ≡ d)) ⊎ (asks d × IsFirst asks ds e)

abbrev pub name_errors : List NameError
name_errors = error.Export ∷ error.Twice ∷ error.Variable ∷ error.Parameter ∷ error.EvalOrArguments ∷ []

-- there is no error, or that is the first
abbrev pub TellsOfNames : Node → Option NameError → Type 0
TellsOfNames t None = NoEarlyErrorOfNames t
TellsOfNames t (Some e) = IsFirst (λ d. AsksOfNames d t) name_errors e

-- what a script has where it lacks the fault: the clauses of IsPlainScript
abbrev pub AsksOfScripts : ScriptFault → Node → Type 0
AsksOfScripts fault.SloppyFunction t = HasNoSloppy t
AsksOfScripts fault.Label t = IsTrue (labels_no_function t)
AsksOfScripts fault.GlobalValue t = DeclaresNoGlobalValue t
AsksOfScripts fault.RepeatedParameter t = NoParameterRepeated (by_ids t)

abbrev pub script_faults : List ScriptFault
script_faults = fault.SloppyFunction ∷ fault.Label ∷ fault.GlobalValue ∷ fault.RepeatedParameter ∷ []

-- the program is no script or a plain one; or it is a script, and that is its first fault
abbrev pub TellsOfScripts : Node → Option ScriptFault → Type 0
TellsOfScripts t None = IsPlainIfScript t
TellsOfScripts t (Some f) = IsTrue (is_script t) × IsFirst (λ d. AsksOfScripts d t) script_faults f
