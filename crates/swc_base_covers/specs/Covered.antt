-- Of which programs a chain of passes promises something: what is asked of one, and the first of it that fails.
use Rattle.std.specs.Prelude.{◌≡◌, false, IsTrue, Option, Some, None, List, [], ◌∷◌}
use Rattle.swc_tree_node.specs.declared.node.Node.{Node}
use Rattle.swc_tree_scoping.specs.Resolved.{is_script}
use Rattle.swc_tree_scoping.specs.WellScoped.{IsClean, NoEarlyErrorOfNames}
use Rattle.swc_tree_spaces.specs.Spaces.{has_types}
use Rattle.swc_tree_renaming.specs.Apart.{IsPlainIfScript}
use Rattle.swc_tree_grammar.specs.Writable.{Writable}
use Rattle.swc_base_rename_substitution.specs.declared.config.Config.{Config}
use Rattle.swc_base_rename_units.specs.Eval.{HasEval}
use Rattle.swc_base_early_errors.specs.Errors.{AsksOfNames, AsksOfScripts, IsFirst}
use Rattle.swc_base_early_errors.specs.declared.errors.NameError.TheVariants as name
use Rattle.swc_base_early_errors.specs.declared.scripts.ScriptFault.TheVariants as script
use Rattle.swc_base_covers.specs.Shown.{IsShown}
use Rattle.swc_base_covers.specs.declared.gap.Cause.{Cause}
use Rattle.swc_base_covers.specs.declared.gap.Cause.TheVariants as cause
use Rattle.swc_base_covers.specs.declared.gap.Gap.{Gap}

-- something reads names as the program runs, and it counts
abbrev pub IsRead : Config → Node → Type 0
IsRead config t = (config.ignore_eval ≡ false) × HasEval t

-- a program without types, contexts and early errors of names that can be written down, in which nothing reads names and where
-- classes don't keep theirs; of a script the four that are asked of it besides
pub record IsCovered (config : Config) (t : Node) : Type 0 where
  pub no_types : has_types t ≡ false
  pub clean : IsClean t
  pub writable : Writable t
  pub renames_classes : config.keep_class_names ≡ false
  pub unread : ¬ IsRead config t
  pub plain : IsPlainIfScript t
  pub fair : NoEarlyErrorOfNames t

-- what is asked, by the word for its lack
abbrev pub Asks : Config → Node → Cause → Type 0
Asks config t cause.Types = has_types t ≡ false
Asks config t cause.Context = IsClean t
Asks config t cause.Written = Writable t
Asks config t cause.Classes = config.keep_class_names ≡ false
Asks config t cause.Reads = ¬ IsRead config t
Asks config t cause.Function = IsTrue (is_script t) → AsksOfScripts script.SloppyFunction t
Asks config t cause.Label = IsTrue (is_script t) → AsksOfScripts script.Label t
Asks config t cause.Global = IsTrue (is_script t) → AsksOfScripts script.GlobalValue t
Asks config t cause.Repeated = IsTrue (is_script t) → AsksOfScripts script.RepeatedParameter t
Asks config t cause.Export = AsksOfNames name.Export t
Asks config t cause.Twice = AsksOfNames name.Twice t
Asks config t cause.Variable = AsksOfNames name.Variable t
Asks config t cause.Parameter = AsksOfNames name.Parameter t
Asks config t cause.Eval = AsksOfNames name.EvalOrArguments t

-- the words, in order
abbrev pub causes : List Cause
causes = cause.Types ∷ cause.Context ∷ cause.Written ∷ cause.Classes ∷ cause.Reads ∷ cause.Function ∷ cause.Label ∷ cause.Global ∷ cause.Repeated
    ∷ cause.Export ∷ cause.Twice ∷ cause.Variable ∷ cause.Parameter ∷ cause.Eval ∷ []

-- what is said of a program: that it is covered; or that it isn't, and the first that fails
abbrev pub Tells : Config → Node → Option Gap → Type 0
Tells config t None = IsCovered config t
Tells config t (Some gap) = ¬ IsCovered config t × IsFirst (Asks config t) causes gap.cause

-- where it shows first, if it does at a node
abbrev pub HasPath : Node → Option Gap → Type 0
HasPath t None = Unit {0}
HasPath t (Some gap) = IsShown gap.cause t gap.path
