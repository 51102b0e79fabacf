-- What the parts of the decision answer.
use Rattle.std.specs.Prelude.{Bool, false, ◌++◌, Option, Some, None, List, [], ◌∷◌}
use Rattle.swc_tree_node.specs.declared.node.Node.{Node}
use Rattle.swc_tree_node.specs.declared.node.Node.TheOpen.{Node-F}
use Rattle.swc_base_rename_substitution.specs.declared.config.Config.{Config}
use Rattle.swc_base_early_errors.specs.Errors.{IsFirst}
use Rattle.swc_base_early_errors.specs.declared.errors.NameError.{NameError}
use Rattle.swc_base_early_errors.specs.declared.errors.NameError.TheVariants as name
use Rattle.swc_base_early_errors.specs.declared.scripts.ScriptFault.{ScriptFault}
use Rattle.swc_base_early_errors.specs.declared.scripts.ScriptFault.TheVariants as script
use Rattle.swc_base_covers.specs.declared.gap.Cause.{Cause}
use Rattle.swc_base_covers.specs.declared.gap.Cause.TheVariants as cause
use Rattle.swc_base_covers.specs.Covered.{Asks}
use Rattle.swc_base_covers.specs.Shown.{has_marks}

-- the cause that an early error of names is
abbrev pub name_cause : NameError → Cause
name_cause name.Export = cause.Export
name_cause name.Twice = cause.Twice
name_cause name.Variable = cause.Variable
name_cause name.Parameter = cause.Parameter
name_cause name.EvalOrArguments = cause.Eval

-- the cause that a fault of a script alone is
abbrev pub script_cause : ScriptFault → Cause
script_cause script.SloppyFunction = cause.Function
script_cause script.Label = cause.Label
script_cause script.GlobalValue = cause.Global
script_cause script.RepeatedParameter = cause.Repeated

-- an identifier that has a context
abbrev pub has_context : Node-F Node → Bool
has_context (Node-F.Identifier k i) = has_marks i.ctxt
has_context _ = false

-- conditions in a row hold; or the word names the first that fails
abbrev pub AllHold : {C : Type 0} → (C → Type 0) → List C → Type 0
AllHold asks [] = Unit {0}
AllHold asks (v ∷ vs) = asks v × AllHold asks vs

abbrev pub Decides : {C : Type 0} → (C → Type 0) → List C → Option C → Type 0
Decides asks cs None = AllHold asks cs
Decides asks cs (Some c) = IsFirst asks cs c

-- of the tree, of scripts alone, of names
abbrev pub tree_causes : List Cause
tree_causes = cause.Types ∷ cause.Context ∷ cause.Written ∷ cause.Classes ∷ cause.Reads ∷ []

abbrev pub script_causes : List Cause
script_causes = cause.Function ∷ cause.Label ∷ cause.Global ∷ cause.Repeated ∷ []

abbrev pub name_causes : List Cause
name_causes = cause.Export ∷ cause.Twice ∷ cause.Variable ∷ cause.Parameter ∷ cause.Eval ∷ []

-- what is said of the names of a program, whatever the passes go by
abbrev pub DecidesNames : Node → Option Cause → Type 0
DecidesNames t o = (config : Config) → Decides (Asks config t) (script_causes ++ name_causes) o
