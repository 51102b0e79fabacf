-- What a lawful renamer and then the fixer keep of a program; hygiene is such a renamer.
use Rattle.std.specs.Prelude.{◌≡◌, ℕ, Contains, true, IsTrue, List, [], ◌∷◌}
use Rattle.swc_tree_marks.specs.Globals.{Table, numbers}
use Rattle.swc_tree_node.specs.declared.node.Node.{Node}
use Rattle.swc_tree_node.specs.declared.slot.Slot.{Slot}
use Rattle.swc_tree_node.specs.Fits.{Fits}
use Rattle.swc_tree_scoping.specs.BoundNames.{Id}
use Rattle.swc_tree_scoping.specs.Resolved.{Resolved}
use Rattle.swc_tree_scoping.specs.WellScoped.{WellScoped}
use Rattle.swc_tree_renaming.specs.Apart.{IsPlainIfScript, Knows, MeanTheirIds, SameIds, is_goal}
use Rattle.swc_tree_grammar.specs.Due.{Places}
use Rattle.swc_tree_grammar.specs.Fixed.{fixed}
use Rattle.swc_tree_grammar.specs.Normal.{normal_form}
use Rattle.swc_tree_grammar.specs.Targets.{all_bare}
use Rattle.swc_base_rename_analysis.specs.Named.{Renaming}
use Rattle.swc_base_rename_substitution.specs.declared.config.Config.{Config}
use Rattle.swc_base_rename_laws.specs.NewNames.{SameButForNames}
use Rattle.swc_base_renaming_laws.specs.Hygiene.{IsFinishable}
use Rattle.swc_base_renaming_laws.specs.Renamers.{IsLawful, IsRenamedAndCleared, KeepsTopApart, SparesIfScript}
use Rattle.swc_base_rename_scoped_laws.specs.Laws.{KeepsApart, PreservesNone}
use Rattle.swc_base_alpha_laws.specs.Alpha.{AlphaEquivalent}
use Rattle.swc_ecma_transforms_base_laws.specs.SourceNames.{ComesFrom}
use Rattle.swc_ecma_transforms_base_laws.specs.Finished.{KeepsProgram}
use Rattle.swc_ecma_transforms_base_laws.specs.Headline.{KeepsItsForm, KeepsItsPromises, KeepsItsSource}
use Rattle.swc_ecma_transforms_base_laws.specs.Sources.{IsSource}

-- what is asked of a renamer for one program: the ids that it preserves keep apart, and no other id of a script gets the text of a global value
pub record Suits (r : Renaming) (t : Node) : Type 0 where
  pub top_apart : KeepsTopApart r t
  pub apart : WellScoped t → KeepsApart r t
  pub spares : SparesIfScript r t

-- one that preserves no id suits each module, and each script if it gives no text of a global value
abbrev pub RenamersThatPreserveNoneSuit : Type 0
RenamersThatPreserveNoneSuit = (r : Renaming) (t : Node) → PreservesNone r → SparesIfScript r t → Suits r t

-- what it preserves has the mark of the program alone, as what the program of a source declares has once it is resolved
abbrev pub PreservesTopNames : ℕ → Renaming → Type 0
PreservesTopNames top r = (x : Id) → IsTrue (r.preserves x) → x.1 ≡ top ∷ []

-- such a renamer suits what a source is resolved to, a module, or a script of which what is asked of scripts holds
abbrev pub RenamersThatPreserveTopNamesSuit : Type 0
RenamersThatPreserveTopNamesSuit = (r : Renaming) (config : Config) (goal : Slot) (source resolved : Node) (unresolved top : ℕ) (old new : Table) → PreservesTopNames top r → SparesIfScript r resolved → IsTrue (is_goal goal) → Fits source goal
    → IsSource config source → IsPlainIfScript source → Contains (numbers old) unresolved → Resolved unresolved top old new source resolved → Suits r resolved

-- a lawful renamer and then the fixer keep a program that can be finished, wherever the fixer puts its pairs
abbrev pub FinishingRenamedKeepsPrograms : Type 0
FinishingRenamedKeepsPrograms = (r : Renaming) (table : Table) (config : Config) (place : Places) (goal : Slot) (before middle : Node) → IsLawful r → KeepsTopApart r before → IsTrue (is_goal goal) → Fits before goal → IsFinishable config before
    → IsRenamedAndCleared table config r before middle → KeepsProgram before (fixed place middle)

-- all else of its normal form stays, each identifier where it stood in the source
abbrev pub FinishingRenamedKeepsSpans : Type 0
FinishingRenamedKeepsSpans = (r : Renaming) (table : Table) (config : Config) (place : Places) (goal : Slot) (before middle : Node) → KeepsTopApart r before → IsTrue (is_goal goal) → Fits before goal → IsFinishable config before
    → IsRenamedAndCleared table config r before middle → SameButForNames (normal_form before) (normal_form (fixed place middle))

-- and the fixer does not refuse what the renamer made of it for a target that takes no value
abbrev pub FinishingRenamedMeetsNoTarget : Type 0
FinishingRenamedMeetsNoTarget = (r : Renaming) (table : Table) (config : Config) (goal : Slot) (before middle : Node) → IsLawful r → IsTrue (is_goal goal) → Fits before goal → IsFinishable config before
    → IsRenamedAndCleared table config r before middle → all_bare middle ≡ true

-- of a well-scoped program the answer, resolved with any mark that is known for free names, gives two kept names one id exactly
-- if the program did
abbrev pub FinishingRenamedKeepsIds : Type 0
FinishingRenamedKeepsIds = (r : Renaming) (table : Table) (config : Config) (place : Places) (goal : Slot) (before middle u : Node) (unresolved top : ℕ) (old new : List (ℕ × ℕ)) → IsLawful r → KeepsApart r before
    → SparesIfScript r before → IsTrue (is_goal goal) → Fits before goal → IsFinishable config before → IsPlainIfScript before → WellScoped before → IsRenamedAndCleared table config r before middle
    → Knows old unresolved → Resolved unresolved top old new (fixed place middle) u → SameIds (normal_form before) (normal_form u)

-- and by the texts and scopes of the answer alone, two kept names mean one thing exactly if the program had one id for them
abbrev pub FinishingRenamedKeepsMeanings : Type 0
FinishingRenamedKeepsMeanings = (r : Renaming) (table : Table) (config : Config) (place : Places) (goal : Slot) (before middle : Node) → IsLawful r → KeepsApart r before → IsTrue (is_goal goal) → Fits before goal → IsFinishable config before
    → IsPlainIfScript before → WellScoped before → IsRenamedAndCleared table config r before middle → MeanTheirIds (normal_form (fixed place middle)) (normal_form before)

-- and it is the same program, but for names, as each source that the program comes from
abbrev pub FinishingRenamedKeepsSources : Type 0
FinishingRenamedKeepsSources = (r : Renaming) (table : Table) (config : Config) (place : Places) (goal : Slot) (source before middle : Node) → IsLawful r → KeepsApart r before → SparesIfScript r before
    → IsTrue (is_goal goal) → Fits before goal → IsFinishable config before → IsPlainIfScript before → WellScoped before → IsRenamedAndCleared table config r before middle → ComesFrom source before
    → AlphaEquivalent source (fixed place middle)

-- together: the form stays, wherever the fixer puts its pairs
abbrev pub LawfulRenamersKeepForms : Type 0
LawfulRenamersKeepForms = (r : Renaming) (table : Table) (config : Config) (place : Places) (goal : Slot) (before middle : Node) → IsLawful r → KeepsTopApart r before → IsTrue (is_goal goal) → Fits before goal → IsFinishable config before
    → IsRenamedAndCleared table config r before middle → KeepsItsForm before (fixed place middle)

-- ... and the promises are kept, of a module, or of a script of which what is asked of scripts holds
abbrev pub LawfulRenamersKeepPromises : Type 0
LawfulRenamersKeepPromises = (r : Renaming) (table : Table) (config : Config) (place : Places) (goal : Slot) (before middle : Node) → IsLawful r → Suits r before → IsTrue (is_goal goal) → Fits before goal → IsFinishable config before
    → IsPlainIfScript before → IsRenamedAndCleared table config r before middle → KeepsItsPromises before (fixed place middle)

-- so by each that preserves no id, whatever the module
abbrev pub RenamersThatPreserveNoneKeepPromises : Type 0
RenamersThatPreserveNoneKeepPromises = (r : Renaming) (table : Table) (config : Config) (place : Places) (goal : Slot) (before middle : Node) → IsLawful r → PreservesNone r → SparesIfScript r before
    → IsTrue (is_goal goal) → Fits before goal → IsFinishable config before → IsPlainIfScript before → IsRenamedAndCleared table config r before middle → KeepsItsPromises before (fixed place middle)

-- the form of a source that is resolved first stays too, and the fixer has no target to refuse
abbrev pub LawfulRenamersKeepFormsOfSources : Type 0
LawfulRenamersKeepFormsOfSources = (r : Renaming) (config : Config) (place : Places) (goal : Slot) (unresolved top : ℕ) (old new : Table) (source resolved middle : Node) → IsLawful r → IsTrue (is_goal goal) → Fits source goal
    → IsSource config source → Resolved unresolved top old new source resolved → IsRenamedAndCleared new config r resolved middle
    → (KeepsTopApart r resolved → KeepsItsForm source (fixed place middle)) × (all_bare middle ≡ true)

-- ... and what is promised of a source, where the table has the mark of free names
abbrev pub LawfulRenamersKeepSources : Type 0
LawfulRenamersKeepSources = (r : Renaming) (config : Config) (place : Places) (goal : Slot) (unresolved top : ℕ) (old new : Table) (source resolved middle : Node) → IsLawful r → Suits r resolved → IsTrue (is_goal goal) → Fits source goal
    → IsSource config source → IsPlainIfScript source → Contains (numbers old) unresolved → Resolved unresolved top old new source resolved → IsRenamedAndCleared new config r resolved middle
    → KeepsItsSource unresolved top old new source (fixed place middle) × (all_bare middle ≡ true)
