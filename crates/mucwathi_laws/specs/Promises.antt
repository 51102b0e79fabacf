-- What is promised of what a command makes of a program.
use Rattle.std.specs.Prelude.{IsTrue}
use Rattle.swc_tree_marks.specs.Globals.{Table}
use Rattle.swc_tree_marks.specs.declared.error.PassError.{PassError}
use Rattle.swc_tree_marks.specs.declared.error.PassError.TheVariants as refusal
use Rattle.swc_tree_node.specs.declared.node.Node.{Node}
use Rattle.swc_tree_node.specs.declared.slot.Slot.{Slot}
use Rattle.swc_tree_node.specs.Fits.{Fits}
use Rattle.swc_tree_renaming.specs.Apart.{IsPlainIfScript, is_goal}
use Rattle.swc_base_alpha_laws.specs.Alpha.{AlphaEquivalent}
use Rattle.swc_base_fixer.specs.Promises.{Promises}
use Rattle.swc_base_mangle_laws.specs.Lower.swc_ecma_transforms_base_laws.specs.Headline.{KeepsItsForm, KeepsItsSource}
use Rattle.swc_base_mangle_laws.specs.Lower.swc_ecma_transforms_base_laws.specs.Sources.{IsSource}
use Rattle.swc_tree_grammar.specs.Normal.{normal_form}
use Rattle.swc_tree_grammar.specs.Same.{declared_names}
use Rattle.text_pieces.specs.Pieces.{pieces}
use Rattle.text_kept_laws.specs.Bound.{SameButBound}
use Rattle.text_kept_laws.specs.Chain.{HasTexts}
use Rattle.text_kept_laws.specs.Written.{HasTokensOf}
use Rattle.mucwathi_settings.specs.declared.command.Command.{Command}
use Rattle.mucwathi_settings.specs.declared.command.Command.TheVariants as command
use Rattle.mucwathi_settings.specs.declared.command.Settings.{Settings}
use Rattle.mucwathi_passes.specs.Passes.{IsRefusal, Makes, config_of, own_table}

-- Something is promised of a program without early errors of names that can be written down, in which nothing reads names and where
-- classes don't keep theirs: of a module, and of a script that is plain.
abbrev pub IsCovered : Settings → Node → Type 0
IsCovered s t = IsSource (config_of s) t × IsPlainIfScript t

-- The answer is the same program, but for the names that it binds, and the grammar derives it.
abbrev pub IsSameProgram : Node → Node → Type 0
IsSameProgram source answer = (table : Table) × KeepsItsSource 1 2 own_table table source answer

-- of a program that gets its names, and then its parentheses, anew
pub record KeepsProgram (s : Settings) (source answer : Node) : Type 0 where
  pub same : IsCovered s source → IsSameProgram source answer
  pub form : IsSource (config_of s) source → KeepsItsForm source answer
  -- both with all written out have the same tokens, but for names that the program binds
  pub tokens : IsSource (config_of s) source → SameButBound (declared_names source) (pieces (normal_form source)) (pieces (normal_form answer))

-- what is promised of an answer beside that the command makes it
abbrev pub Keeps : Command → Settings → Node → Node → Type 0
Keeps command.Chain s source answer = KeepsProgram s source answer
Keeps command.Mangle s source answer = KeepsProgram s source answer
Keeps command.Hygiene s source answer = IsCovered s source → AlphaEquivalent source answer
Keeps command.Fix s source answer = Promises source answer
Keeps command.Unparen s source answer = Unit {0}

-- so it is of what is made of each module and each script
abbrev pub PromisesAreKept : Type 0
PromisesAreKept = (c : Command) (s : Settings) (goal : Slot) (source answer : Node) → IsTrue (is_goal goal) → Fits source goal → Makes c s source answer → Keeps c s source answer

-- a source of a chain or of mangling is not refused for its targets
abbrev pub SparesTargets : Command → Settings → Node → PassError → Type 0
SparesTargets command.Chain s source refusal.NotAssignable = IsSource (config_of s) source → ⊥
SparesTargets command.Mangle s source refusal.NotAssignable = IsSource (config_of s) source → ⊥
SparesTargets _ s source e = Unit {0}

abbrev pub TargetsAreSpared : Type 0
TargetsAreSpared = (c : Command) (s : Settings) (goal : Slot) (source : Node) (e : PassError) → IsTrue (is_goal goal) → Fits source goal → IsRefusal c s source e → SparesTargets c s source e

-- whatever the command, productions keep their lengths, and leaves and names what they have to be, so that the answer can be written
abbrev pub TextsAreKept : Type 0
TextsAreKept = (c : Command) (s : Settings) (goal : Slot) (source answer : Node) → IsTrue (is_goal goal) → Makes c s source answer → HasTexts goal source → HasTexts goal answer

-- what comes out has the tokens of what went in, but for names that the program binds, pairs of parentheses, blocks, what is written out, and what
-- does nothing
abbrev pub KeepsTokens : Command → Settings → Node → Node → Type 0
KeepsTokens command.Chain s source answer = IsSource (config_of s) source → HasTokensOf source answer
KeepsTokens command.Mangle s source answer = IsSource (config_of s) source → HasTokensOf source answer
KeepsTokens c s source answer = Unit {0}

abbrev pub TokensAreKept : Type 0
TokensAreKept = (c : Command) (s : Settings) (goal : Slot) (source answer : Node) → IsTrue (is_goal goal) → HasTexts goal source → Makes c s source answer → KeepsTokens c s source answer
