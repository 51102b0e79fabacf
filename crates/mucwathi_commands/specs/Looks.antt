-- What is told of a text.
use Rattle.std.specs.Prelude.{◌≡◌, ◌-◌, ℕ, List, Option, Some, None, option_map}
use Rattle.swc_tree_marks.specs.declared.error.PassError.TheVariants as refusal
use Rattle.swc_tree_node.specs.declared.node.Node.{Node}
use Rattle.swc_tree_scoping.specs.Places.{Path, program_place}
use Rattle.swc_tree_grammar.specs.Blocks.{no_span}
use Rattle.swc_base_alpha.specs.Shapes.{nearest}
use Rattle.swc_base_alpha.specs.declared.spans.Unplaced.TheVariants as unplaced
use Rattle.swc_base_covers.specs.Covered.{Asks, IsCovered, causes}
use Rattle.swc_base_covers.specs.Shown.{ShownAt, ShownFirst}
use Rattle.swc_base_covers.specs.declared.gap.Cause.{Cause}
use Rattle.swc_base_covers.specs.declared.gap.Gap.{Gap}
use Rattle.swc_base_covers.specs.Lower.swc_base_early_errors.specs.Errors.{IsFirst}
use Rattle.swc_base_rename_substitution.specs.declared.config.Config.{Config}
use Rattle.text_parser.specs.declared.programs.Goal.{Goal}
use Rattle.mucwathi_order.specs.Lower.text_source.specs.Texts.{Tells}
use Rattle.mucwathi_settings.specs.declared.command.Settings.{Settings}
use Rattle.mucwathi_commands.specs.Written.{IsReadAs}
use Rattle.mucwathi_commands.specs.declared.cover.CoverGap.{CoverGap}
use Rattle.mucwathi_order.specs.declared.fault.RunFault.{RunFault}
use Rattle.mucwathi_order.specs.declared.fault.RunFault.TheVariants.{NotKept, NotWritten, Refused, Text}
use Rattle.mucwathi_passes.specs.Passes.{config_of}

abbrev pub cause_of : Option Gap → Option Cause
cause_of = option_map (λ g. g.cause)

abbrev pub cause_in : Option CoverGap → Option Cause
cause_in = option_map (λ g. g.cause)

-- that a program is covered; or that it isn't, and the first that fails
abbrev pub TellsCause : Config → Node → Option Cause → Type 0
TellsCause config t None = IsCovered config t
TellsCause config t (Some cause) = ¬ IsCovered config t × IsFirst (Asks config t) causes cause

-- so many bytes are before the first node at which a cause shows, or before what has a span round it; or it shows at none
abbrev pub IsPlaceOf : Cause → Node → Option ℕ → Type 0
IsPlaceOf c t None = (p : Path) → ¬ ShownAt c program_place t p
IsPlaceOf c t (Some n) = (p : Path) × ShownFirst c program_place t p × (n ≡ (nearest unplaced.IsUnknown no_span t p).lo - 1)

abbrev pub HasPlace : Node → Option CoverGap → Type 0
HasPlace t None = Unit {0}
HasPlace t (Some gap) = IsPlaceOf gap.cause t gap.at

-- the text is that of a program of which it is told whether it is covered, and where what it lacks shows
pub record IsCoverTold (goal : Goal) (s : Settings) (text : List ℕ) (gap : Option CoverGap) : Type 0 where
  pub source : Node
  pub read : IsReadAs goal source text
  pub tells : TellsCause (config_of s) source (cause_in gap)
  pub place : HasPlace source gap

-- the text is not read, or memory was refused
abbrev pub IsUncovered : List ℕ → RunFault → Type 0
IsUncovered text (Text f) = Tells text f
IsUncovered text (Refused e) = e ≡ refusal.NoMemory
IsUncovered text NotWritten = ⊥
IsUncovered text NotKept = ⊥
