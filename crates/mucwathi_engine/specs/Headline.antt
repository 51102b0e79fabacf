-- What is promised of a text that is written.
use Rattle.std.specs.Prelude.{◌≡◌, ◌⊎◌, ℕ, List, Option, None}
use Rattle.swc_tree_marks.specs.declared.error.PassError.TheVariants as refusal
use Rattle.text_parser.specs.declared.programs.Goal.{Goal}
use Rattle.text_source.specs.Texts.{Tells, comments_of, slot_of}
use Rattle.mucwathi_laws.specs.Lower.text_kept_laws.specs.Chain.{HasTexts}
use Rattle.mucwathi_settings.specs.declared.command.Settings.{Settings}
use Rattle.mucwathi_order.specs.declared.order.Order.{Order}
use Rattle.mucwathi_order.specs.Styles.{layout_of}
use Rattle.mucwathi_order.specs.declared.fault.RunFault.{RunFault}
use Rattle.mucwathi_order.specs.declared.fault.RunFault.TheVariants.{NotKept, NotWritten, Refused, Text}
use Rattle.mucwathi_laws.specs.Promises.{IsCovered, Keeps, KeepsTokens, SparesTargets}
use Rattle.mucwathi_commands.specs.Comments.{TellsLost}
use Rattle.mucwathi_commands.specs.Faults.{IsUnwritten}
use Rattle.mucwathi_commands.specs.Looks.{IsCoverTold}
use Rattle.mucwathi_commands.specs.Written.{IsRefusedText, IsRewritten}
use Rattle.mucwathi_commands.specs.declared.cover.CoverGap.{CoverGap}

-- What was read is the text of a source, and what is written that of an answer, which the command makes of the source: of a program
-- that gets its names anew, the same program but for the names that it binds. The answer's productions have their lengths, and its leaves
-- are tokens of their kinds.
pub record IsPromised (order : Order) (text out : List ℕ) : Type 0 where
  pub rewritten : IsRewritten order text out
  pub kept : Keeps order.command order.settings rewritten.source rewritten.answer
  pub tokens : KeepsTokens order.command order.settings rewritten.source rewritten.answer
  pub texts : HasTexts (slot_of order.goal) rewritten.answer

-- ... and those comments of it are told that are lost
pub record IsPromisedWith (order : Order) (text out lost : List ℕ) : Type 0 where
  pub promised : IsPromised order text out
  pub tells : TellsLost (layout_of order.style) (comments_of order.goal) promised.rewritten.source promised.rewritten.answer text out lost

-- An answer is not written, though its productions have their lengths, and its leaves are tokens of their kinds.
pub record IsUnwrittenThough (order : Order) (text : List ℕ) : Type 0 where
  pub unwritten : IsUnwritten order text
  pub texts : HasTexts (slot_of order.goal) unwritten.answer

-- the fault tells of the text; where a source was refused, targets were spared, and where an answer is not written, no length and no leaf is to blame
abbrev pub IsPromisedFault : Order → List ℕ → RunFault → Type 0
IsPromisedFault order text (Refused e) = (e ≡ refusal.NoMemory) ⊎ ((refused : IsRefusedText order text e) × SparesTargets order.command order.settings refused.source e)
IsPromisedFault order text (Text f) = Tells text f
IsPromisedFault order text NotWritten = IsUnwrittenThough order text
IsPromisedFault order text NotKept = IsUnwrittenThough order text

-- it is told whether the program of a text is covered, and one of which that is told is one of which the promises are kept
pub record IsToldToBePromised (goal : Goal) (s : Settings) (text : List ℕ) (gap : Option CoverGap) : Type 0 where
  pub told : IsCoverTold goal s text gap
  pub promised : gap ≡ None → IsCovered s told.source
