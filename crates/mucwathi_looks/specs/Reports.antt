-- What is told: faults, differences, and whether the promise covers a text.
use Rattle.std.specs.Prelude.{◌≡◌, ℕ, List, [], ◌∷◌, ◌++◌, Option, Some, None, codes, decimal, length, min}
use Rattle.std.specs.List.{flat_map}
use Rattle.swc_base_alpha.specs.declared.verdict.Why.{Why}
use Rattle.swc_base_alpha.specs.declared.verdict.Why.TheVariants as why
use Rattle.swc_base_covers.specs.declared.gap.Cause.{Cause}
use Rattle.swc_base_covers.specs.declared.gap.Cause.TheVariants as cause
use Rattle.swc_tree_marks.specs.declared.error.PassError.{PassError}
use Rattle.swc_tree_marks.specs.declared.error.PassError.TheVariants as refusal
use Rattle.text_places.specs.Places.{line, column}
use Rattle.text_reader.specs.Faults.{place_of}
use Rattle.mucwathi_commands.specs.declared.cover.CoverGap.{CoverGap}
use Rattle.mucwathi_commands.specs.declared.judge.TextDifference.{TextDifference}
use Rattle.mucwathi_order.specs.declared.fault.JudgeFault.{JudgeFault}
use Rattle.mucwathi_order.specs.declared.fault.JudgeFault.TheVariants as judging
use Rattle.mucwathi_order.specs.declared.fault.RunFault.{RunFault}
use Rattle.mucwathi_order.specs.declared.fault.RunFault.TheVariants as running
use Rattle.mucwathi_looks.specs.Excerpts.{AddsExcerpt}
use Rattle.mucwathi_looks.specs.declared.reports.Named.{Named}

-- texts one behind another, and a line end
abbrev pub line_of : List (List ℕ) → List ℕ
line_of parts = flat_map (λ p. p) parts ++ 10 ∷ []

-- where it is: `:2:7: `
abbrev pub place_text : List ℕ → Option ℕ → List ℕ
place_text text None = codes ": "
place_text text (Some at) = 58 ∷ (decimal (line text (min at (length text))) ++ 58 ∷ (decimal (column text (min at (length text))) ++ codes ": "))

-- what keeps a program from what is promised
abbrev pub cause_text : Cause → List ℕ
cause_text cause.Types = codes "types stand in it"
cause_text cause.Context = codes "a name has a mark"
cause_text cause.Written = codes "it can't be written down as JavaScript"
cause_text cause.Classes = codes "classes are to keep their names"
cause_text cause.Reads = codes "eval or with may read names as it runs"
cause_text cause.Function = codes "a plain function stands in a block of sloppy code"
cause_text cause.Label = codes "a label names a function"
cause_text cause.Global = codes "the program declares undefined, NaN or Infinity"
cause_text cause.Repeated = codes "two parameters of a function have one name"
cause_text cause.Export = codes "what is exported is not declared"
cause_text cause.Twice = codes "a name is declared twice"
cause_text cause.Variable = codes "a var passes a scope that declares its name"
cause_text cause.Parameter = codes "two parameters have one name"
cause_text cause.Eval = codes "eval or arguments is declared"

-- a place is shown behind what was told of it, if there is one
abbrev pub IsShown : List ℕ → Option ℕ → (old new : List ℕ) → Type 0
IsShown text None old new = new ≡ old
IsShown text (Some at) old new = AddsExcerpt text at old new

-- `a.js:2:7: what it is`, the line that it tells of, and a caret under the place
abbrev pub IsReport : (name text : List ℕ) → Option ℕ → (sentence out : List ℕ) → Type 0
IsReport name text at sentence out = IsShown text at (line_of (name ∷ place_text text at ∷ sentence ∷ [])) out

-- why a pass is refused
abbrev pub refusal_text : PassError → List ℕ
refusal_text refusal.NoMemory = codes "no memory"
refusal_text refusal.MarksSpent = codes "no mark is left for a scope"
refusal_text refusal.CounterSpent = codes "no number is left to make a free name with"
refusal_text refusal.NotAssignable = codes "a target in parentheses takes no value"
refusal_text refusal.TypesLeft = codes "types stand in it"

-- what is told of a fault: where a text is not read, a report of the place where it is not; else in a line what was refused
abbrev pub IsFaultReport : List ℕ → List ℕ → RunFault → List ℕ → Type 0
IsFaultReport name text (running.Text f) out = (sentence : List ℕ) × IsReport name text (place_of f) sentence out
IsFaultReport name text (running.Refused e) out = out ≡ line_of (name ∷ codes ": refused: " ∷ refusal_text e ∷ [])
IsFaultReport name text running.NotWritten out = out ≡ line_of (name ∷ codes ": refused: the answer has no text, or none that is read again" ∷ [])
IsFaultReport name text running.NotKept out = out ≡ line_of (name ∷ codes ": refused: its layout can't be kept; --print writes it anew" ∷ [])

-- ... and of one of two texts, the second where both were read
abbrev pub IsJudgeFaultReport : (before after : Named) → JudgeFault → List ℕ → Type 0
IsJudgeFaultReport before after (judging.Before f) out = IsFaultReport before.name.now before.text.now (running.Text f) out
IsJudgeFaultReport before after (judging.After f) out = IsFaultReport after.name.now after.text.now (running.Text f) out
IsJudgeFaultReport before after (judging.Refused e) out = IsFaultReport after.name.now after.text.now (running.Refused e) out

-- what is told of an input that is no tree: the path of what is wrong in it
abbrev pub no_tree_text : (name path : List ℕ) → List ℕ
no_tree_text name path = line_of (name ∷ codes ": not a tree: " ∷ path ∷ [])

-- how two programs differ
abbrev pub why_text : Why → List ℕ
why_text why.Shape = codes "shape: they differ by more than names"
why_text why.Name = codes "name: a label, an imported or an exported name has another text"
why_text why.Free = codes "free: a free name has another text, was bound, or was free"
why_text why.Split = codes "split: two uses of one variable became two"
why_text why.Joined = codes "joined: two variables became one"
why_text why.Top = codes "top: a name of the program's own scope has another text"
why_text why.Reads = codes "reads: eval or with may read names, and one has another text"
why_text why.Caught = codes "caught: a catch parameter is met by its name, and a name has another text"

-- ... is told in two reports: of where it shows in the second text, and where in the first
pub record IsDifferenceReport (before after : Named) (d : TextDifference) (out : List ℕ) : Type 0 where
  pub first : List ℕ
  pub second : List ℕ
  pub there : IsReport after.name.now after.text.now (Some d.after) (why_text d.why) first
  pub here : IsReport before.name.now before.text.now (Some d.before) (codes "here before") second
  pub whole : out ≡ first ++ second

-- `a.js: the promise covers it`, or a report of what it lacks
abbrev pub IsCoverReport : List ℕ → List ℕ → Option CoverGap → List ℕ → Type 0
IsCoverReport name text None out = out ≡ line_of (name ∷ codes ": the promise covers it" ∷ [])
IsCoverReport name text (Some gap) out = IsReport name text gap.at (codes "the promise does not cover it: " ++ cause_text gap.cause) out
