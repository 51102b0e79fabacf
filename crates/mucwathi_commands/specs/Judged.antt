-- What is said of two texts.
use Rattle.std.specs.Prelude.{◌≡◌, ◌-◌, ◌⊎◌, Bool, true, false, ℕ, List, Option, IfSome, option_map}
use Rattle.swc_tree_marks.specs.declared.error.PassError.{PassError}
use Rattle.swc_tree_marks.specs.declared.error.PassError.TheVariants as refusal
use Rattle.swc_tree_marks.specs.declared.span.Span.{Span}
use Rattle.swc_tree_node.specs.declared.node.Node.{Node}
use Rattle.swc_tree_grammar.specs.Normal.{normal_form}
use Rattle.swc_tree_scoping.specs.WellScoped.{IsClean}
use Rattle.swc_base_alpha.specs.Shown.{Shows}
use Rattle.swc_base_alpha.specs.Verdict.{IsJudgeRefusal, TellsWhy}
use Rattle.swc_base_alpha.specs.declared.spans.Unplaced.TheVariants as unplaced
use Rattle.swc_base_alpha.specs.declared.verdict.Why.{Why}
use Rattle.swc_base_plain_form.specs.PlainForm.{plain_form}
use Rattle.text_reader.specs.declared.fault.TextFault.{TextFault}
use Rattle.text_reader.specs.declared.fault.TextFault.TheVariants as text
use Rattle.text_parser.specs.declared.programs.Goal.{Goal}
use Rattle.mucwathi_order.specs.Lower.text_source.specs.Texts.{Tells}
use Rattle.mucwathi_order.specs.declared.fault.JudgeFault.{JudgeFault}
use Rattle.mucwathi_order.specs.declared.fault.JudgeFault.TheVariants.{After, Before, Refused}
use Rattle.mucwathi_commands.specs.Written.{IsReadAs}
use Rattle.mucwathi_commands.specs.declared.judge.Rules.{Rules}
use Rattle.mucwathi_commands.specs.declared.judge.TextDifference.{TextDifference}

-- the text is read as a program in which no identifier has a context
pub record IsRead (goal : Goal) (text : List ℕ) (t : Node) : Type 0 where
  pub is_text : IsReadAs goal t text
  pub clean : IsClean t

-- what a fault says of a text, or that it was not read right
abbrev pub IsUnread : List ℕ → TextFault → Type 0
IsUnread bytes f = (f ≡ text.NotTheText) ⊎ Tells bytes f

-- the word of a difference
abbrev pub why_in : Option TextDifference → Option Why
why_in = option_map (λ d. d.why)

-- a program as it is compared: its plain form, unless spellings of literals count
abbrev pub as_compared : Bool → Node → Node
as_compared true t = t
as_compared false t = plain_form t

-- a difference is told with where it shows, by how many bytes are before that in each text; bytes are counted from 1 in spans
pub record IsPlaced (t u : Node) (d : TextDifference) : Type 0 where
  pub one : Span
  pub other : Span
  pub shows : Shows unplaced.IsMade (normal_form t) (normal_form u) d.why one other
  pub before : d.before ≡ one.lo - 1
  pub after : d.after ≡ other.lo - 1

-- what is said of two programs as they are compared
pub record IsSaid (keep_top : Bool) (t u : Node) (said : Option TextDifference) : Type 0 where
  pub tells : TellsWhy keep_top t u (why_in said)
  pub places : IfSome said (IsPlaced t u)

-- the texts are those of two programs, of which it is told that they are one but for names, or the first condition of that that fails,
-- and where that shows
pub record IsJudged (rules : Rules) (g : Goal) (before : List ℕ) (h : Goal) (after : List ℕ) (said : Option TextDifference) : Type 0 where
  pub first : Node
  pub second : Node
  pub read_first : IsRead g before first
  pub read_second : IsRead h after second
  pub tells : IsSaid rules.keep_top (as_compared rules.spelling first) (as_compared rules.spelling second) said

-- memory was refused, or the judge of the two as they are compared
abbrev pub IsUnsaid : Bool → Node → Node → PassError → Type 0
IsUnsaid spelling first second e = (e ≡ refusal.NoMemory) ⊎ IsJudgeRefusal (as_compared spelling first) (as_compared spelling second) e

-- the texts are those of two programs, of which nothing is said
pub record IsUnjudged (spelling : Bool) (g : Goal) (before : List ℕ) (h : Goal) (after : List ℕ) (e : PassError) : Type 0 where
  pub first : Node
  pub second : Node
  pub read_first : IsRead g before first
  pub read_second : IsRead h after second
  pub refused : IsJudgeRefusal (as_compared spelling first) (as_compared spelling second) e

abbrev pub IsBeforeFault : List ℕ → JudgeFault → Type 0
IsBeforeFault bytes (Before f) = IsUnread bytes f
IsBeforeFault bytes (After f) = ⊥
IsBeforeFault bytes (Refused e) = e ≡ refusal.NoMemory

abbrev pub IsAfterFault : List ℕ → JudgeFault → Type 0
IsAfterFault bytes (Before f) = ⊥
IsAfterFault bytes (After f) = IsUnread bytes f
IsAfterFault bytes (Refused e) = e ≡ refusal.NoMemory

-- a text is not read; or memory was refused, or the judge
abbrev pub IsJudgeFault : Bool → Goal → List ℕ → Goal → List ℕ → JudgeFault → Type 0
IsJudgeFault spelling g before h after (Before f) = IsUnread before f
IsJudgeFault spelling g before h after (After f) = IsUnread after f
IsJudgeFault spelling g before h after (Refused e) = (e ≡ refusal.NoMemory) ⊎ IsUnjudged spelling g before h after e
