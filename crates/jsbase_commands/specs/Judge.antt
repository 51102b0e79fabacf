-- What is said of the two versions of a program that an input has.
use Rattle.std.specs.Prelude.{◌≡◌, ◌||◌, Bool, true, false, ℕ, ◌⊎◌, List, ◌∷◌, codes, Ok, Err, string_bytes}
use Rattle.swc_tree_marks.specs.declared.error.PassError.{PassError}
use Rattle.swc_tree_marks.specs.declared.error.PassError.TheVariants as refusal
use Rattle.swc_tree_node.specs.declared.kind.Class.{Class}
use Rattle.swc_tree_node.specs.declared.node.Node.{Node}
use Rattle.swc_tree_spaces.specs.Spaces.{has_types}
use Rattle.swc_base_alpha.specs.Verdict.{HasPaths, IsJudgeRefusal, Tells}
use Rattle.swc_base_alpha.specs.declared.verdict.Difference.{Difference}
use Rattle.swc_base_alpha.specs.declared.verdict.Verdict.{Verdict}
use Rattle.swc_base_alpha.specs.declared.verdict.Verdict.TheVariants as verdict
use Rattle.swc_base_alpha.specs.declared.verdict.Why.{Why}
use Rattle.swc_base_alpha.specs.declared.verdict.Why.TheVariants as why
use Rattle.swc_base_plain_form.specs.PlainForm.{plain_form}
use Rattle.jsbase_form.specs.ByNumbers.{parts_to}
use Rattle.jsbase_form.specs.Reads.{Path, key, path_text}
use Rattle.jsbase_reader.specs.Versions.{versions_in_text}
use Rattle.jsbase_reader.specs.declared.versions.Versions.{Versions}
use Rattle.jsbase_writer.specs.Verdicts.{difference_text, same_text}
use Rattle.jsbase_commands.specs.declared.fault.Fault.{Fault}
use Rattle.jsbase_commands.specs.declared.fault.Fault.TheVariants.{Usage, Refused, NotATree}

abbrev pub why_word : Why → List ℕ
why_word why.Shape = codes "shape"
why_word why.Name = codes "name"
why_word why.Free = codes "free"
why_word why.Split = codes "split"
why_word why.Joined = codes "joined"
why_word why.Top = codes "top"
why_word why.Reads = codes "reads"
why_word why.Caught = codes "caught"

-- the path of a node in the tree at a key of the input: `$.before.body[0].decl`
abbrev pub path_under : List ℕ → Node → List ℕ → List ℕ
path_under k t numbers = path_text (key k ∷ parts_to t numbers)

-- the line that tells a verdict
abbrev pub verdict_text : Versions → Verdict → List ℕ
verdict_text v verdict.Same = same_text
verdict_text v (verdict.Differs d) = difference_text (path_under (codes "after") v.after d.after.items) (path_under (codes "before") v.before d.before.items) (why_word d.why)

-- a version as it is compared: its plain form, unless spellings count
abbrev pub as_compared : Bool → Node → Node
as_compared true t = t
as_compared false t = plain_form t

-- The output tells what holds of two versions, as they are compared, in which no types stand: that they are one but for names, or why
-- not; and where, in the versions themselves.
pub record IsTold (v : Versions) (output : List ℕ) : Type 0 where
  pub no_types : (has_types (as_compared v.spelling v.before) || has_types (as_compared v.spelling v.after)) ≡ false
  pub said : Verdict
  pub tells : Tells v.keep_top (as_compared v.spelling v.before) (as_compared v.spelling v.after) said
  pub paths : HasPaths v.before v.after said
  pub written : output ≡ verdict_text v said

-- the output tells a word of the two versions that the input has, each of the class, and where it shows
pub record IsShown (c : Class) (input : List ℕ) (w : Why) (output : List ℕ) : Type 0 where
  pub versions : Versions
  pub read : versions_in_text c input ≡ Ok versions
  pub difference : Difference
  pub why : difference.why ≡ w
  pub paths : HasPaths versions.before versions.after (verdict.Differs difference)
  pub written : output ≡ verdict_text versions (verdict.Differs difference)

-- memory was refused, or types stand in one of the versions as they are compared, or marks were spent
abbrev pub IsUntoldFor : Versions → PassError → Type 0
IsUntoldFor v error = (error ≡ refusal.NoMemory) ⊎ IsJudgeRefusal (as_compared v.spelling v.before) (as_compared v.spelling v.after) error

-- the output tells what is said of the two versions that the input has, each of the class
abbrev pub IsToldOf : Class → List ℕ → List ℕ → Type 0
IsToldOf c input output = (v : Versions) × (versions_in_text c input ≡ Ok v) × IsTold v output

-- the fault is the input's first, by its path; else nothing is said of the versions
abbrev pub IsUntoldOf : Class → List ℕ → Fault → Type 0
IsUntoldOf c input Usage = ⊥
IsUntoldOf c input (NotATree text) = (path : Path) × (versions_in_text c input ≡ Err path) × (string_bytes text ≡ path_text path)
IsUntoldOf c input (Refused error) = (error ≡ refusal.NoMemory) ⊎ ((v : Versions) × (versions_in_text c input ≡ Ok v) × IsUntoldFor v error)
