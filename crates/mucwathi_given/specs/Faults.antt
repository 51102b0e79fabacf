-- Why an input is no program.
use Rattle.std.specs.Prelude.{◌≡◌, ℕ, List, length, leb, if◌then◌else◌, Err, ⊤, string_bytes}
use Rattle.jsbase_form.specs.Reads.{Path, path_text}
use Rattle.jsbase_programs.specs.declared.programs.Goal.{Goal}
use Rattle.jsbase_programs.specs.declared.programs.Goal.TheVariants as goal
use Rattle.jsbase_programs.specs.Goals.{class_of}
use Rattle.jsbase_reader.specs.Envelopes.{envelope_in_text}
use Rattle.jsbase_reader.specs.declared.error.ReadError.{ReadError}
use Rattle.jsbase_reader.specs.declared.error.ReadError.TheVariants as read
use Rattle.mucwathi_given.specs.declared.json.TreeFault.{TreeFault}
use Rattle.mucwathi_given.specs.declared.json.TreeFault.TheVariants.{NotATree, NoMemory}

-- it is no envelope of a program of the goal, and this shows the path to its first fault
abbrev pub IsUnread : Goal → (text shown : List ℕ) → Type 0
IsUnread g text shown = (path : Path) × (envelope_in_text (class_of g) text ≡ Err path) × (shown ≡ path_text path)

abbrev pub NamesUnread : (text shown : List ℕ) → Type 0
NamesUnread text shown = IsUnread goal.Module text shown

-- the longer of two, which is further in
abbrev pub longer : List ℕ → List ℕ → List ℕ
longer one other = if leb (length other) (length one) then one else other

-- it is an envelope neither of a module nor of a script, and of the two paths the longer is shown
pub record IsNoTree (text shown : List ℕ) : Type 0 where
  pub in_module : List ℕ
  pub in_script : List ℕ
  pub no_module : IsUnread goal.Module text in_module
  pub no_script : IsUnread goal.Script text in_script
  pub further : shown ≡ longer in_module in_script

abbrev pub IsTreeFault : List ℕ → TreeFault → Type 0
IsTreeFault text (NotATree shown) = IsNoTree text (string_bytes shown)
IsTreeFault text NoMemory = ⊤

-- ... of one of them
abbrev pub IsUnreadFault : Goal → List ℕ → TreeFault → Type 0
IsUnreadFault g text (NotATree shown) = IsUnread g text (string_bytes shown)
IsUnreadFault g text NoMemory = ⊤

-- the path of what is not read is shown, unless memory was refused
abbrev pub IsShownFault : ReadError → TreeFault → Type 0
IsShownFault e NoMemory = ⊤
IsShownFault (read.Fault path) (NotATree shown) = string_bytes shown ≡ path_text path
IsShownFault read.NoMemory (NotATree shown) = ⊥
