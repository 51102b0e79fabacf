-- Which tasks over files can be done, whatever these hold.
use Rattle.std.specs.Borrow.{Bor}
use Rattle.std.specs.List.{AllPairs, list_any}
use Rattle.std.specs.Option.{option_map_or}
use Rattle.std.specs.Path.{path_file_name}
use Rattle.std.specs.Str.{bytes_eq}
use Rattle.std.specs.Prelude.{◌≡◌, ◌≢◌, ◌<◌, ◌&&◌, ◌==◌, ℕ, Bool, false, true, not, List, get_or, length, nat_lt, Option, Some, None, is_some, unwrap_or}
use Rattle.mucwathi_arguments.specs.declared.misuse.Misuse.{Misuse}
use Rattle.mucwathi_arguments.specs.declared.misuse.Misuse.TheVariants.{MapOverFile, NoFiles, OneMap, OneName, OneOutput}
use Rattle.mucwathi_arguments.specs.declared.task.Rewriting.{Rewriting}
use Rattle.mucwathi_arguments.specs.declared.task.Target.{Target}
use Rattle.mucwathi_arguments.specs.declared.task.Target.TheVariants as target

-- what a file is called without its folders
abbrev pub name_in_folder : List ℕ → List ℕ
name_in_folder path = unwrap_or (path_file_name path) path

-- no two are called the same, or two are
abbrev pub NamesDiffer : List (Bor (List ℕ)) → Type 0
NamesDiffer files = AllPairs (λ one other. name_in_folder one.now ≢ name_in_folder other.now) files

abbrev pub AreCalled : List (Bor (List ℕ)) → List ℕ → Type 0
AreCalled files name = (i : ℕ) × (j : ℕ) × (i < j) × (j < length files) × ((d : Bor (List ℕ)) → (name_in_folder (get_or files i d).now ≡ name) × (name_in_folder (get_or files j d).now ≡ name))

abbrev pub TellsShared : List (Bor (List ℕ)) → Option (Bor (List ℕ)) → Type 0
TellsShared files None = NamesDiffer files
TellsShared files (Some name) = AreCalled files name.now

abbrev pub is_output : Target → Bool
is_output target.Output = true
is_output _ = false

abbrev pub is_folder : Target → Bool
is_folder (target.Folder folder) = true
is_folder _ = false

-- what is made of files is written, and not told
abbrev pub writes : Rewriting → Bool
writes task = not task.lists && not task.explains

-- answers have no place, or one for several
abbrev pub lacks_files : Rewriting → Bool
lacks_files task = length task.files.items == 0 && not (is_output task.target)

abbrev pub shares_output : Rewriting → Bool
shares_output task = writes task && (nat_lt 1 (length task.files.items) && is_output task.target)

abbrev pub shares_map : Rewriting → Bool
shares_map task = nat_lt 1 (length task.files.items) && is_some task.map

abbrev pub maps_over : Rewriting → Bool
maps_over task = option_map_or (λ map. list_any (λ f. bytes_eq f.now map.now) task.files.items) task.map false

-- they go into a folder, each under the name of its file
abbrev pub fills_folder : Rewriting → Bool
fills_folder task = writes task && is_folder task.target

-- answers have places, and no two share standard output, a map or a name in a folder; a map goes over no file that is read
pub record IsUsable (task : Rewriting) : Type 0 where
  pub placed : lacks_files task ≡ false
  pub apart : shares_output task ≡ false
  pub mapped : shares_map task ≡ false
  pub kept : maps_over task ≡ false
  pub named : fills_folder task ≡ true → NamesDiffer task.files.items

abbrev pub IsMisuse : Rewriting → Misuse → Type 0
IsMisuse task NoFiles = lacks_files task ≡ true
IsMisuse task OneOutput = shares_output task ≡ true
IsMisuse task OneMap = shares_map task ≡ true
IsMisuse task MapOverFile = maps_over task ≡ true
IsMisuse task (OneName name) = (fills_folder task ≡ true) × AreCalled task.files.items name.now

abbrev pub IsMisuseTold : Rewriting → Option Misuse → Type 0
IsMisuseTold task None = IsUsable task
IsMisuseTold task (Some m) = IsMisuse task m
