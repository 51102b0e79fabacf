use Rattle.std.proofs.Common.{◌≡◌, ℕ, List, ◌||◌, ◌&&◌, take}
use Rattle.std.specs.List.{list_any}
use Rattle.std.specs.BTreeSet.{contains_text}
use Rattle.std.specs.HashSet.{keys}
use Rattle.std.specs.Str.{bytes_eq}
use Rattle.swc_base_rename_program.specs.Left.{any_of_text, leaves_text}
use Rattle.swc_base_rename_program.proofs.left.left_texts.Given as goal

abbrev pub invariant-loop-entry : goal.invariant-loop-entry
invariant-loop-entry l = (x : List ℕ) → contains_text l.texts x ≡ (any_of_text (keys l.preserved) x || list_any (λ e. leaves_text l.top l.analysis e && bytes_eq e.id.0 x) (take l.entry-index l.entry-items))
