use Rattle.std.proofs.Common.{◌≡◌, ℕ, ◌&&◌, List, map, take}
use Rattle.std.specs.BTreeSet.{contains_text}
use Rattle.std.specs.List.{list_any}
use Rattle.std.specs.Str.{bytes_eq}
use Rattle.swc_base_rename_analysis.specs.Numbers.{known_of}
use Rattle.swc_base_rename_analysis.specs.Read.{is_loose}
use Rattle.swc_base_rename_analysis.proofs.analysis.loose_texts.Given as goal

abbrev pub invariant-loop-entry : goal.invariant-loop-entry
invariant-loop-entry l = (x : List ℕ) → contains_text l.texts x ≡ list_any (λ e. is_loose e && bytes_eq e.id.0 x) (map known_of (take l.entry-index l.ids))
