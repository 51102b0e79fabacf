-- Which ids keep their texts.
use Rattle.std.specs.Prelude.{Bool, false, ◌||◌, Option, Some, None}
use Rattle.std.specs.HashSet.{contains}
use Rattle.swc_tree_scoping.specs.BoundNames.{Id}
use Rattle.swc_base_rename_substitution.specs.Names.{same_id}
use Rattle.swc_base_rename_program.specs.declared.kept.Kept.{Kept}
use Rattle.swc_base_rename_program.specs.declared.top_mark.TopMark.{TopMark}
use Rattle.swc_base_rename_program.specs.Descends.{descends_from}

abbrev pub is_below_top : Option TopMark → Id → Bool
is_below_top None x = false
is_below_top (Some t) x = descends_from t.globals.now t.mark x

abbrev pub is_kept : Kept → Id → Bool
is_kept k x = contains same_id k.preserved.now x || is_below_top k.below x
