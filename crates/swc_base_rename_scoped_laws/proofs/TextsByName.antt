-- The texts of a map, by the names that ids have where a tree is read by ids.
use Rattle.std.proofs.Common.{◌≡◌, ℕ, Option, List, [], ◌∷◌, drop, take}
use Rattle.std.specs.Prelude.{unwrap_or}
use Rattle.std.proofs.Math.Seq.{drop-append_seam, take-append_seam}
use Rattle.swc_tree_marks.specs.declared.ident.Ident.{Ident}
use Rattle.swc_tree_scoping.specs.BoundNames.{Id}
use Rattle.swc_tree_scoping.specs.Readings.{id_name}
use Rattle.swc_base_rename_scoped_laws.specs.Laws.{new_text}

-- the new text of the id that has the name
abbrev pub text_by : (Id → Option (List ℕ)) → List ℕ → List ℕ
text_by new_texts [] = []
text_by new_texts (n ∷ x) = unwrap_or (new_texts (take n x, drop n x)) (take n x)

pub text_of_id : (new_texts : Id → Option (List ℕ)) (i : Ident) → text_by new_texts (id_name i) ≡ new_text new_texts i
text_of_id new_texts i = λ n. unwrap_or (new_texts (take-append_seam i.sym i.ctxt n, drop-append_seam i.sym i.ctxt n)) (take-append_seam i.sym i.ctxt n)
