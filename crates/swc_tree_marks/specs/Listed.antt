-- The marks of a context as a list.
use Rattle.std.specs.Prelude.{ℕ, List, [], ◌∷◌}
use Rattle.swc_tree_marks.specs.declared.marks.Marks.{Marks}
use Rattle.swc_tree_marks.specs.declared.marks.Marks.TheVariants as marks

abbrev pub listed : Marks → List ℕ
listed (marks.None alloc) = []
listed (marks.One alloc mark) = mark ∷ []
listed (marks.Several several) = several.items
