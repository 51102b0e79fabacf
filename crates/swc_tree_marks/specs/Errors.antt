-- What the errors of marks and passes say.
use Rattle.std.specs.Prelude.{◌≡◌, ℕ, List, codes}
use Rattle.swc_tree_marks.specs.declared.error.MarkError.{MarkError}
use Rattle.swc_tree_marks.specs.declared.error.MarkError.TheVariants as mark
use Rattle.swc_tree_marks.specs.declared.error.PassError.{PassError}
use Rattle.swc_tree_marks.specs.declared.error.PassError.TheVariants as pass

-- a refusal that a fresh mark may meet: it never blames a table
abbrev pub IsFreshError : MarkError → Type 0
IsFreshError mark.MarksSpent = Unit {0}
IsFreshError mark.NoMemory = Unit {0}
IsFreshError (mark.BadTable _) = ⊥

-- the pass refuses for the same cause as the mark
abbrev pub IsSameRefusal : MarkError → PassError → Type 0
IsSameRefusal mark.MarksSpent e = e ≡ pass.MarksSpent
IsSameRefusal mark.NoMemory e = e ≡ pass.NoMemory
IsSameRefusal (mark.BadTable _) e = ⊥

-- the variant's name
abbrev pub name_of : PassError → List ℕ
name_of pass.NoMemory = codes "NoMemory"
name_of pass.MarksSpent = codes "MarksSpent"
name_of pass.CounterSpent = codes "CounterSpent"
name_of pass.NotAssignable = codes "NotAssignable"
name_of pass.TypesLeft = codes "TypesLeft"
