-- What a pass makes of a program, and why it is refused one, where it may take no declarations of types.
use Rattle.std.specs.Prelude.{◌≡◌, Bool, true, false, not, ◌&&◌}
use Rattle.swc_tree_marks.specs.declared.error.PassError.{PassError}
use Rattle.swc_tree_marks.specs.declared.error.PassError.TheVariants as error
use Rattle.swc_tree_marks.specs.Globals.{Table}
use Rattle.swc_tree_node.specs.declared.node.Node.{Node}
use Rattle.swc_tree_spaces.specs.Spaces.{has_types}

-- a pass that takes no types refuses a program in which some stand
abbrev pub refuses_types : Bool → Node → Bool
refuses_types takes program = not takes && has_types program

-- the program was not refused for its types, and this is made of it
pub record IsMade (refused : Bool) (Made : Type 0) : Type 0 where
  pub taken : refused ≡ false
  pub made : Made

-- where a program is refused for its types, they alone are to blame, and the pass and the table are as they were; else it
-- is for that cause
pub record IsDeclined {P : Type 0} (refused : Bool) (pass : P) (old : Table) (kept : P) (new : Table) (e : PassError) (Cause : Type 0) : Type 0 where
  pub types : refused ≡ true → (e ≡ error.TypesLeft) × (kept ≡ pass) × (new ≡ old)
  pub cause : refused ≡ false → Cause
