-- Texts with marks behind their names.
use Rattle.std.specs.Prelude.{ℕ, List}
use Rattle.swc_tree_marks.specs.Globals.{Table}
use Rattle.swc_tree_node.specs.declared.node.Node.{Node}
use Rattle.swc_tree_spaces.specs.Spaces.{ResolvedBy}
use Rattle.text_parser.specs.declared.programs.Goal.{Goal}
use Rattle.text_source.specs.Texts.{IsTextOf, SpansAreOf}
use Rattle.mucwathi_passes.specs.Passes.{own_table}
use Rattle.mucwathi_signs.specs.declared.sign.Sign.{Sign}
use Rattle.mucwathi_signs.specs.Signed.{IsSigned}
use Rattle.mucwathi_looks.specs.Signs.{AreSigns, signs_of}

-- the marks of the program's names once it is resolved are written behind them; without these the text is as it was
pub record HasOwnSigns (source : Node) (text out : List ℕ) : Type 0 where
  pub table : Table
  pub resolved : Node
  pub is_resolved : ResolvedBy 1 2 own_table table source resolved
  pub signs : List Sign
  pub are : AreSigns (signs_of resolved) signs
  pub written : IsSigned 0 signs text out

-- ... of the program of a text, whose names stand in it where their spans say
pub record HasSigns (goal : Goal) (text out : List ℕ) : Type 0 where
  pub source : Node
  pub read : IsTextOf goal source text
  pub stands : SpansAreOf goal source text
  pub marks : HasOwnSigns source text out
