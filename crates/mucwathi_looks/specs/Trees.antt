-- The tree of a text as JSON.
use Rattle.std.specs.Prelude.{◌≡◌, ℕ, List}
use Rattle.swc_tree_marks.specs.Globals.{Table}
use Rattle.swc_tree_node.specs.declared.node.Node.{Node}
use Rattle.swc_tree_spaces.specs.Spaces.{ResolvedBy}
use Rattle.jsbase_writer.specs.Envelopes.{envelope_text}
use Rattle.text_parser.specs.declared.programs.Goal.{Goal}
use Rattle.text_source.specs.Texts.{IsTextOf}
use Rattle.mucwathi_passes.specs.Passes.{own_table}

-- the envelope of the program once it is resolved
pub record HasEnvelope (source : Node) (out : List ℕ) : Type 0 where
  pub table : Table
  pub resolved : Node
  pub is_resolved : ResolvedBy 1 2 own_table table source resolved
  pub written : out ≡ envelope_text table 2 resolved 1

-- ... of the program of a text
pub record HasTree (goal : Goal) (text out : List ℕ) : Type 0 where
  pub source : Node
  pub read : IsTextOf goal source text
  pub envelope : HasEnvelope source out
