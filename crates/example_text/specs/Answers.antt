-- What the program answers on a text.
use Rattle.std.specs.Prelude.{◌≡◌, ℕ, false, List, []}
use Rattle.example_text.specs.declared.answer.Task.{Task}
use Rattle.example_text.specs.declared.answer.Task.TheVariants as task
use Rattle.swc_tree_node.specs.declared.node.Node.{Node}
use Rattle.jsbase_form.specs.Writing.{json}
use Rattle.jsbase_writer.specs.Envelopes.{text_of}
use Rattle.text_follow.specs.Follows.{Follows}
use Rattle.text_parser.specs.declared.programs.Goal.{Goal}
use Rattle.text_pieces.specs.Pieces.{pieces}
use Rattle.text_source.specs.Texts.{IsTextOf, comments_of}

-- a text that is written with just the tokens of a tree, whose text the old one is
abbrev pub IsPrinted : Goal → List ℕ → List ℕ → Type 0
IsPrinted goal text out = (tree : Node) × IsTextOf goal tree text × Follows (comments_of goal) false (pieces tree) out

-- the JSON of a tree whose text this is
abbrev pub IsTree : Goal → List ℕ → List ℕ → Type 0
IsTree goal text out = (tree : Node) × IsTextOf goal tree text × (out ≡ text_of (json tree))

-- nothing of a text that is read, its tree as JSON, the text itself, or its tree's
abbrev pub IsAnswer : Goal → Task → List ℕ → List ℕ → Type 0
IsAnswer goal task.Read text out = ((tree : Node) × IsTextOf goal tree text) × (out ≡ [])
IsAnswer goal task.Tree text out = IsTree goal text out
IsAnswer goal task.Keep text out = out ≡ text
IsAnswer goal (task.Print _) text out = IsPrinted goal text out
