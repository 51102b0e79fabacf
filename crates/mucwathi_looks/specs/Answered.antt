-- Texts that are written with the marks of their names.
use Rattle.std.specs.Prelude.{◌≡◌, ◌⊎◌, ℕ, false, List, Some, None, map}
use Rattle.std.specs.List.{list_any}
use Rattle.swc_tree_marks.specs.declared.ident.Ident.{Ident}
use Rattle.swc_tree_node.specs.declared.node.Node.{Node}
use Rattle.swc_tree_scoping.specs.declared.places.Standing.{Standing}
use Rattle.swc_tree_scoping.specs.Places.{program_place}
use Rattle.swc_tree_walk.specs.Sites.{sites}
use Rattle.jsbase_reader.specs.declared.envelope.Envelope.{Envelope}
use Rattle.text_follow.specs.Follows.{Follows}
use Rattle.text_parser.specs.declared.programs.Goal.{Goal}
use Rattle.text_pieces.specs.Pieces.{pieces}
use Rattle.text_source.specs.Texts.{SpansAreOf, comments_of}
use Rattle.mucwathi_settings.specs.declared.command.Settings.{Settings}
use Rattle.mucwathi_order.specs.declared.order.Order.{Order}
use Rattle.mucwathi_commands.specs.Written.{IsKept, IsReadAs, IsWritten}
use Rattle.mucwathi_given.specs.Given.{IsMade}
use Rattle.mucwathi_signs.specs.declared.sign.Sign.{Sign}
use Rattle.mucwathi_signs.specs.Signed.{IsSigned}
use Rattle.mucwathi_looks.specs.Signs.{AreSigns, has_marks, signs_between, signs_of}
use Rattle.mucwathi_looks.specs.declared.given.Marked.{Marked}
use Rattle.mucwathi_looks.specs.Given.{IsGiven}

abbrev pub name_of : Standing × Ident → List ℕ
name_of s = s.1.sym

-- the marks of names are written into a text, behind the same names of the program that it is read as
pub record AreWrittenBehind (names : List (Standing × Ident)) (again : Node) (plain out : List ℕ) : Type 0 where
  pub same : map name_of names ≡ map name_of (sites program_place again)
  pub signs : List Sign
  pub are : AreSigns (signs_between names (sites program_place again)) signs
  pub written : IsSigned 0 signs plain out

-- a text is read as a program, behind whose names the marks are written
pub record IsMarkedBy (goal : Goal) (names : List (Standing × Ident)) (plain out : List ℕ) : Type 0 where
  pub again : Node
  pub read : IsReadAs goal again plain
  pub stands : SpansAreOf goal again plain
  pub behind : AreWrittenBehind names again plain out

-- ... where some name of the tree has a mark, and else the text stays as it is
abbrev pub IsMarkedFor : Goal → Node → List ℕ → List ℕ → Type 0
IsMarkedFor goal t plain out = ((list_any has_marks (sites program_place t) ≡ false) × (out ≡ plain)) ⊎ IsMarkedBy goal (sites program_place t) plain out

-- a tree is written anew, with its marks
pub record IsPrinted (goal : Goal) (t : Node) (out : List ℕ) : Type 0 where
  pub plain : List ℕ
  pub follows : Follows (comments_of goal) false (pieces t) plain
  pub marked : IsMarkedFor goal t plain out

-- ... or with the layout of the text of its source
pub record IsEditedFor (goal : Goal) (source answer : Node) (text out : List ℕ) : Type 0 where
  pub plain : List ℕ
  pub kept : IsKept (comments_of goal) source answer text plain
  pub marked : IsMarkedFor goal answer plain out

-- an answer is written as its order has it, with its marks
pub record IsWrittenFor (order : Order) (source answer : Node) (text out : List ℕ) : Type 0 where
  pub plain : List ℕ
  pub written : IsWritten order.style (comments_of order.goal) source answer text plain
  pub marked : IsMarkedFor order.goal answer plain out

-- what the passes go by
abbrev pub with_settings : Settings → Envelope → Envelope
with_settings s e = record { globals = e.globals; unresolved = e.unresolved; top = e.top; keep_class_names = s.keep_class_names; ignore_eval = s.ignore_eval; keep_top = Some s.keep_top; tree = e.tree }

-- what a command makes of a program that was given is written
pub record IsRemade (order : Order) (program : Envelope) (text out : List ℕ) : Type 0 where
  pub made : Envelope
  pub is_made : IsMade (Some order.command) (with_settings order.settings program) made
  pub written : IsWrittenFor order program.tree made.tree text out

-- ... of a text with marks
pub record IsRewrittenMarked (order : Order) (text out : List ℕ) : Type 0 where
  pub given : Marked
  pub is_given : IsGiven order.goal text given
  pub remade : IsRemade order given.program given.text.items out

-- the marks of the program's names once it is resolved are written behind them
pub record HasSignsOf (program : Envelope) (text out : List ℕ) : Type 0 where
  pub made : Envelope
  pub is_made : IsMade None program made
  pub signs : List Sign
  pub are : AreSigns (signs_of made.tree) signs
  pub written : IsSigned 0 signs text out

-- ... of a text with marks
pub record IsResolvedMarked (goal : Goal) (text out : List ℕ) : Type 0 where
  pub given : Marked
  pub is_given : IsGiven goal text given
  pub resolved : HasSignsOf given.program given.text.items out
