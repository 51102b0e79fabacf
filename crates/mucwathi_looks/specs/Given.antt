-- Texts read with their marks.
use Rattle.std.specs.List.{All, AllPairs, flat_map}
use Rattle.std.specs.Prelude.{◌≡◌, ◌↔◌, ◌-◌, ◌<◌, ℕ, false, None, List, [], ◌∷◌, ◌++◌, ◌==◌, Contains, map, if◌then◌else◌}
use Rattle.swc_tree_marks.specs.declared.ident.Ident.{Ident}
use Rattle.swc_tree_marks.specs.Globals.{IsTable, Table, numbers}
use Rattle.swc_tree_node.specs.declared.node.Node.{Node}
use Rattle.swc_tree_scoping.specs.declared.places.Standing.{Standing}
use Rattle.swc_tree_scoping.specs.Places.{program_place}
use Rattle.swc_tree_scoping.specs.Readings.{with_identifiers}
use Rattle.swc_tree_walk.specs.Sites.{sites}
use Rattle.jsbase_reader.specs.declared.envelope.Envelope.{Envelope}
use Rattle.text_parser.specs.declared.programs.Goal.{Goal}
use Rattle.text_source.specs.Texts.{SpansAreOf}
use Rattle.mucwathi_passes.specs.Passes.{own_table}
use Rattle.mucwathi_commands.specs.Written.{IsReadAs}
use Rattle.mucwathi_signs.specs.declared.sign.Sign.{Sign}
use Rattle.mucwathi_signs.specs.Signed.{IsMarked}
use Rattle.mucwathi_looks.specs.declared.given.Marked.{Marked}

-- the marks of the sign at a place
abbrev pub marks_at : List Sign → ℕ → List ℕ
marks_at [] place = []
marks_at (s ∷ ss) place = if s.at == place then s.marks.items else marks_at ss place

-- the tree with the marks of the sign behind it on each identifier
abbrev pub signed_name : List Sign → Ident → Ident
signed_name ss i = record i { ctxt = i.ctxt ++ marks_at ss (i.span.hi - 1) }

abbrev pub signed : List Sign → Node → Node
signed ss t = with_identifiers (signed_name ss) t

-- the places behind the identifiers of a tree: so many bytes are before each
abbrev pub end_of : Standing × Ident → ℕ
end_of s = s.1.span.hi - 1

abbrev pub ends : Node → List ℕ
ends t = map end_of (sites program_place t)

-- no two signs are at one place, and they are in the order of the text
abbrev pub Rise : List Sign → Type 0
Rise ss = AllPairs (λ one other. one.at < other.at) ss

-- 1 and 2, with which a text is resolved, and the marks of signs
abbrev pub marks_of : List Sign → List ℕ
marks_of ss = 1 ∷ 2 ∷ flat_map (λ s. s.marks.items) ss

-- a table has just these marks, each below the root
pub record HasMarks (ms : List ℕ) (table : Table) : Type 0 where
  pub rising : IsTable table
  pub below_root : All (λ row. row.1 ≡ 0) table
  pub marks : (m : ℕ) → Contains (numbers table) m ↔ Contains ms m

-- round a program stand the two marks that a text is resolved with, and nothing is asked of the passes
pub record IsOwn (e : Envelope) : Type 0 where
  pub unresolved : e.unresolved ≡ 1
  pub top : e.top ≡ 2
  pub classes : e.keep_class_names ≡ false
  pub evals : e.ignore_eval ≡ false
  pub tops : e.keep_top ≡ None

-- the program is that of a text, without a mark on a name
pub record IsUnmarked (goal : Goal) (text : List ℕ) (e : Envelope) : Type 0 where
  pub read : IsReadAs goal e.tree text
  pub own : IsOwn e
  pub table : e.globals ≡ own_table

-- What is left is the text of a source, and with some signs written into it what was given. Each sign stands behind a name, and the
-- program is the source with the marks of the sign behind it on each name.
pub record IsGiven (goal : Goal) (text : List ℕ) (m : Marked) : Type 0 where
  pub signs : List Sign
  pub source : Node
  pub marked : IsMarked 0 signs m.text.items text
  pub read : IsReadAs goal source m.text.items
  pub stands : SpansAreOf goal source m.text.items
  pub rise : Rise signs
  pub behind : All (λ s. Contains (ends source) s.at) signs
  pub program : m.program.tree ≡ signed signs source
  pub marks : HasMarks (marks_of signs) m.program.globals
  pub own : IsOwn m.program
