-- Trees whose marks a table knows, and whose numbers have 32 bits.
use Rattle.std.specs.Prelude.{ℕ, ◌≡◌, Ok, ◌^◌, List, [], ◌∷◌, Bool, true, ◌&&◌, IsTrue, nat_lt}
use Rattle.std.specs.List.{list_all}
use Rattle.json.specs.Json.{Json}
use Rattle.swc_tree_marks.specs.Globals.{Table}
use Rattle.swc_tree_marks.specs.declared.span.Span.{Span}
use Rattle.swc_tree_marks.specs.declared.ident.Ident.{Ident}
use Rattle.swc_tree_node.specs.declared.slot.Slot.{Slot}
use Rattle.swc_tree_node.specs.declared.slot.Role.{Role}
use Rattle.swc_tree_node.specs.Table.{fields_of}
use Rattle.swc_tree_node.specs.declared.node.Node.{Node, fold-Node}
use Rattle.swc_tree_node.specs.declared.node.Node.TheOpen.{Node-F}
use Rattle.swc_tree_node.specs.Fits.{Fits}
use Rattle.jsbase_form.specs.Leaves.{is_marked}
use Rattle.jsbase_form.specs.Trees.{seen}

abbrev pub all_of : List Bool → Bool
all_of [] = true
all_of (b ∷ bs) = b && all_of bs

abbrev pub marks_step : Table → Node-F Bool → Bool
marks_step table (Node-F.Identifier k i) = list_all (is_marked table) i.ctxt
marks_step table (Node-F.List bs) = all_of bs
marks_step table (Node-F.Tree k bs) = all_of bs
marks_step table _ = true

abbrev pub marks_known : Table → Node → Bool
marks_known table = fold-Node Bool (marks_step table)

-- each mark of each context stands in the table, and is not the root
abbrev pub MarksKnown : Table → Node → Type 0
MarksKnown table t = IsTrue (marks_known table t)

abbrev pub span_short : Span → Bool
span_short s = nat_lt s.lo (2 ^ 32) && nat_lt s.hi (2 ^ 32)

abbrev pub marks_short : List ℕ → Bool
marks_short = list_all (λ mark. nat_lt mark (2 ^ 32))

abbrev pub ident_short : Ident → Bool
ident_short i = span_short i.span && marks_short i.ctxt

-- what holds of each field that has a key
abbrev pub all_keyed : List (List ℕ × Slot × Role) → List Bool → Bool
all_keyed (f ∷ fs) (b ∷ bs) = b && all_keyed fs bs
all_keyed _ _ = true

abbrev pub short_step : Node-F Bool → Bool
short_step (Node-F.Span s) = span_short s
short_step (Node-F.Identifier k i) = ident_short i
short_step (Node-F.List bs) = all_of bs
short_step (Node-F.Tree k bs) = all_keyed (fields_of k) bs
short_step _ = true

abbrev pub numbers_short : Node → Bool
numbers_short = fold-Node Bool short_step

-- the ends of spans and the marks have 32 bits, as those of every node that a program holds
abbrev pub NumbersShort : Node → Type 0
NumbersShort t = IsTrue (numbers_short t)

-- the value reads as the tree, wherever the tree fits, with any table that knows its marks
abbrev pub ReadsAs : Json → Node → Type 0
ReadsAs d t = (table : Table) (s : Slot) → Fits t s → MarksKnown table t → seen table d s ≡ Ok t
