-- The tests over a tree, at each form of a node.
use Rattle.std.proofs.Common.{◌≡◌, ℕ, List, Bool, true, map, rules}
use Rattle.std.specs.List.{list_all}
use Rattle.swc_tree_marks.specs.Globals.{Table}
use Rattle.swc_tree_marks.specs.declared.span.Span.{Span as Span'}
use Rattle.swc_tree_marks.specs.declared.ident.Ident.{Ident}
use Rattle.swc_tree_node.specs.declared.kind.Kind.{Kind}
use Rattle.swc_tree_node.specs.declared.kind.Word.{Word as Word'}
use Rattle.swc_tree_node.specs.Table.{fields_of}
use Rattle.swc_tree_node.specs.declared.node.Node.{Node, Absent, Flag, Word, Text, Span, List as Many, Identifier, Tree, the_lemmas}
use Rattle.jsbase_form.specs.Leaves.{is_marked}
use Rattle.jsbase_form.specs.Known.{all_of, all_keyed, marks_known, span_short, ident_short, numbers_short}

pub known-Absent : (table : Table) → marks_known table Absent ≡ true
known-Absent table = search (rules, the_lemmas)

pub known-Flag : (table : Table) (x : Bool) → marks_known table (Flag x) ≡ true
known-Flag table x = search (rules, the_lemmas)

pub known-Word : (table : Table) (w : Word') → marks_known table (Word w) ≡ true
known-Word table w = search (rules, the_lemmas)

pub known-Text : (table : Table) (x : List ℕ) → marks_known table (Text x) ≡ true
known-Text table x = search (rules, the_lemmas)

pub known-Span : (table : Table) (x : Span') → marks_known table (Span x) ≡ true
known-Span table x = search (rules, the_lemmas)

pub known-List : (table : Table) (ts : List Node) → marks_known table (Many ts) ≡ all_of (map (marks_known table) ts)
known-List table ts = search (rules, the_lemmas)

pub known-Identifier : (table : Table) (k : Kind) (i : Ident) → marks_known table (Identifier k i) ≡ list_all (is_marked table) i.ctxt
known-Identifier table k i = search (rules, the_lemmas)

pub known-Tree : (table : Table) (k : Kind) (ts : List Node) → marks_known table (Tree k ts) ≡ all_of (map (marks_known table) ts)
known-Tree table k ts = search (rules, the_lemmas)

pub short-Span : (x : Span') → numbers_short (Span x) ≡ span_short x
short-Span x = search (rules, the_lemmas)

pub short-List : (ts : List Node) → numbers_short (Many ts) ≡ all_of (map numbers_short ts)
short-List ts = search (rules, the_lemmas)

pub short-Identifier : (k : Kind) (i : Ident) → numbers_short (Identifier k i) ≡ ident_short i
short-Identifier k i = search (rules, the_lemmas)

pub short-Tree : (k : Kind) (ts : List Node) → numbers_short (Tree k ts) ≡ all_keyed (fields_of k) (map numbers_short ts)
short-Tree k ts = search (rules, the_lemmas)

pub short-Absent : numbers_short Absent ≡ true
short-Absent = search (rules, the_lemmas)

pub short-Flag : (x : Bool) → numbers_short (Flag x) ≡ true
short-Flag x = search (rules, the_lemmas)

pub short-Word : (w : Word') → numbers_short (Word w) ≡ true
short-Word w = search (rules, the_lemmas)

pub short-Text : (x : List ℕ) → numbers_short (Text x) ≡ true
short-Text x = search (rules, the_lemmas)
