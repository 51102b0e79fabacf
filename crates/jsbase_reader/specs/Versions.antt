-- The two versions of a program that a JSON value or a text has, or the path to its first fault.
use Rattle.std.specs.Prelude.{ℕ, List, [], codes, Bool, true, option_and_then, Ok}
use Rattle.json.specs.Json.{Json, null, Members, value, if_last}
use Rattle.json.specs.Token.{Token}
use Rattle.json.specs.Find.{as_object}
use Rattle.swc_tree_node.specs.declared.kind.Class.{Class}
use Rattle.swc_tree_node.specs.declared.node.Node.{Node}
use Rattle.swc_tree_node.specs.declared.slot.Content.TheVariants as content
use Rattle.swc_tree_node.specs.declared.slot.Slot.TheVariants as slot
use Rattle.swc_tree_marks.specs.Globals.{Table}
use Rattle.jsbase_form.specs.Reads.{Read, ◌>>=◌, at, found, key}
use Rattle.jsbase_form.specs.Leaves.{flag_at}
use Rattle.jsbase_form.specs.Tables.{table_at}
use Rattle.jsbase_form.specs.Trees.{seen, value_of}
use Rattle.jsbase_reader.specs.Envelopes.{document, marks_in, max_depth, option_at, text_in}
use Rattle.jsbase_reader.specs.declared.versions.Versions.{Versions}

-- whether spellings count; they do where that is absent or null
abbrev pub spelling_at : Json → Read Bool
spelling_at null = Ok true
spelling_at d = flag_at d

-- what is asked of the two: whether names of the program's own scope are to keep their texts, and whether spellings of literals count; the
-- marks are read before, and let go
abbrev pub asked_in : Members → Read (Bool × Bool)
asked_in ms = at (key (codes "marks")) (table_at (value_of (codes "marks") ms)) >>= (λ table.
    marks_in table ms >>= (λ marks.
    at (key (codes "keepTop")) (option_at (value_of (codes "keepTop") ms)) >>= (λ keep_top.
    at (key (codes "spelling")) (spelling_at (value_of (codes "spelling") ms)) >>= (λ spelling.
    Ok (keep_top, spelling)))))

-- the tree that a key holds
abbrev pub tree_in : Table → Class → List ℕ → Members → Read Node
tree_in table class k ms = at (key k) (seen table (value_of k ms) (slot.One (content.Node class)))

-- with no mark in the table a context that has one is a fault
abbrev pub no_marks : Table
no_marks = []

-- the two versions, each of the class, in which no identifier has a context
abbrev pub versions_of : Class → Members → Read Versions
versions_of class ms = asked_in ms >>= (λ asked.
    tree_in no_marks class (codes "before") ms >>= (λ before.
    tree_in no_marks class (codes "after") ms >>= (λ after.
    Ok (record { keep_top = asked.0; spelling = asked.1; before = before; after = after }))))

abbrev pub versions_in : Class → Json → Read Versions
versions_in class d = found (as_object d) >>= versions_of class

-- the versions of a text
abbrev pub versions_in_text : Class → List ℕ → Read Versions
versions_in_text class bytes = text_in bytes >>= versions_in class

-- the same of the tokens of a text
abbrev pub versions_in_tokens : Class → List Token → Read Versions
versions_in_tokens class ts = found (option_and_then (λ p. if_last p.0 p.1) (value max_depth ts)) >>= versions_in class

abbrev pub versions_in_document : Class → List ℕ → Read Versions
versions_in_document class text = found (document text) >>= versions_in class
