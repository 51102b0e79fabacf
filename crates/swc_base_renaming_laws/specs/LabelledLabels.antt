-- Trees whose identifiers carry labels: each has for its context the one name of an id.
use Rattle.std.specs.Prelude.{◌≡◌, ℕ, Option, Some, unwrap_or, List, [], ◌∷◌, ◌++◌, length}
use Rattle.swc_tree_marks.specs.declared.ident.Ident.{Ident}
use Rattle.swc_tree_node.specs.declared.node.Node.{Node}
use Rattle.swc_tree_scoping.specs.Readings.{id_name, with_identifiers}
use Rattle.swc_base_rename_substitution.specs.Identifiers.{Changes}
use Rattle.swc_base_rename_substitution.specs.Names.{Id}
use Rattle.swc_base_renaming_laws.specs.Contexts.{id_of_label}

-- an identifier with the name for which its context stands
abbrev pub named_by : (List ℕ → List ℕ) → Ident → Ident
named_by name i = record i { sym = name i.ctxt; ctxt = [] }

-- the tree with such names
abbrev pub by_contexts : (List ℕ → List ℕ) → Node → Node
by_contexts name t = with_identifiers (named_by name) t

-- a new id has the context of the old one
abbrev pub KeepsContexts : Changes → Type 0
KeepsContexts m = (x y : Id) → m x ≡ Some y → y.1 ≡ x.1

-- the identifier with its id's name for a context
abbrev pub label : Ident → Ident
label i = record i { ctxt = id_name i }

-- the tree with labels
abbrev pub labelled : Node → Node
labelled t = with_identifiers label t

abbrev pub name_of_label : List ℕ → List ℕ
name_of_label c = length (id_of_label c).0 ∷ ((id_of_label c).0 ++ (id_of_label c).1)

-- the identifier for which a labelled one stands
abbrev pub meant : Ident → Ident
meant i = record i { sym = (id_of_label i.ctxt).0; ctxt = (id_of_label i.ctxt).1 }

-- the new text of the id for which a label stands, or its own where the map has none
abbrev pub text_of_label : (Id → Option (List ℕ)) → List ℕ → List ℕ
text_of_label new_texts c = unwrap_or (new_texts (id_of_label c)) (id_of_label c).0

-- the tree with the ids for which its labels stand
abbrev pub unlabelled : Node → Node
unlabelled t = with_identifiers meant t
