-- The same tree, read with other names: by ids, where a text and a context make the name, or by texts alone. What is
-- said of names on a tree without contexts is so said of ids, or of texts with all identifiers counted.
use Rattle.std.specs.Prelude.{ℕ, List, [], ◌∷◌, ◌++◌, length}
use Rattle.swc_tree_node.specs.Lower.swc_tree_marks.specs.declared.ident.Ident.{Ident}
use Rattle.swc_tree_node.specs.declared.node.Node.{Node, Identifier, roll-Node, fold-Node}
use Rattle.swc_tree_node.specs.declared.node.Node.TheOpen.{Node-F}

abbrev pub rename_step : (Ident → Ident) → Node-F Node → Node
rename_step f (Node-F.Identifier k i) = Identifier k (f i)
rename_step f y = roll-Node y

-- the tree with each identifier changed, and all else as it is
abbrev pub with_identifiers : (Ident → Ident) → Node → Node
with_identifiers f t = fold-Node Node (rename_step f) t

-- an id as one name: the length of the text before the text and the marks, so that two ids never have one name
abbrev pub id_name : Ident → List ℕ
id_name i = length i.sym ∷ (i.sym ++ i.ctxt)

-- the tree with ids for names
abbrev pub by_ids : Node → Node
by_ids t = with_identifiers (λ i. record i { sym = id_name i; ctxt = [] }) t

-- the tree with texts for names, all identifiers counted
abbrev pub by_texts : Node → Node
by_texts t = with_identifiers (λ i. record i { ctxt = [] }) t
