-- Where statements go in.
use Rattle.std.specs.Prelude.{List, ◌∷◌, ◌++◌, Bool, Option, Some, None, is_some, take, drop}
use Rattle.std.specs.List.{prefix_len}
use Rattle.swc_tree_node.specs.declared.kind.Kind.{Kind}
use Rattle.swc_tree_node.specs.declared.kind.Kind.TheVariants as kind
use Rattle.swc_tree_node.specs.declared.node.Node.{Node, List as Many, Tree, out-Node}
use Rattle.swc_tree_node.specs.declared.node.Node.TheOpen.{Node-F}
use Rattle.swc_tree_scoping.specs.Places.{string_of}

-- a statement that is a string, as directives are (ECMA-262, 11.2.1)
abbrev pub is_string : Node → Bool
is_string t = is_some (string_of t)

-- the statements with more behind the leading ones that are strings
abbrev pub behind_strings : List Node → List Node → List Node
behind_strings more body = let count = prefix_len is_string body in take count body ++ more ++ drop count body

abbrev pub program_kind_in : Node-F Node → Option Kind
program_kind_in (Node-F.Tree kind.Module ts) = Some kind.Module
program_kind_in (Node-F.Tree kind.Script ts) = Some kind.Script
program_kind_in _ = None

-- what program the node is, if it is one: a module or a script
abbrev pub program_kind : Node → Option Kind
program_kind t = program_kind_in (out-Node t)

abbrev pub body_in : List Node → Node → Node-F Node → Node
body_in more t (Node-F.List body) = Many (behind_strings more body)
body_in more t _ = t

-- a program's fields, of which the second is its body
abbrev pub fields_with : List Node → List Node → List Node
fields_with more (span ∷ body ∷ rest) = span ∷ body_in more body (out-Node body) ∷ rest
fields_with more ts = ts

abbrev pub program_in : List Node → Node → Node-F Node → Node
program_in more t (Node-F.Tree kind.Module ts) = Tree kind.Module (fields_with more ts)
program_in more t (Node-F.Tree kind.Script ts) = Tree kind.Script (fields_with more ts)
program_in more t _ = t

-- the program with more statements, behind the leading ones that are strings
abbrev pub put_in : List Node → Node → Node
put_in more t = program_in more t (out-Node t)
