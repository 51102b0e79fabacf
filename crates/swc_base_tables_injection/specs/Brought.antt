-- Statements that bring a helper in from outside; all that is made has the span of what stands in no source text.
use Rattle.std.specs.Prelude.{ℕ, List, [], ◌∷◌, ◌++◌, codes}
use Rattle.swc_tree_marks.specs.declared.ident.Ident.{Ident}
use Rattle.swc_tree_node.specs.declared.kind.Kind.{Kind}
use Rattle.swc_tree_node.specs.declared.kind.Kind.TheVariants as kind
use Rattle.swc_tree_node.specs.declared.kind.Word.TheVariants as word
use Rattle.swc_tree_node.specs.declared.node.Node.{Node, Absent, Word, Text, Span, List as Many, Identifier, Tree}

-- `DUMMY_SP`
abbrev pub nowhere : Node
nowhere = Span (record { lo = 0; hi = 0 })

abbrev pub made : List ℕ → List ℕ → Ident
made text marks = record { span = record { lo = 0; hi = 0 }; ctxt = marks; sym = text }

-- a string literal without its text in the source
abbrev pub string : List ℕ → Node
string value = Tree kind.Str (nowhere ∷ Text value ∷ Absent ∷ [])

-- the helper `throw` is named `_throw` in the program
abbrev pub local_name : List ℕ → List ℕ
local_name name = codes "_" ++ name

-- and comes from the module `@swc/helpers/_/_throw`
abbrev pub source_of : List ℕ → List ℕ
source_of name = codes "@swc/helpers/_/_" ++ name

-- `_throw`, in the helper mark's context
abbrev pub helper_name : Kind → ℕ → List ℕ → Node
helper_name k helper name = Identifier k (made (local_name name) (helper ∷ []))

-- `_`, under which the module exports it, in no context
abbrev pub exported_name : Node
exported_name = Identifier kind.Ident (made (codes "_") [])

-- `_ as _throw`
abbrev pub specifier_of : ℕ → List ℕ → Node
specifier_of helper name = Tree kind.ImportNamedSpecifier (nowhere ∷ helper_name kind.Ident helper name ∷ exported_name ∷ [])

-- `import { _ as _throw } from "@swc/helpers/_/_throw";`
abbrev pub import_of : ℕ → List ℕ → Node
import_of helper name = Tree kind.ImportDecl (nowhere ∷ Many (specifier_of helper name ∷ []) ∷ string (source_of name) ∷ Absent ∷ [])

-- `require`, in the global mark's context
abbrev pub require_name : ℕ → Node
require_name global = Identifier kind.Ident (made (codes "require") (global ∷ []))

-- `require("@swc/helpers/_/_throw")`
abbrev pub call_of : ℕ → List ℕ → Node
call_of global name = Tree kind.CallExpr (nowhere ∷ require_name global ∷ Many (Tree kind.ExprOrSpread (Absent ∷ string (source_of name) ∷ []) ∷ []) ∷ [])

-- `_throw = require("@swc/helpers/_/_throw")`
abbrev pub declarator_of : ℕ → ℕ → List ℕ → Node
declarator_of helper global name = Tree kind.VarDeclarator (nowhere ∷ helper_name kind.BindingIdent helper name ∷ call_of global name ∷ [])

-- `var _throw = require("@swc/helpers/_/_throw");`
abbrev pub require_of : ℕ → ℕ → List ℕ → Node
require_of helper global name = Tree kind.VarDecl (nowhere ∷ Word word.Var ∷ Many (declarator_of helper global name ∷ []) ∷ [])
