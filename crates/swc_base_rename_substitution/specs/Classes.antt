-- Classes that keep their names.
use Rattle.std.specs.Prelude.{Option, Some, None, List, [], ◌∷◌}
use Rattle.swc_tree_marks.specs.declared.span.Span.{Span as Span'}
use Rattle.swc_tree_marks.specs.declared.ident.Ident.{Ident}
use Rattle.swc_tree_node.specs.declared.kind.Kind.TheVariants as kind
use Rattle.swc_tree_node.specs.declared.kind.Word.TheVariants as word
use Rattle.swc_tree_node.specs.declared.node.Node.{Node, Word, Span, List as Many, Identifier, Tree, out-Node}
use Rattle.swc_tree_node.specs.declared.node.Node.TheOpen.{Node-F}
use Rattle.swc_base_rename_substitution.specs.Identifiers.{identifier_in, kept_name}

-- `let` of the name `j`, with a class expression whose name is `i`'s text
abbrev pub let_of_class : Span' → Ident → Ident → Node → Node
let_of_class s i j class =
    let expression = Tree kind.ClassExpr (Identifier kind.Ident (kept_name i) ∷ class ∷ []) in
    let declarator = Tree kind.VarDeclarator (Span s ∷ Identifier kind.BindingIdent j ∷ expression ∷ []) in
    Tree kind.VarDecl (Span s ∷ Word word.Let ∷ Many (declarator ∷ []) ∷ [])

abbrev pub span_in : Node-F Node → Option Span'
span_in (Node-F.Span s) = Some s
span_in y = None

abbrev pub class_span_in : Node-F Node → Option Span'
class_span_in (Node-F.Tree kind.Class (s ∷ ts)) = span_in (out-Node s)
class_span_in y = None

-- the span of a class
abbrev pub class_span : Node → Option Span'
class_span t = class_span_in (out-Node t)

abbrev pub let_if : Option Ident → Option Span' → Ident → Node → Node → Node
let_if (Some j) (Some s) i name class = let_of_class s i j class
let_if j s i name class = Tree kind.ClassDecl (name ∷ class ∷ [])

-- a class declaration of these fields, whose name was `i`, where it keeps that name in a class expression
abbrev pub kept_class : Option Ident → List Node → Node
kept_class (Some i) (name ∷ class ∷ []) = let_if (identifier_in (out-Node name)) (class_span class) i name class
kept_class i ts = Tree kind.ClassDecl ts
