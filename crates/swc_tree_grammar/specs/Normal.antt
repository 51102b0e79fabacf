-- The normal form of a program: what is left of it when all is written out that may be written shorter, and
-- taken off what may be left out.
use Rattle.std.specs.Prelude.{List, [], ◌∷◌, map, Bool, not, ◌&&◌, nat_eq, if◌then◌else◌}
use Rattle.std.specs.List.{flat_map, filter}
use Rattle.std.specs.Cmp.Lexicographic.{pointwise}
use Rattle.swc_tree_node.specs.Lower.swc_tree_marks.specs.declared.ident.Ident.{Ident}
use Rattle.swc_tree_node.specs.declared.kind.Kind.TheVariants as kind
use Rattle.swc_tree_node.specs.declared.node.Node.{Node, Absent, Span, List as Many, Identifier, Tree, out-Node, roll-Node, fold-Node}
use Rattle.swc_tree_node.specs.declared.node.Node.TheOpen.{Node-F}
use Rattle.swc_tree_scoping.specs.BoundNames.{Id, declared_ids}
use Rattle.swc_tree_scoping.specs.Shorthands.{key_of, shorthand_key}
use Rattle.swc_tree_grammar.specs.Shapes.{If, Block, Arrow, Setter, Declarator, AssignPat, AssignPatProp, ForIn, ForOf, Module, items_of}
use Rattle.swc_tree_grammar.specs.Levels.{is_absent}
use Rattle.swc_tree_grammar.specs.Blocks.{takes_else, no_span}
use Rattle.swc_tree_grammar.specs.Stripped.{stripped}

-- a block round one statement that ends in an `if` without `else` goes
abbrev pub only_in : Node → List Node → Node
only_in t (s ∷ []) = if takes_else s then s else t
only_in t _ = t

abbrev pub opened_in : Node → Node-F Node → Node
opened_in t (Block span stmts) = only_in t (items_of stmts)
opened_in t _ = t

abbrev pub opened : Node → Node
opened t = opened_in t (out-Node t)

-- the name that stands in the place of what was not written
abbrev pub plain_name : Ident → Node
plain_name i = Identifier kind.Ident (record { span = i.span; ctxt = []; sym = i.sym })

abbrev pub property_in : Node → Node-F Node → Node
property_in t (Node-F.Identifier k i) = Tree kind.KeyValueProp (shorthand_key i ∷ t ∷ [])
property_in t _ = t

abbrev pub property : Node → Node
property t = property_in t (out-Node t)

-- an expression that is a name, where a pattern stands, is a pattern
abbrev pub pattern_in : Node → Node-F Node → Node
pattern_in t (Node-F.Identifier kind.Ident i) = Identifier kind.BindingIdent i
pattern_in t _ = t

abbrev pub as_pattern : Node → Node
as_pattern t = pattern_in t (out-Node t)

abbrev pub with_default : Node → Node → Node → Node
with_default span name value = if is_absent value then name else Tree kind.AssignPat (span ∷ name ∷ value ∷ [])

-- the key of a shorthand in a pattern, written out
abbrev pub pattern_property_in : Node → Node → Node → Node-F Node → Node
pattern_property_in span key value (Node-F.Identifier k i) = Tree kind.KeyValuePatProp (key_of i ∷ with_default (Span i.span) key value ∷ [])
pattern_property_in span key value _ = Tree kind.AssignPatProp (span ∷ key ∷ value ∷ [])

-- what a specifier leaves out, the other name again
abbrev pub again_in : Node → Node-F Node → Node
again_in t (Node-F.Identifier k i) = plain_name i
again_in t _ = t

abbrev pub again : Node → Node → Node
again name other = if is_absent other then again_in name (out-Node name) else other

-- two identifiers have one text and one context
abbrev pub same_id : Ident → Ident → Bool
same_id i j = pointwise nat_eq i.sym j.sym && pointwise nat_eq i.ctxt j.ctxt

abbrev pub each_once : List Ident → List Ident
each_once [] = []
each_once (i ∷ is) = i ∷ filter (λ j. not (same_id i j)) (each_once is)

abbrev pub made : Id → Ident
made x = record { span = no_span; ctxt = x.1; sym = x.0 }

abbrev pub exported_as_itself : Ident → Node
exported_as_itself i = Tree kind.ExportNamedSpecifier (Span no_span ∷ Identifier kind.Ident i ∷ plain_name i ∷ [])

abbrev pub export_list : List Ident → Node
export_list is = Tree kind.NamedExport (Span no_span ∷ Many (map exported_as_itself is) ∷ Absent ∷ Absent ∷ [])

-- an exported declaration as the declaration and, right behind it, its export list (ECMA-262, 16.2.3)
abbrev pub split_in : Node → Node-F Node → List Node
split_in t (Node-F.Tree kind.ExportDecl (span ∷ decl ∷ [])) = decl ∷ export_list (each_once (map made (declared_ids decl))) ∷ []
split_in t _ = t ∷ []

abbrev pub split : Node → List Node
split t = split_in t (out-Node t)

abbrev pub specifier_in : Node → Node-F Node → Node
specifier_in t (Node-F.Tree kind.ExportNamedSpecifier (span ∷ orig ∷ exported ∷ [])) = Tree kind.ExportNamedSpecifier (span ∷ orig ∷ again orig exported ∷ [])
specifier_in t _ = t

abbrev pub specifier : Node → Node
specifier t = specifier_in t (out-Node t)

abbrev pub written_step : Node-F Node → Node
written_step (If span test cons alt) = Tree kind.IfStmt (span ∷ test ∷ opened cons ∷ alt ∷ [])
written_step (Node-F.Tree kind.ObjectLit (span ∷ props ∷ [])) = Tree kind.ObjectLit (span ∷ Many (map property (items_of props)) ∷ [])
written_step (AssignPatProp span key value) = pattern_property_in span key value (out-Node key)
written_step (Node-F.Tree kind.ArrayPat (span ∷ elems ∷ [])) = Tree kind.ArrayPat (span ∷ Many (map as_pattern (items_of elems)) ∷ [])
written_step (Node-F.Tree kind.RestPat (span ∷ arg ∷ [])) = Tree kind.RestPat (span ∷ as_pattern arg ∷ [])
written_step (Node-F.Tree kind.KeyValuePatProp (key ∷ value ∷ [])) = Tree kind.KeyValuePatProp (key ∷ as_pattern value ∷ [])
written_step (AssignPat span left right) = Tree kind.AssignPat (span ∷ as_pattern left ∷ right ∷ [])
written_step (Node-F.Tree kind.Param (span ∷ pat ∷ [])) = Tree kind.Param (span ∷ as_pattern pat ∷ [])
written_step (Arrow span params body is_async) = Tree kind.ArrowExpr (span ∷ Many (map as_pattern (items_of params)) ∷ body ∷ is_async ∷ [])
written_step (Setter span key param body) = Tree kind.SetterProp (span ∷ key ∷ as_pattern param ∷ body ∷ [])
written_step (Declarator span name init) = Tree kind.VarDeclarator (span ∷ as_pattern name ∷ init ∷ [])
written_step (Node-F.Tree kind.CatchClause (span ∷ param ∷ body ∷ [])) = Tree kind.CatchClause (span ∷ as_pattern param ∷ body ∷ [])
written_step (ForIn span left right body) = Tree kind.ForInStmt (span ∷ as_pattern left ∷ right ∷ body ∷ [])
written_step (ForOf span is_await left right body) = Tree kind.ForOfStmt (span ∷ is_await ∷ as_pattern left ∷ right ∷ body ∷ [])
written_step (Node-F.Tree kind.ImportNamedSpecifier (span ∷ local ∷ imported ∷ [])) = Tree kind.ImportNamedSpecifier (span ∷ local ∷ again local imported ∷ [])
written_step (Node-F.Tree kind.NamedExport (span ∷ specifiers ∷ src ∷ attributes ∷ [])) =
    Tree kind.NamedExport (span ∷ (if is_absent src then Many (map specifier (items_of specifiers)) else specifiers) ∷ src ∷ attributes ∷ [])
written_step (Module span body shebang) = Tree kind.Module (span ∷ Many (flat_map split (items_of body)) ∷ shebang ∷ [])
written_step t = roll-Node t

abbrev pub written_out : Node → Node
written_out = fold-Node Node written_step

abbrev pub normal_form : Node → Node
normal_form t = written_out (stripped t)
