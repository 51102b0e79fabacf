-- What the definition says of small programs.
use Rattle.std.proofs.Common.{◌≡◌, ℕ, true, false, Some, None, List, [], ◌∷◌, refl, rules, cond}
use Rattle.std.specs.Prelude.{codes}
use Rattle.swc_tree_node.specs.declared.kind.Kind.TheVariants as kind
use Rattle.swc_tree_node.specs.declared.kind.Word.TheVariants as word
use Rattle.swc_tree_node.specs.declared.node.Node.{Node, Absent, Word, Text, Span, List as Many, Identifier, Tree, the_lemmas}
use Rattle.swc_tree_node.specs.declared.kind.Class.TheVariants as class
use Rattle.swc_tree_node.specs.declared.slot.Content.TheVariants as content
use Rattle.swc_tree_node.specs.declared.slot.Slot.TheVariants as slot
use Rattle.swc_base_rename_substitution.specs.Room.{has_room}
use Rattle.swc_base_rename_substitution.specs.Names.{same_id, if_other_text}
use Rattle.swc_base_rename_substitution.specs.Identifiers.{Changes}
use Rattle.swc_base_rename_substitution.specs.Substituted.{Substituted}

abbrev here : Node
here = Span (record { lo = 0; hi = 0 })

-- a text with the context of the marks
abbrev name : List ℕ → List ℕ → Node
name x c = Identifier kind.Ident (record { span = record { lo = 0; hi = 0 }; ctxt = c; sym = x })

abbrev binding : List ℕ → List ℕ → Node
binding x c = Identifier kind.BindingIdent (record { span = record { lo = 0; hi = 0 }; ctxt = c; sym = x })

abbrev key : List ℕ → Node
key x = Tree kind.IdentName (here ∷ Text x ∷ [])

abbrev text : List ℕ → Node
text x = Tree kind.Str (here ∷ Text x ∷ Absent ∷ [])

abbrev program : List Node → Node
program ts = Tree kind.Module (here ∷ Many ts ∷ Absent ∷ [])

abbrev statement : Node → Node
statement t = Tree kind.ExprStmt (here ∷ t ∷ [])

abbrev declaration : Node → Node → Node
declaration t value = Tree kind.VarDecl (here ∷ Word word.Let ∷ Many (Tree kind.VarDeclarator (here ∷ t ∷ value ∷ []) ∷ []) ∷ [])

abbrev pattern_of : List Node → Node
pattern_of ts = Tree kind.ObjectPat (here ∷ Many ts ∷ [])

abbrev short : Node → Node → Node
short t value = Tree kind.AssignPatProp (here ∷ t ∷ value ∷ [])

abbrev pair : List ℕ → Node → Node
pair x t = Tree kind.KeyValuePatProp (key x ∷ t ∷ [])

abbrev exported : Node → Node
exported t = Tree kind.ExportDecl (here ∷ t ∷ [])

abbrev local : Node → Node → Node
local t «as» = Tree kind.ExportNamedSpecifier (here ∷ t ∷ «as» ∷ [])

abbrev exports : List Node → Node → Node
exports ts source = Tree kind.NamedExport (here ∷ Many ts ∷ source ∷ Absent ∷ [])

abbrev imports : Node → Node
imports t = Tree kind.ImportDecl (here ∷ Many (t ∷ []) ∷ text (codes "m") ∷ Absent ∷ [])

-- a class with one static block of one statement
abbrev class_of : Node → Node
class_of t = Tree kind.Class (here ∷ Absent ∷ Many (Tree kind.StaticBlock (here ∷ Tree kind.BlockStmt (here ∷ Many (statement t ∷ []) ∷ []) ∷ []) ∷ []) ∷ [])

-- a class that extends another, and has nothing more
abbrev heir_of : Node → Node
heir_of t = Tree kind.Class (here ∷ t ∷ Many [] ∷ [])

abbrev object : Node → Node
object t = Tree kind.ObjectLit (here ∷ Many (t ∷ []) ∷ [])

abbrev property : Node → Node → Node
property k t = Tree kind.KeyValueProp (k ∷ t ∷ [])

abbrev a : List ℕ
a = codes "a"

abbrev b : List ℕ
b = codes "b"

abbrev c : List ℕ
c = codes "c"

abbrev o : Node
o = name (codes "o") []

-- the text with the mark 1 becomes another with the empty context
abbrev becomes : List ℕ → List ℕ → Changes
becomes x y i = cond (same_id i (x, 1 ∷ [])) (Some (y, [])) None

-- let { a = 1 } = o; export { a };
pattern_row : Substituted (becomes a b) false (program (declaration (pattern_of (short (binding a (1 ∷ [])) o ∷ [])) o ∷ exports (local (name a (1 ∷ [])) Absent ∷ []) Absent ∷ []))
    (program (declaration (pattern_of (pair a (Tree kind.AssignPat (here ∷ binding b [] ∷ o ∷ [])) ∷ [])) o ∷ exports (local (name b []) (name a []) ∷ []) Absent ∷ []))
pattern_row = search (rules, the_lemmas)

-- export let { a, c } = o;
export_row : Substituted (becomes a b) false (program (exported (declaration (pattern_of (short (binding a (1 ∷ [])) Absent ∷ short (binding c (1 ∷ [])) Absent ∷ [])) o) ∷ []))
    (program (declaration (pattern_of (pair a (binding b []) ∷ short (binding c (1 ∷ [])) Absent ∷ [])) o ∷ exports (local (name b []) (name a []) ∷ local (name c (1 ∷ [])) Absent ∷ []) Absent ∷ []))
export_row = search (rules, the_lemmas)

-- export let «a»; an expression for the name declares nothing, so there is nothing to list
expression_row : Substituted (becomes a b) false (program (exported (declaration (name a (1 ∷ [])) Absent) ∷ [])) (program (exported (declaration (name b []) Absent) ∷ []))
expression_row = search (rules, the_lemmas)

-- export let [a, a] = o;
twice_row : Substituted (becomes a b) false (program (exported (declaration (Tree kind.ArrayPat (here ∷ Many (binding a (1 ∷ []) ∷ binding a (1 ∷ []) ∷ []) ∷ [])) o) ∷ []))
    (program (declaration (Tree kind.ArrayPat (here ∷ Many (binding b [] ∷ binding b [] ∷ []) ∷ [])) o ∷ exports (local (name b []) (name a []) ∷ []) Absent ∷ []))
twice_row = search (rules, the_lemmas)

-- export { a } from "m"; import { a } from "m"; a: ;
other_names_row : Substituted (becomes a b) false
    (program (exports (local (name a (1 ∷ [])) Absent ∷ []) (text (codes "m")) ∷ imports (Tree kind.ImportNamedSpecifier (here ∷ name a (1 ∷ []) ∷ Absent ∷ [])) ∷ Tree kind.LabeledStmt (here ∷ name a (1 ∷ []) ∷ Tree kind.EmptyStmt (here ∷ []) ∷ []) ∷ []))
    (program (exports (local (name a (1 ∷ [])) Absent ∷ []) (text (codes "m")) ∷ imports (Tree kind.ImportNamedSpecifier (here ∷ name b [] ∷ name a [] ∷ [])) ∷ Tree kind.LabeledStmt (here ∷ name a (1 ∷ []) ∷ Tree kind.EmptyStmt (here ∷ []) ∷ []) ∷ []))
other_names_row = search (rules, the_lemmas)

-- class a extends a {}
class_row : Substituted (becomes a b) true (Tree kind.ClassDecl (name a (1 ∷ []) ∷ heir_of (name a (1 ∷ [])) ∷ []))
    (declaration (binding b []) (Tree kind.ClassExpr (name a [] ∷ heir_of (name b []) ∷ [])))
class_row = search (rules, the_lemmas)

-- class c extends a {}
other_class_row : Substituted (becomes a b) true (Tree kind.ClassDecl (name c (1 ∷ []) ∷ heir_of (name a (1 ∷ [])) ∷ []))
    (declaration (binding c (1 ∷ [])) (Tree kind.ClassExpr (name c [] ∷ heir_of (name b []) ∷ [])))
other_class_row = search (rules, the_lemmas)

-- export class a { static { a; } }
exported_class_row : Substituted (becomes a b) true (program (exported (Tree kind.ClassDecl (name a (1 ∷ []) ∷ class_of (name a (1 ∷ [])) ∷ [])) ∷ []))
    (program (Tree kind.ClassDecl (name b [] ∷ class_of (name b []) ∷ []) ∷ exports (local (name b []) (name a []) ∷ []) Absent ∷ []))
exported_class_row = search (rules, the_lemmas)

-- export default class a { static { a; } }
default_class_row : Substituted (becomes a b) true (program (Tree kind.ExportDefaultDecl (here ∷ Tree kind.ClassExpr (name a (1 ∷ []) ∷ class_of (name a (1 ∷ [])) ∷ []) ∷ []) ∷ []))
    (program (Tree kind.ExportDefaultDecl (here ∷ Tree kind.ClassExpr (name a [] ∷ class_of (name b []) ∷ []) ∷ []) ∷ []))
default_class_row = search (rules, the_lemmas)

-- the same where classes do not keep their names
renamed_class_row : Substituted (becomes a b) false (program (Tree kind.ExportDefaultDecl (here ∷ Tree kind.ClassExpr (name a (1 ∷ []) ∷ class_of (name a (1 ∷ [])) ∷ []) ∷ []) ∷ []))
    (program (Tree kind.ExportDefaultDecl (here ∷ Tree kind.ClassExpr (name b [] ∷ class_of (name b []) ∷ []) ∷ []) ∷ []))
renamed_class_row = search (rules, the_lemmas)

-- ({ __proto__ }); ({ a });
prototype_row : Substituted (becomes (codes "__proto__") b) false (program (statement (object (name (codes "__proto__") (1 ∷ []))) ∷ []))
    (program (statement (object (property (Tree kind.ComputedPropName (here ∷ text (codes "__proto__") ∷ [])) (name b []))) ∷ []))
prototype_row = search (rules, the_lemmas)

shorthand_row : Substituted (becomes a b) false (program (statement (object (name a (1 ∷ []))) ∷ [])) (program (statement (object (property (key a) (name b []))) ∷ []))
shorthand_row = search (rules, the_lemmas)

-- to the same text with another context
same_text_row : if_other_text (a, 1 ∷ []) (Some (a, 2 ∷ [])) ≡ None
same_text_row = search rules

-- programs, their lists of items and expressions have room for what is written out
room_row : (has_room (slot.One (content.Node class.Module)) ≡ true) × (has_room (slot.One (content.Node class.Script)) ≡ true) × (has_room (slot.List (content.Node class.ModuleItem)) ≡ true)
    × (has_room (slot.List (content.Node class.Stmt)) ≡ true) × (has_room (slot.One (content.Node class.Expr)) ≡ true)
room_row = (refl, refl, refl, refl, refl)
