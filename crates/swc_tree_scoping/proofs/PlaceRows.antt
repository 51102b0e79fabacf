-- As what identifiers stand, and what is bound, on small trees.
use Rattle.std.proofs.Common.{◌≡◌, ℕ, false, List, [], ◌∷◌, Some, codes, rules}
use Rattle.swc_tree_node.specs.Lower.swc_tree_marks.specs.declared.ident.Ident.{Ident}
use Rattle.swc_tree_node.specs.declared.kind.Kind.TheVariants as kind
use Rattle.swc_tree_node.specs.declared.kind.Word.TheVariants as word
use Rattle.swc_tree_node.specs.declared.node.Node.{Node, Absent, Word, Text, Span, List as Many, Identifier, Tree, the_lemmas}
use Rattle.swc_tree_scoping.specs.declared.places.Standing.{Standing}
use Rattle.swc_tree_scoping.specs.declared.places.Standing.TheVariants as standing
use Rattle.swc_tree_scoping.specs.declared.places.Place.{Place}
use Rattle.swc_tree_scoping.specs.Places.{Path, program_place, place_at}
use Rattle.swc_tree_scoping.specs.BoundNames.{declared_ids}

abbrev at : Node
at = Span (record { lo = 0; hi = 0 })

abbrev a : List ℕ
a = codes "a"

abbrev unmarked : Ident
unmarked = record { span = record { lo = 0; hi = 0 }; ctxt = []; sym = a }

abbrev expression : Node
expression = Identifier kind.Ident unmarked

abbrev binding : Node
binding = Identifier kind.BindingIdent unmarked

abbrev pair : Node
pair = Tree kind.ParenExpr (at ∷ expression ∷ [])

abbrev elements : List Node → Node
elements ts = Tree kind.ArrayPat (at ∷ Many ts ∷ [])

abbrev declaration : Node → Node
declaration t = Tree kind.VarDecl (at ∷ Word word.Let ∷ Many (Tree kind.VarDeclarator (at ∷ t ∷ Absent ∷ []) ∷ []) ∷ [])

abbrev name : Path
name = 2 ∷ 0 ∷ 1 ∷ []

abbrev stands : Standing → Place
stands r = record { standing = r; strict = false; nested = false }

-- `let a;` declares `a`, and one whose name is the expression `a`, in a pair or not, declares nothing
binding_row : place_at program_place (declaration binding) name ≡ Some (stands standing.Lexical, binding)
binding_row = search (rules, the_lemmas)

expression_row : place_at program_place (declaration expression) name ≡ Some (stands standing.Reference, expression)
expression_row = search (rules, the_lemmas)

pair_row : place_at program_place (declaration pair) (2 ∷ 0 ∷ 1 ∷ 1 ∷ []) ≡ Some (stands standing.Reference, expression)
pair_row = search (rules, the_lemmas)

element_row : place_at program_place (declaration (elements (expression ∷ []))) (2 ∷ 0 ∷ 1 ∷ 1 ∷ 0 ∷ []) ≡ Some (stands standing.Reference, expression)
element_row = search (rules, the_lemmas)

-- `let [a, «a», , a];`
bound_row : declared_ids (declaration (elements (binding ∷ expression ∷ Absent ∷ binding ∷ []))) ≡ (a, []) ∷ (a, []) ∷ []
bound_row = search (rules, the_lemmas)

pair_binds_nothing_row : declared_ids (declaration pair) ≡ []
pair_binds_nothing_row = search (rules, the_lemmas)

-- `function a() {}` and `class a {}`
abbrev function : Node
function = Tree kind.FnDecl (expression ∷ Tree kind.Function (at ∷ Many [] ∷ Tree kind.BlockStmt (at ∷ Many [] ∷ []) ∷ Absent ∷ Absent ∷ []) ∷ [])

function_row : declared_ids function ≡ (a, []) ∷ []
function_row = search (rules, the_lemmas)

function_name_row : place_at program_place function (0 ∷ []) ≡ Some (stands standing.Function, expression)
function_name_row = search (rules, the_lemmas)

abbrev class : Node
class = Tree kind.ClassDecl (expression ∷ Tree kind.Class (at ∷ Absent ∷ Many [] ∷ []) ∷ [])

class_row : declared_ids class ≡ (a, []) ∷ []
class_row = search (rules, the_lemmas)

class_name_row : place_at program_place class (0 ∷ []) ≡ Some (stands standing.Lexical, expression)
class_name_row = search (rules, the_lemmas)

-- `export { a as a } from "m";`
abbrev source : Node → Node
source s = Tree kind.NamedExport (at ∷ Many (Tree kind.ExportNamedSpecifier (at ∷ expression ∷ expression ∷ []) ∷ []) ∷ s ∷ Absent ∷ [])

abbrev module_text : Node
module_text = Tree kind.Str (at ∷ Text (codes "m") ∷ Absent ∷ [])

imported_row : place_at program_place (source module_text) (1 ∷ 0 ∷ 1 ∷ []) ≡ Some (stands standing.Imported, expression)
imported_row = search (rules, the_lemmas)

exported_row : place_at program_place (source module_text) (1 ∷ 0 ∷ 2 ∷ []) ≡ Some (stands standing.Exported, expression)
exported_row = search (rules, the_lemmas)

local_row : place_at program_place (source Absent) (1 ∷ 0 ∷ 1 ∷ []) ≡ Some (stands standing.Reference, expression)
local_row = search (rules, the_lemmas)

-- `a: ;`
label_row : place_at program_place (Tree kind.LabeledStmt (at ∷ expression ∷ Tree kind.EmptyStmt (at ∷ []) ∷ [])) (1 ∷ []) ≡ Some (stands standing.Label, expression)
label_row = search (rules, the_lemmas)
