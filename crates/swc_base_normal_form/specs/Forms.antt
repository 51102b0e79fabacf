-- Words for the code: which field of a node is written out, and as what.
use Rattle.std.specs.Prelude.{ℕ, Bool, true, false, Option, Some, None, List, [], ◌∷◌, map, if◌then◌else◌}
use Rattle.std.specs.List.{flat_map}
use Rattle.swc_tree_node.specs.declared.kind.Kind.{Kind}
use Rattle.swc_tree_node.specs.declared.kind.Kind.TheVariants as kind
use Rattle.swc_tree_node.specs.declared.node.Node.{Node, List as Many, out-Node}
use Rattle.swc_tree_node.specs.declared.node.Node.TheOpen.{Node-F}
use Rattle.swc_tree_grammar.specs.Blocks.{takes_else}
use Rattle.swc_tree_grammar.specs.Levels.{is_absent}
use Rattle.swc_tree_grammar.specs.Normal.{again, as_pattern, opened, property, specifier, split}
use Rattle.swc_tree_grammar.specs.Shapes.{items_of}
use Rattle.swc_base_normal_form.specs.declared.forms.Part.{Part}
use Rattle.swc_base_normal_form.specs.declared.forms.Part.TheVariants as part
use Rattle.swc_base_normal_form.specs.declared.forms.Form.{Form}
use Rattle.swc_base_normal_form.specs.declared.forms.Form.TheVariants as form

abbrev pub as_part : Part → Node → Node
as_part part.Statement t = opened t
as_part part.Pattern t = as_pattern t
as_part part.Property t = property t
as_part part.Specifier t = specifier t

abbrev pub in_form : Form → Node → Node
in_form (form.One p) t = as_part p t
in_form (form.Each p) t = Many (map (as_part p) (items_of t))
in_form form.Items t = Many (flat_map split (items_of t))

abbrev pub pattern_field : Kind → List Node → Option (ℕ × Form)
pattern_field kind.ArrayPat (span ∷ elems ∷ []) = Some (1, form.Each part.Pattern)
pattern_field kind.ArrowExpr (span ∷ params ∷ body ∷ is_async ∷ []) = Some (1, form.Each part.Pattern)
pattern_field kind.RestPat (span ∷ arg ∷ []) = Some (1, form.One part.Pattern)
pattern_field kind.KeyValuePatProp (key ∷ value ∷ []) = Some (1, form.One part.Pattern)
pattern_field kind.AssignPat (span ∷ left ∷ right ∷ []) = Some (1, form.One part.Pattern)
pattern_field kind.Param (span ∷ pat ∷ []) = Some (1, form.One part.Pattern)
pattern_field kind.SetterProp (span ∷ key ∷ param ∷ body ∷ []) = Some (2, form.One part.Pattern)
pattern_field kind.VarDeclarator (span ∷ name ∷ init ∷ []) = Some (1, form.One part.Pattern)
pattern_field kind.CatchClause (span ∷ param ∷ body ∷ []) = Some (1, form.One part.Pattern)
pattern_field kind.ForInStmt (span ∷ left ∷ right ∷ body ∷ []) = Some (1, form.One part.Pattern)
pattern_field kind.ForOfStmt (span ∷ is_await ∷ left ∷ right ∷ body ∷ []) = Some (2, form.One part.Pattern)
pattern_field _ _ = None

-- the field that is written out, if it is one
abbrev pub written_field : Kind → List Node → Option (ℕ × Form)
written_field kind.IfStmt (span ∷ test ∷ cons ∷ alt ∷ []) = Some (2, form.One part.Statement)
written_field kind.ObjectLit (span ∷ props ∷ []) = Some (1, form.Each part.Property)
written_field kind.NamedExport (span ∷ specifiers ∷ src ∷ attributes ∷ []) = if is_absent src then Some (1, form.Each part.Specifier) else None
written_field kind.Module (span ∷ body ∷ shebang ∷ []) = Some (1, form.Items)
written_field k ts = pattern_field k ts

-- a name of an import list, by kind and fields
abbrev pub is_import : Kind → List Node → Bool
is_import kind.ImportNamedSpecifier (span ∷ local ∷ imported ∷ []) = true
is_import _ _ = false

-- a shorthand property of a pattern
abbrev pub is_shorthand : Kind → List Node → Bool
is_shorthand kind.AssignPatProp (span ∷ key ∷ value ∷ []) = true
is_shorthand _ _ = false

-- the fields of a specifier with both names
abbrev pub with_both_names : List Node → List Node
with_both_names (span ∷ name ∷ other ∷ []) = span ∷ name ∷ again name other ∷ []
with_both_names ts = ts

-- one statement that ends in an `if` without `else`
abbrev pub is_one_open_in : Node-F Node → Bool
is_one_open_in (Node-F.List (s ∷ [])) = takes_else s
is_one_open_in _ = false

abbrev pub is_one_open : Node → Bool
is_one_open t = is_one_open_in (out-Node t)

abbrev pub opens_in : Node-F Node → Bool
opens_in (Node-F.Tree kind.BlockStmt (span ∷ stmts ∷ [])) = is_one_open stmts
opens_in _ = false

-- a block round one
abbrev pub opens : Node → Bool
opens t = opens_in (out-Node t)
