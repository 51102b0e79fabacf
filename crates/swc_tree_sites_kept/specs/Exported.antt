-- What a module exports that it declares: the names in its export lists without a source.
use Rattle.std.specs.Prelude.{List, [], ◌∷◌, if◌then◌else◌}
use Rattle.std.specs.List.{flat_map}
use Rattle.swc_tree_marks.specs.declared.ident.Ident.{Ident}
use Rattle.swc_tree_node.specs.declared.kind.Kind.TheVariants as kind
use Rattle.swc_tree_node.specs.declared.node.Node.{Node, out-Node}
use Rattle.swc_tree_node.specs.declared.node.Node.TheOpen.{Node-F}
use Rattle.swc_tree_grammar.specs.Levels.{is_absent}
use Rattle.swc_tree_grammar.specs.Shapes.{Module, items_of}

abbrev pub name_in : Node-F Node → List Ident
name_in (Node-F.Identifier k i) = i ∷ []
name_in _ = []

abbrev pub specifier_in : Node-F Node → List Ident
specifier_in (Node-F.Tree kind.ExportNamedSpecifier (span ∷ orig ∷ exported ∷ [])) = name_in (out-Node orig)
specifier_in _ = []

-- what a specifier of an export list exports
abbrev pub specified : Node → List Ident
specified t = specifier_in (out-Node t)

abbrev pub item_in : Node-F Node → List Ident
item_in (Node-F.Tree kind.NamedExport (span ∷ specifiers ∷ src ∷ attributes ∷ [])) = if is_absent src then flat_map specified (items_of specifiers) else []
item_in _ = []

-- what an item of a module does
abbrev pub listed : Node → List Ident
listed t = item_in (out-Node t)

abbrev pub module_in : Node-F Node → List Ident
module_in (Module span body shebang) = flat_map listed (items_of body)
module_in _ = []

-- ... and all of them
abbrev pub exported_locals : Node → List Ident
exported_locals t = module_in (out-Node t)
