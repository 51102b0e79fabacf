-- Places that take what is written out.
use Rattle.std.specs.Prelude.{Bool, true, not, ◌&&◌, ◌||◌, IsTrue}
use Rattle.swc_tree_node.specs.declared.kind.Kind.TheVariants as kind
use Rattle.swc_tree_node.specs.declared.slot.Content.{Content}
use Rattle.swc_tree_node.specs.declared.slot.Content.TheVariants as content
use Rattle.swc_tree_node.specs.declared.slot.Slot.{Slot}
use Rattle.swc_tree_node.specs.declared.slot.Slot.TheVariants as slot
use Rattle.swc_tree_node.specs.declared.node.Node.{Node}
use Rattle.swc_tree_node.specs.Fits.{belongs, Fits}

abbrev pub implies : Bool → Bool → Bool
implies a b = not a || b

-- where a class declaration may stand, so may `let`; where `{ a }` in a pattern may stand, so may `{ a: a1 }`
abbrev pub takes_written : Content → Bool
takes_written (content.Node c) =
    implies (belongs kind.ClassDecl c) (belongs kind.VarDecl c) && implies (belongs kind.AssignPatProp c) (belongs kind.KeyValuePatProp c)
takes_written c = true

-- where an exported declaration may stand, so may the declaration and an export list
abbrev pub takes_exports : Content → Bool
takes_exports (content.Node c) =
    implies (belongs kind.ExportDecl c) (belongs kind.NamedExport c && (belongs kind.ClassDecl c && (belongs kind.FnDecl c && (belongs kind.VarDecl c && (belongs kind.UsingDecl c
    && (belongs kind.TsInterfaceDecl c && (belongs kind.TsTypeAliasDecl c && (belongs kind.TsEnumDecl c && belongs kind.TsModuleDecl c))))))))
takes_exports c = true

-- a place that takes what is written out there. Each place of the table is one, and so are those of modules,
-- scripts and lists of their items
abbrev pub has_room : Slot → Bool
has_room (slot.One c) = takes_written c
has_room (slot.Optional c) = takes_written c
has_room (slot.List c) = takes_written c && takes_exports c
has_room (slot.Holes c) = takes_written c && takes_exports c
has_room (slot.OptionalList c) = takes_written c && takes_exports c
has_room s = true

-- a node that fits each place with room that another fits
abbrev pub FitsAs : Node → Node → Type 0
FitsAs before t = (s : Slot) → IsTrue (has_room s) → Fits before s → Fits t s
