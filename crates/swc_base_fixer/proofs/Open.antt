-- The places of a program's items are open.
use Rattle.std.proofs.Common.{IsTrue, rules}
use Rattle.swc_tree_node.specs.declared.kind.Class.TheVariants as class
use Rattle.swc_tree_node.specs.declared.slot.Slot.TheVariants.{List as Several}
use Rattle.swc_tree_node.specs.declared.slot.Content.TheVariants.{Node as Of}
use Rattle.swc_tree_grammar.specs.Places.{is_open}

pub items_open : IsTrue (is_open (Several (Of class.ModuleItem)))
items_open = search rules

pub statements_open : IsTrue (is_open (Several (Of class.Stmt)))
statements_open = search rules
