-- Which expressions the reader's table names in a place.
use Rattle.std.specs.Prelude.{Bool, ◌&&◌}
use Rattle.swc_tree_node.specs.declared.node.Node.{Node}
use Rattle.swc_tree_grammar.specs.Kinds.{has_kind, is_yield}
use Rattle.swc_tree_grammar.specs.Readers.{assigns_to, is_odd_left, none}
use Rattle.swc_base_fixer_due.specs.declared.reader.Naming.{Naming}
use Rattle.swc_base_fixer_due.specs.declared.reader.Naming.TheVariants as naming
use Rattle.swc_base_fixer_demands.specs.Family.{kinds_of}

abbrev pub named : Naming → Node → Bool
named naming.Nothing = none
named (naming.Of family) = has_kind (kinds_of family)
named (naming.AssignmentTo family) = assigns_to (kinds_of family)
named (naming.OddLeft op) = is_odd_left op
named (naming.YieldIf flag) = λ e. flag && has_kind is_yield e
