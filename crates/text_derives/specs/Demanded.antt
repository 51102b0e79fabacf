-- What is asked of one node, in the words of the grammar.
use Rattle.std.specs.Prelude.{◌+◌, Option, Some}
use Rattle.swc_tree_node.specs.declared.kind.Word.{Word}
use Rattle.swc_tree_node.specs.declared.kind.Word.TheVariants as word
use Rattle.swc_tree_grammar.specs.Levels.{level_of_word}
use Rattle.swc_tree_grammar.specs.Demands.{Demand as Demand'}
use Rattle.swc_tree_grammar.specs.Demands.Demand.{Any, AtLeast, Each, Key, Body, Operand, Link, NewCallee, OrSide, NullishSide}
use Rattle.text_derives.specs.declared.demand.Demand.{Demand}
use Rattle.text_derives.specs.declared.demand.Demand.TheVariants as demand

abbrev pub demanded : Demand → Demand'
demanded demand.Any = Any
demanded (demand.AtLeast n) = AtLeast n
demanded (demand.Each n) = Each n
demanded demand.Key = Key
demanded demand.Body = Body
demanded demand.Operand = Operand
demanded demand.Link = Link
demanded (demand.NewCallee bare) = NewCallee bare
demanded demand.OrSide = OrSide
demanded demand.NullishSide = NullishSide

-- what the sides of an operator are asked
abbrev pub left_demand : Option Word → Demand
left_demand (Some word.LogicalOr) = demand.OrSide
left_demand (Some word.NullishCoalescing) = demand.NullishSide
left_demand (Some word.Exp) = demand.AtLeast 16
left_demand op = demand.AtLeast (level_of_word op)

abbrev pub right_demand : Option Word → Demand
right_demand (Some word.LogicalOr) = demand.OrSide
right_demand (Some word.LogicalAnd) = demand.AtLeast 5
right_demand (Some word.NullishCoalescing) = demand.NullishSide
right_demand (Some word.Exp) = demand.AtLeast 14
right_demand op = demand.AtLeast (level_of_word op + 1)
