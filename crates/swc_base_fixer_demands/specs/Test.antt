-- What is asked of one expression, in the words of the grammar.
use Rattle.std.specs.Prelude.{◌+◌, Bool, true, false, Option, Some}
use Rattle.swc_tree_node.specs.declared.kind.Word.{Word}
use Rattle.swc_tree_node.specs.declared.kind.Word.TheVariants as word
use Rattle.swc_tree_grammar.specs.Levels.{level_of_word}
use Rattle.swc_tree_grammar.specs.Demands.{Demand}
use Rattle.swc_tree_grammar.specs.Demands.Demand.{AtLeast, Body, Operand, Link, OrSide, NullishSide}
use Rattle.swc_base_fixer_demands.specs.declared.demand.Test.{Test}
use Rattle.swc_base_fixer_demands.specs.declared.demand.Test.TheVariants as test

abbrev pub asked : Test → Demand
asked (test.AtLeast n) = AtLeast n
asked test.Body = Body
asked test.Operand = Operand
asked test.Link = Link
asked test.OrSide = OrSide
asked test.NullishSide = NullishSide

-- what stands behind an operator that stands before its operand, and behind `await`, is asked
abbrev pub behind_operator : Test
behind_operator = test.AtLeast 15

-- what the sides of an operator and the object of a member are asked
abbrev pub left_test : Option Word → Test
left_test (Some word.LogicalOr) = test.OrSide
left_test (Some word.NullishCoalescing) = test.NullishSide
left_test (Some word.Exp) = test.AtLeast 16
left_test op = test.AtLeast (level_of_word op)

abbrev pub right_test : Option Word → Test
right_test (Some word.LogicalOr) = test.OrSide
right_test (Some word.LogicalAnd) = test.AtLeast 5
right_test (Some word.NullishCoalescing) = test.NullishSide
right_test (Some word.Exp) = test.AtLeast 14
right_test op = test.AtLeast (level_of_word op + 1)

abbrev pub object_test : Bool → Test
object_test true = test.Link
object_test false = test.Operand
