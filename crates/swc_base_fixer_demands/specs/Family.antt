-- Which kinds a test takes.
use Rattle.std.specs.Prelude.{Bool}
use Rattle.swc_tree_node.specs.declared.kind.Kind.{Kind}
use Rattle.swc_tree_grammar.specs.Kinds.{is_arrow, is_await, is_block, is_opt_chain, is_class, is_destructuring, is_function, is_literal, is_object, is_object_pattern, is_yield}
use Rattle.swc_tree_grammar.specs.Readers.{is_odd_callee, is_odd_object}
use Rattle.swc_base_fixer_demands.specs.declared.family.Family.{Family}
use Rattle.swc_base_fixer_demands.specs.declared.family.Family.TheVariants as family

abbrev pub kinds_of : Family → Kind → Bool
kinds_of family.Arrow = is_arrow
kinds_of family.Await = is_await
kinds_of family.Block = is_block
kinds_of family.Chain = is_opt_chain
kinds_of family.Class = is_class
kinds_of family.Destructuring = is_destructuring
kinds_of family.Function = is_function
kinds_of family.Literal = is_literal
kinds_of family.Object = is_object
kinds_of family.ObjectPattern = is_object_pattern
kinds_of family.OddCallee = is_odd_callee
kinds_of family.OddObject = is_odd_object
kinds_of family.Yield = is_yield
