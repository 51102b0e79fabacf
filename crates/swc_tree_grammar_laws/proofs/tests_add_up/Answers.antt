use Rattle.swc_tree_grammar_laws.proofs.tests_add_up.Goals as goal
use Rattle.swc_tree_grammar_laws.proofs.Adds.{tests_add_up}

-- src/lib.rt
pub returns : goal.returns
returns c = tests_add_up
