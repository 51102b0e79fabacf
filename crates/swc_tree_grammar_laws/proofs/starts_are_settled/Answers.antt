use Rattle.swc_tree_grammar_laws.proofs.starts_are_settled.Goals as goal
use Rattle.swc_tree_grammar_laws.proofs.Begins.{at_starts}

-- src/lib.rt
pub returns : goal.returns
returns c = at_starts
