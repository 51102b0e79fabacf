use Rattle.swc_tree_grammar_laws.proofs.levels_are_settled.Goals as goal
use Rattle.swc_tree_grammar_laws.proofs.Levels.{by_level}

-- src/lib.rt
pub returns : goal.returns
returns c = by_level
