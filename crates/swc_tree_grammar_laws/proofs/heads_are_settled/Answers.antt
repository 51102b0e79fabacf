use Rattle.swc_tree_grammar_laws.proofs.heads_are_settled.Goals as goal
use Rattle.swc_tree_grammar_laws.proofs.Heads.{headed_in_heads}

-- src/lib.rt
pub returns : goal.returns
returns c = headed_in_heads
