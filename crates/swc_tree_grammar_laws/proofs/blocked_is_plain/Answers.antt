use Rattle.swc_tree_grammar_laws.proofs.blocked_is_plain.Goals as goal
use Rattle.swc_tree_grammar_laws.proofs.Blocked.{blocked_is_plain}

-- src/lib.rt
pub returns : goal.returns
returns c = blocked_is_plain
