-- What the fixer makes of a program, and which comments move.
use Rattle.std.specs.Prelude.{List}
use Rattle.swc_tree_node.specs.declared.node.Node.{Node}
use Rattle.swc_tree_comments.specs.declared.moves.Move.{Move}
use Rattle.swc_tree_grammar.specs.Pairs.{pairs}
use Rattle.swc_tree_grammar.specs.Fixed.{fixed, recorded, moves_to}

-- the stripped program with its blocks and due pairs, each where the program had one round that content
unfoldable pub answer_to : Node → Node
answer_to t = fixed (recorded (pairs t)) t

-- the moves of the pairs that it had and the answer has not
unfoldable pub moves_for : Node → List Move
moves_for t = moves_to t (answer_to t)
