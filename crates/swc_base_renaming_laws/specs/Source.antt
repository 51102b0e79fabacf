-- What is said of a program with contexts, said of the program without them.
use Rattle.std.specs.Prelude.{◌≡◌}
use Rattle.swc_tree_node.specs.declared.node.Node.{Node}
use Rattle.swc_tree_scoping.specs.Readings.{by_texts}
use Rattle.swc_tree_grammar.specs.Normal.{normal_form}
use Rattle.swc_tree_grammar.specs.Same.{SameButForBoundNames}
use Rattle.swc_base_rename_units.specs.Eval.{HasEval}

-- where taking contexts away and taking the normal form come to one, as they do in what a resolver answers
abbrev pub SamenessNeedsNoContexts : Type 0
SamenessNeedsNoContexts = (t answer : Node) → normal_form (by_texts t) ≡ by_texts (normal_form t) → SameButForBoundNames t answer → SameButForBoundNames (by_texts t) answer

abbrev pub ReadersNeedNoContexts : Type 0
ReadersNeedNoContexts = (t : Node) → HasEval t → HasEval (by_texts t)
