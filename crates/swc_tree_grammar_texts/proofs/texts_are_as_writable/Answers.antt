use Rattle.swc_tree_grammar_texts.proofs.texts_are_as_writable.Goals as goal
use Rattle.swc_tree_grammar_texts.proofs.TextsLaws.{texts_are_as_writable}

-- src/lib.rt
pub returns : goal.returns
returns c = texts_are_as_writable
