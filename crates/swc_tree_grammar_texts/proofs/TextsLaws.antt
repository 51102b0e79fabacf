-- The laws.
use Rattle.swc_tree_grammar_texts.specs.Laws.{TextsAreAsWritable}
use Rattle.swc_tree_grammar_texts.proofs.ClearedSound.{writable_same}

pub texts_are_as_writable : TextsAreAsWritable
texts_are_as_writable t = writable_same t
