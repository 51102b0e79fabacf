use Rattle.swc_tree_node.proofs.Same.{words_same, identifiers_same, trees_same}
use Rattle.swc_tree_node.proofs.compare.+equals.Goals as goal

pub equals-returns-in-Word-Word : goal.equals-returns-in-Word-Word
equals-returns-in-Word-Word t c = words_same _ _ _ _ _ c.in-Word-Word.is-0 c.in-Word-Word.is-1 c.eq.ensures

pub equals-returns-then-eq : goal.equals-returns-then-eq
equals-returns-then-eq t c =
    identifiers_same _ _ _ _ _ _ _ c.in-Identifier-Identifier.is-0 c.in-Identifier-Identifier.is-1 c.if-eq.ensures (rw (← c.get.ensures) (rw (← c.get-then-eq.ensures) c.eq-then-eq.ensures))

pub equals-returns-then-eq-2 : goal.equals-returns-then-eq-2
equals-returns-then-eq-2 t c =
    trees_same _ _ _ _ _ _ _ c.in-Tree-Tree.is-0 c.in-Tree-Tree.is-1 c.if-eq-2.ensures
    (rw (← c.as_slice-then-eq-2.ensures) (rw (← c.as_slice-then-eq-2-2.ensures) c.all_equal-then-eq-2.ensures))
