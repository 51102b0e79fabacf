use Rattle.std.proofs.Common.{◌≡◌, drop}
use Rattle.swc_tree_grammar.specs.Writable.{elements}
use Rattle.swc_base_writable_rules.specs.Rounds.{round_of}
use Rattle.swc_base_writable_rules.proofs.patterns.are_elements.Given as goal

abbrev pub invariant-loop-i : goal.invariant-loop-i
invariant-loop-i l = elements (round_of l.round) l.nodes ≡ elements (round_of l.round) (drop l.i l.nodes)
