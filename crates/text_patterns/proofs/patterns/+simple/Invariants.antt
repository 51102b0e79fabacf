use Rattle.text_patterns.proofs.patterns.+simple.Given as goal

abbrev pub decreases-is_simple_target : goal.decreases-is_simple_target
decreases-is_simple_target l = l.depth
