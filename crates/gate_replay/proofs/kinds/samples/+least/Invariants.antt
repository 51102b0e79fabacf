use Rattle.gate_replay.proofs.kinds.samples.+least.Given as goal

abbrev pub decreases-least : goal.decreases-least
decreases-least l = l.depth
