use Rattle.text_edit.proofs.alike.+begin_alike.Given as goal

abbrev pub decreases-begin_alike : goal.decreases-begin_alike
decreases-begin_alike l = l.count
