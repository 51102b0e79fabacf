use Rattle.mucwathi_mappings.proofs.digits.+add_number.Given as goal

abbrev pub decreases-add_number : goal.decreases-add_number
decreases-add_number l = l.number
