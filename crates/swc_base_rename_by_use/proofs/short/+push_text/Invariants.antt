use Rattle.swc_base_rename_by_use.proofs.short.+push_text.Given as goal

abbrev pub decreases-push_text : goal.decreases-push_text
decreases-push_text l = l.most
