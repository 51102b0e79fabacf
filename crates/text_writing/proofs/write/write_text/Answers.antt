use Rattle.text_writing.proofs.write.write_text.Goals as goal

pub returns-in-Err-clause-refused : goal.returns-in-Err-clause-refused
returns-in-Err-clause-refused c = c.of_print.ensures c.args.tree.now
