use Rattle.std.proofs.Common.{subst}
use Rattle.swc_base_rename_program.specs.NewTexts.{IsTableOf}
use Rattle.swc_base_rename_program.proofs.Maps.{given_table}
use Rattle.swc_base_rename_program.proofs.alone.with_names.Goals as goal

pub returns-in_ok-tree-in-Some-clause-given : goal.returns-in_ok-tree-in-Some-clause-given
returns-in_ok-tree-in-Some-clause-given c = λ new_texts is_table.
    given_table c.in-Some.table new_texts c.args.config.now.keep_class_names c.args.tree c.in_ok-tree-in-Some.tree (subst (IsTableOf new_texts) c.in-Some.is is_table) c.in_ok-tree-in-Some.ensures.answer
