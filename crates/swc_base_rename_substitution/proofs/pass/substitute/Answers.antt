use Rattle.std.proofs.lemmas.Result.{IfOk-weaker}
use Rattle.swc_base_rename_substitution.specs.Names.{new_id}
use Rattle.swc_base_rename_substitution.proofs.KeptFits.{substituted_fits}
use Rattle.swc_base_rename_substitution.proofs.pass.substitute.Goals as goal

pub returns-clause-fits : goal.returns-clause-fits
returns-clause-fits c = IfOk-weaker c.substitute_node.result _ _ (substituted_fits (new_id c.args.names.now) c.args.config.now.keep_class_names c.args.node) c.substitute_node.ensures
