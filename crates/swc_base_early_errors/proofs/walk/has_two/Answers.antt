use Rattle.swc_base_resolver_program.specs.declared.env.Env.TheVariants.{Top, outs-Top}
use Rattle.swc_base_resolver_program.proofs.Open.{layers_top}
use Rattle.swc_base_early_errors.proofs.Below.{program_walked}
use Rattle.swc_base_early_errors.proofs.walk.has_two.Goals as goal

pub returns : goal.returns
returns c = program_walked c.args.rule c.args.program.now c.in_ok-has_two.has_two c.new-tables.result.items _ _ _ c.new-tables.ensures.items (layers_top Top outs-Top) c.in_ok-has_two.ensures
