use Rattle.text_derives.proofs.Law.{decides}
use Rattle.text_derives.proofs.grammar.derives.Goals as goal

pub returns : goal.returns
returns c = decides c.args.program.now c.is_derived_program.result c.is_derived_program.ensures
