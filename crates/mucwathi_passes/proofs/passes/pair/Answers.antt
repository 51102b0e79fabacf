use Rattle.mucwathi_passes.proofs.Made.{paired_made}
use Rattle.mucwathi_passes.proofs.passes.pair.Goals as goal

pub returns : goal.returns
returns c = paired_made c.args.program c.fix_parens.result c.fix_parens.ensures.answer c.fix_parens.ensures.not_assignable c.fix_parens.ensures.no_memory
