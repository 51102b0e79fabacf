use Rattle.mucwathi_passes.proofs.Made.{bared_made}
use Rattle.mucwathi_passes.proofs.passes.bare.Goals as goal

pub returns : goal.returns
returns c = bared_made c.args.program c.remove_parens.result c.remove_parens.ensures.answer c.remove_parens.ensures.not_assignable c.remove_parens.ensures.no_memory
